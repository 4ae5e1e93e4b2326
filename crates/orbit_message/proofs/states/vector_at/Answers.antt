-- `vector_at` meets its contract: each return is a case of proofs/StateCases.antt.
use mathlib.Core.List.{List}
use mathlib.Core.Path.{◌≡◌, ◌∙◌}
use mathlib.Core.Bool.{true, false}
use Prim.Native.Nat.{ℕ, ◌+◌}
use Rattle.std.specs.Prelude.{Option, Some, None}
use Rattle.decimal.specs.declared.Decimal.{Decimal}
use Rattle.decimal.specs.Texts.{decimal_in, is_decimal_text, parse_of}
use Rattle.orbit_message.specs.Matches.{matched_value}
use Rattle.orbit_message.specs.Reading.{vector_in}
use Rattle.orbit_message.specs.States.{vector_shown}
use Rattle.orbit_message.proofs.StateCases.{test_failed, test_passed, no_first, no_second, no_third, all_three}
use Rattle.orbit_message.proofs.states.vector_at.Goals as goal

-- What the result of `decimal::parse` says about the value.
refused : (v : List ℕ) (r : Option Decimal) → r ≡ parse_of v → r ≡ None → is_decimal_text v ≡ false
unfolding parse_of
refused v r e f = test_failed (is_decimal_text v) (decimal_in v) r e f

there : (v : List ℕ) (r : Option Decimal) (d : Decimal) → r ≡ parse_of v → r ≡ Some d →
    (is_decimal_text v ≡ true) × (d ≡ decimal_in v)
unfolding parse_of
there v r d e f = test_passed (is_decimal_text v) (decimal_in v) d r e f

pub returns-in_err-decimal_at : goal.returns-in_err-decimal_at
unfolding vector_shown vector_in
returns-in_err-decimal_at c =
    let value : ℕ → List ℕ = λ i. matched_value c.args.s.now c.args.found i in
    let k = c.args.k in
    let no_x = refused (value k) c.decimal_at.result c.decimal_at.ensures c.in_err-decimal_at.was in
    c.from_residual.ensures ∙ no_first is_decimal_text decimal_in (value k) (value (k + 1)) (value (k + 2)) no_x

pub returns-in_err-decimal_at-2 : goal.returns-in_err-decimal_at-2
unfolding vector_shown vector_in
returns-in_err-decimal_at-2 c =
    let value : ℕ → List ℕ = λ i. matched_value c.args.s.now c.args.found i in
    let k = c.args.k in
    let no_y = refused (value (k + 1)) c.decimal_at-2.result c.decimal_at-2.ensures c.in_err-decimal_at-2.was in
    let left = c.from_residual-in_err-decimal_at-2.ensures in
    left ∙ no_second is_decimal_text decimal_in (value k) (value (k + 1)) (value (k + 2)) no_y

pub returns-in_err-decimal_at-3 : goal.returns-in_err-decimal_at-3
unfolding vector_shown vector_in
returns-in_err-decimal_at-3 c =
    let value : ℕ → List ℕ = λ i. matched_value c.args.s.now c.args.found i in
    let k = c.args.k in
    let no_z = refused (value (k + 2)) c.decimal_at-3.result c.decimal_at-3.ensures c.in_err-decimal_at-3.was in
    let left = c.from_residual-in_err-decimal_at-3.ensures in
    left ∙ no_third is_decimal_text decimal_in (value k) (value (k + 1)) (value (k + 2)) no_z

pub returns : goal.returns
unfolding vector_shown vector_in
returns c =
    let value : ℕ → List ℕ = λ i. matched_value c.args.s.now c.args.found i in
    let k = c.args.k in
    let x = c.in_ok-decimal_at in
    let y = c.in_ok-decimal_at-2 in
    let z = c.in_ok-decimal_at-3 in
    let has_x = there (value k) c.decimal_at.result x.field-0 c.decimal_at.ensures x.was in
    let has_y = there (value (k + 1)) c.decimal_at-2.result y.field-0 c.decimal_at-2.ensures y.was in
    let has_z = there (value (k + 2)) c.decimal_at-3.result z.field-0 c.decimal_at-3.ensures z.was in
    let three = all_three is_decimal_text decimal_in (value k) (value (k + 1)) (value (k + 2)) in
    three x.field-0 y.field-0 z.field-0 has_x has_y has_z
