-- `vector_of` meets its contract: each return is a case of proofs/StateCases.antt.
use mathlib.Core.Path.{◌≡◌, ◌∙◌}
use mathlib.Core.Bool.{true, false}
use lib.Ieee.{Float}
use Rattle.std.specs.Prelude.{Option, Some, None}
use Rattle.decimal.specs.declared.Decimal.{Decimal}
use Rattle.decimal.specs.Decimals.{is_in_range, decimal_of, round_of}
use Rattle.orbit_message.specs.States.{rounded_vector, vector_of}
use Rattle.orbit_message.proofs.StateCases.{test_failed, test_passed, no_first, no_second, no_third, all_three}
use Rattle.orbit_message.proofs.states.vector_of.Goals as goal

-- What the result of `decimal::round` says about the number.
refused : (x : Float) (r : Option Decimal) → r ≡ round_of x → r ≡ None → is_in_range x ≡ false
unfolding round_of
refused x r e f = test_failed (is_in_range x) (decimal_of x) r e f

there : (x : Float) (r : Option Decimal) (d : Decimal) → r ≡ round_of x → r ≡ Some d → (is_in_range x ≡ true) × (d ≡ decimal_of x)
unfolding round_of
there x r d e f = test_passed (is_in_range x) (decimal_of x) d r e f

pub returns-in_err-round : goal.returns-in_err-round
unfolding vector_of rounded_vector
returns-in_err-round c =
    let v = c.args.v in
    let no_x = refused v.x c.round.result c.round.ensures c.in_err-round.was in
    c.from_residual.ensures ∙ no_first is_in_range decimal_of v.x v.y v.z no_x

pub returns-in_err-round-2 : goal.returns-in_err-round-2
unfolding vector_of rounded_vector
returns-in_err-round-2 c =
    let v = c.args.v in
    let no_y = refused v.y c.round-2.result c.round-2.ensures c.in_err-round-2.was in
    c.from_residual-in_err-round-2.ensures ∙ no_second is_in_range decimal_of v.x v.y v.z no_y

pub returns-in_err-round-3 : goal.returns-in_err-round-3
unfolding vector_of rounded_vector
returns-in_err-round-3 c =
    let v = c.args.v in
    let no_z = refused v.z c.round-3.result c.round-3.ensures c.in_err-round-3.was in
    c.from_residual-in_err-round-3.ensures ∙ no_third is_in_range decimal_of v.x v.y v.z no_z

pub returns : goal.returns
unfolding vector_of rounded_vector
returns c =
    let v = c.args.v in
    let x = c.in_ok-round in
    let y = c.in_ok-round-2 in
    let z = c.in_ok-round-3 in
    let has_x = there v.x c.round.result x.field-0 c.round.ensures x.was in
    let has_y = there v.y c.round-2.result y.field-0 c.round-2.ensures y.was in
    let has_z = there v.z c.round-3.result z.field-0 c.round-3.ensures z.was in
    all_three is_in_range decimal_of v.x v.y v.z x.field-0 y.field-0 z.field-0 has_x has_y has_z
