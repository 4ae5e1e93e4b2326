-- `side_by_side::if_root` meets its contract. Between the ends the clamp changes nothing, so an estimate that passes the test is the root
-- of x itself. The result -1 is not above zero.
use Rattle.std.proofs.Common.{◌≡◌, ℕ, ◌+◌, ◌^◌, ◌≤◌, Bool, true, false, cond, not, ◌&&◌, T, sym, refl, ap, ◌∙◌, subst, arith, rules}
use mathlib.Core.Bool.{false≢true}
use lib.Ieee.{Float, binary64, fits, is_nan, lt, neg, of_bits, to_bits}
use Rattle.float64.specs.Notation.{◌≺◌, 0F, 1F}
use Rattle.float64.specs.Root.{root_of}
use Rattle.float64.specs.Internals.{Positive, low_end, high_end, outside_of}
use Rattle.float64.proofs.Cases.{no_nan, positive_bits, root_by_bits}
use Rattle.float64.proofs.Range.{not_nan, inside, clamped_positive, clamped_normal, clamped_inside}
use Rattle.float64.proofs.side_by_side.if_root.Goals as goal
use Rattle.float64.proofs.side_by_side.if_root.Goals.{Start, After-at_most_high_end-root}

operand_held : (c : Start) → T (fits binary64 c.args.operand)
operand_held c = subst T (sym c.well_formed.1.0.1) tt

operand_positive : (c : Start) → Positive c.args.operand
operand_positive c = subst Positive (sym c.requires) (clamped_positive c.args.x)

root_held : (c : After-at_most_high_end-root) → T (fits binary64 c.at_most_high_end-root.result)
root_held c = search (rules, c.at_most_high_end-root.type_inv)

outside_small : (x : Float) (n : ℕ) → n ≡ outside_of x → n ≤ 1
unfolding outside_of
outside_small x n e = by ((low_end ≺ x) && (x ≺ high_end)) e
  where
    by : (b : Bool) → n ≡ cond b 0 1 → n ≤ 1
    by true h = omega arith
    by false h = omega arith

zero_left : (x y : ℕ) → x + y ≡ 0 → x ≡ 0
zero_left x y h = omega arith

zero_right : (x y : ℕ) → x + y ≡ 0 → y ≡ 0
zero_right x y h = omega arith

not_above_zero : (0F ≺ neg 1F) ≡ false
unfolding lt neg of_bits
not_above_zero = refl

pub float_to_bits-operand : goal.float_to_bits-operand
float_to_bits-operand c = no_nan c.args.operand (operand_positive (goal.at.float_to_bits-operand c).Start)

pub float_to_bits-root : goal.float_to_bits-root
float_to_bits-root c =
    subst (λ (r : Float). T (not (is_nan r))) (sym c.at_most_high_end-root.ensures) (not_nan c.args.estimate)

pub mismatch_of-mismatch-requires : goal.mismatch_of-mismatch-requires
mismatch_of-mismatch-requires c =
    let normal =
    subst (λ (y : Float). T (fits binary64 y) → 2 ^ 52 ≤ to_bits binary64 y) (sym c.requires) (clamped_normal c.args.x) in (
      normal (operand_held (goal.at.mismatch_of-mismatch-requires c).Start),
      (positive_bits c.args.operand (operand_positive (goal.at.mismatch_of-mismatch-requires c).Start) (operand_held
          (goal.at.mismatch_of-mismatch-requires c).Start)).1,
    )

pub overflow_add-mismatch : goal.overflow_add-mismatch
overflow_add-mismatch c =
    let x = c.args.x in
    omega (arith, c.mismatch_of-mismatch.ensures.small, outside_small x c.outside.result c.outside.ensures)

pub returns-then-mismatch-outside-eq0 : goal.returns-then-mismatch-outside-eq0
returns-then-mismatch-outside-eq0 c =
    let o = c.outside.result in
    let between = inside c.args.x (sym c.outside.ensures ∙ zero_right c.mismatch_of-mismatch.result o c.if-mismatch-outside-eq0.true) in
    let same = c.mismatch_of-mismatch.ensures.exact (zero_left c.mismatch_of-mismatch.result o c.if-mismatch-outside-eq0.true) in
    λ t. root_by_bits c.args.operand c.at_most_high_end-root.result (operand_positive
    (goal.at.returns-then-mismatch-outside-eq0 c).Start) (operand_held (goal.at.returns-then-mismatch-outside-eq0 c).Start) (root_held
    (goal.at.returns-then-mismatch-outside-eq0 c).After-at_most_high_end-root) same
    ∙ ap root_of (c.requires ∙ clamped_inside c.args.x between)

pub returns-else-mismatch-outside-eq0 : goal.returns-else-mismatch-outside-eq0
returns-else-mismatch-outside-eq0 c = λ t. absurd (false≢true (sym not_above_zero ∙ t))
