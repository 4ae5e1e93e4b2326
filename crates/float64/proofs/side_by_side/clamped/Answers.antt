-- `side_by_side::clamped` meets its contract: the code's choices are those of `clamped_of`.
use Rattle.std.proofs.Common.{◌≡◌, Bool, cond, sym, ap, ◌∙◌, subst}
use lib.Ieee.{Float}
use Rattle.float64.specs.Notation.{◌≺◌}
use Rattle.float64.specs.Internals.{Positive, low_end, at_most_high_end, clamped_of}
use Rattle.float64.proofs.Range.{clamped_positive}
use Rattle.float64.proofs.side_by_side.clamped.Goals as goal

-- The code's second choice, for the result y of the first and the result b of the second test.
chosen : (x : Float) {y : Float} {b : Bool} → y ≡ at_most_high_end x → (low_end ≺ y) ≡ b → cond b y low_end ≡ clamped_of x
unfolding clamped_of
chosen x {y} {b} e t = ap (λ (v : Bool). cond v y low_end) (sym t) ∙ ap (λ (v : Float). cond (low_end ≺ v) v low_end) e

positive : (x r : Float) → r ≡ clamped_of x → Positive r
positive x r e = subst Positive (sym e) (clamped_positive x)

pub returns-then-y : goal.returns-then-y
returns-then-y c =
    let is = chosen c.args.x c.at_most_high_end-y.ensures c.if-y.true in
    record { clamped = is; positive = positive c.args.x _ is }

pub returns-else-y : goal.returns-else-y
returns-else-y c =
    let is = chosen c.args.x c.at_most_high_end-y.ensures c.if-y.false in
    record { clamped = is; positive = positive c.args.x _ is }
