-- `estimate::at_most_high_end` meets its contract: the code's choice is that of `at_most_high_end`.
use Rattle.std.proofs.Common.{Bool, cond, sym, ap}
use Rattle.float64.specs.Internals.{high_end, at_most_high_end}
use Rattle.float64.proofs.estimate.at_most_high_end.Goals as goal

pub returns-then-x : goal.returns-then-x
unfolding at_most_high_end
returns-then-x c = ap (λ (b : Bool). cond b c.args.x high_end) (sym c.if-x.true)

pub returns-else-x : goal.returns-else-x
unfolding at_most_high_end
returns-else-x c = ap (λ (b : Bool). cond b c.args.x high_end) (sym c.if-x.false)
