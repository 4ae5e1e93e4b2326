-- `side_by_side::outside` meets its contract: the code's choice is that of `outside_of`.
use Rattle.std.proofs.Common.{Bool, cond, sym, ap}
use Rattle.float64.specs.Internals.{outside_of}
use Rattle.float64.proofs.side_by_side.outside.Goals as goal

pub returns-then-x : goal.returns-then-x
unfolding outside_of
returns-then-x c = ap (λ (b : Bool). cond b 0 1) (sym c.if-x.true)

pub returns-else-x : goal.returns-else-x
unfolding outside_of
returns-else-x c = ap (λ (b : Bool). cond b 0 1) (sym c.if-x.false)
