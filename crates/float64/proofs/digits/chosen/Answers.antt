-- `digits::chosen` meets its contract: the code's test is the comparison in `Chosen`.
use Rattle.std.proofs.Common.{arith}
use Rattle.float64.specs.Internals.{below, above}
use Rattle.float64.proofs.digits.chosen.Goals as goal

pub returns-then-y-t : goal.returns-then-y-t
returns-then-y-t c = below (omega (arith, c.if-y-t.true))

pub returns-else-y-t : goal.returns-else-y-t
returns-else-y-t c = above (omega (arith, c.if-y-t.false))
