-- The measure of `bisect` is the number of halvings left, 20 - h.
use Rattle.std.proofs.Common.{◌-◌}
use Rattle.bisection.proofs.+bisect.Given as goal

abbrev pub decreases-bisect : goal.decreases-bisect
decreases-bisect l = 20 - l.h
