-- `digits::floor_root` meets its contract. The loop invariant is `Kept`: the root of a * 2 ^ 54 is known down to a digit of
-- some weight. The code holds this part of the root in `trial`, the next trial, and a multiple of its remainder in `rest`.
-- The measure is the number of rounds left. The invariant bounds this number by 27, so there are at most 27 rounds.
use Rattle.std.proofs.Common.{◌*◌, ◌^◌}
use Rattle.float64.proofs.Rounds.{Kept, rounds_left}
use Rattle.float64.proofs.digits.floor_root.Given as goal

abbrev pub invariant-loop-ones : goal.invariant-loop-ones
invariant-loop-ones l = Kept (l.a * 2 ^ 54) l.ones l.trial l.rest

abbrev pub decreases-loop-ones : goal.decreases-loop-ones
decreases-loop-ones l = rounds_left l.ones
