-- `write_answer` meets its contract: the invariant is `so_far`, the buffer with the head and the first i entries written. The measure is
-- the number of entries left.
use mathlib.Core.Path.{◌≡◌}
use Prim.Native.Nat.{◌-◌, ◌≤◌}
use Rattle.entries.proofs.Written.{so_far}
use Rattle.entries.proofs.answers.write_answer.Given as goal

abbrev pub invariant-loop-i : goal.invariant-loop-i
invariant-loop-i l = (l.i ≤ l.few) × (l.out ≡ so_far l.entries l.i l.initial.out)

abbrev pub decreases-loop-i : goal.decreases-loop-i
decreases-loop-i l = l.few - l.i
