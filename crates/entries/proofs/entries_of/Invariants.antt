-- `entries_of` meets its contract: the invariant is that the first i elements hold their entries and the others are unused. The measure
-- is the number of entries left.
use mathlib.Core.Path.{◌≡◌}
use Prim.Native.Nat.{◌-◌, ◌≤◌}
use Rattle.entries.specs.Entries.{places}
use Rattle.entries.proofs.Lists.{entries_up_to}
use Rattle.entries.proofs.entries_of.Given as goal

abbrev pub invariant-loop-i : goal.invariant-loop-i
invariant-loop-i l = (l.i ≤ l.few) × (l.entries ≡ places (entries_up_to l.p l.list l.i))

abbrev pub decreases-loop-i : goal.decreases-loop-i
decreases-loop-i l = l.few - l.i
