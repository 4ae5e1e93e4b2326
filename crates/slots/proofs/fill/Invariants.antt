-- `fill` meets its contract. The loop invariant: the slot keeps its length, and its first i bytes are the first i of
-- the padded bytes.
use Prim.Native.Nat.{◌≤◌}
use mathlib.Core.Path.{◌≡◌}
use lib.ListN.{length, take}
use Rattle.slots.specs.Slots.{padded}
use Rattle.slots.proofs.fill.Given as goal

abbrev pub invariant-loop-i : goal.invariant-loop-i
invariant-loop-i l =
    (l.i ≤ length l.initial.slot) × (length l.slot ≡ length l.initial.slot) × (take l.i l.slot
    ≡ take l.i (padded (length l.initial.slot) l.bytes))
