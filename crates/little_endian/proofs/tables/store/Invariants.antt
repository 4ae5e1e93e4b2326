-- `tables::store` meets its contract. The loop invariant is that the numbers left fit in the buffer, and that storing them
-- from the current offset on completes what the function has to store.
use Prim.Native.Nat.{◌+◌}
use mathlib.Core.Path.{◌≡◌}
use lib.ListN.{length}
use lib.Seq.{sets}
use Rattle.little_endian.specs.Tables.{total, packed}
use Rattle.little_endian.proofs.tables.store.Given as goal

abbrev pub invariant-loop-width : goal.invariant-loop-width
invariant-loop-width l =
    let widths_left = l.width-iterator.a.rest.now in
    let values_left = l.width-iterator.b.rest.now in
    (length l.out ≡ length l.initial.out) × (l.at + total widths_left ≡ total l.widths)
    × (sets l.out l.at (packed widths_left values_left) ≡ sets l.initial.out 0 (packed l.widths l.values))
