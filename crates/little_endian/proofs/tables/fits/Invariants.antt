-- `tables::fits` meets its contract. The loop invariant is that the difference between the room left and the sum of the
-- widths left is the same as that between the whole room and the sum of all widths.
use Prim.Native.Nat.{◌+◌}
use mathlib.Core.Path.{◌≡◌}
use lib.ListN.{drop}
use Rattle.little_endian.specs.Tables.{total}
use Rattle.little_endian.proofs.tables.fits.Given as goal

abbrev pub invariant-loop-width : goal.invariant-loop-width
invariant-loop-width l = l.left + total l.widths ≡ l.room + total (drop l.width-index l.widths)
