-- `station_j` meets its contract: the sum of the index and the first j fits in an i32, and it is the j of the station.
use mathlib.Core.Path.{◌≡◌, sym, ◌∙◌}
use Prim.Native.Nat.{ℕ, ◌<◌}
use native.Mathlib.Omega.{arith}
use lib.IntN.{ℤ, pos, ◌+ℤ◌}
use lib.Signed.{mag}
use mir.Syntax.{w32, w64}
use mir.Val.{SFits, to_z, of_z}
use mir.Facts.{to_z-of_z}
use Rattle.stations.proofs.Places.{mag_from, sum_read, sum_fits, j_is_lem}
use Rattle.stations.proofs.station_j.Goals as goal

module _ (i : ℕ) (first : ℤ) (h : i < 65536) (f : mag first < 65536) where
  read_back : to_z w64 (of_z w64 (to_z w64 i +ℤ first)) ≡ pos i +ℤ first
  read_back = to_z-of_z (sum_fits i first h f) ∙ sum_read i first h f

  narrow : SFits w32 (to_z w64 (of_z w64 (to_z w64 i +ℤ first)))
  narrow = rw read_back (record { sfits = omega (arith, mag_from i first, h, f) })

pub overflow_add-result : goal.overflow_add-result
overflow_add-result c = sum_fits c.args.i _ (omega arith) (omega arith)

pub overflow_cast-result-2 : goal.overflow_cast-result-2
overflow_cast-result-2 c = narrow c.args.i _ (omega arith) (omega arith)

pub returns : goal.returns
returns c =
    to_z-of_z (narrow c.args.i _ (omega arith) (omega arith))
    ∙ read_back c.args.i _ (omega arith) (omega arith)
    ∙ sym (j_is_lem c.args.i)
