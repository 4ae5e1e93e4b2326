-- `bytes::put_number` meets its contract. The loop invariant is that storing the rest of the number from the current offset
-- on completes what the function has to store.
use Prim.Native.Nat.{◌+◌, ◌-◌}
use mathlib.Core.Path.{◌≡◌}
use lib.ListN.{length}
use lib.Seq.{sets}
use Rattle.little_endian.specs.Bytes.{bytes_of}
use Rattle.little_endian.proofs.bytes.put_number.Given as goal

abbrev pub invariant-loop-i : goal.invariant-loop-i
invariant-loop-i l =
    (length l.out ≡ length l.initial.out) × (sets l.out (l.at + l.i) (bytes_of (l.width - l.i) l.rest)
    ≡ sets l.initial.out l.at (bytes_of l.width l.value))
