-- `bytes::number_at` meets its contract. The loop invariant is that `value` is the number stored in the bytes read so far,
-- which are the highest ones, and that it fits in that many bytes.
use Prim.Native.Nat.{◌<◌, ◌+◌, ◌-◌, ◌*◌, ◌^◌}
use mathlib.Core.Path.{◌≡◌}
use Rattle.little_endian.specs.Bytes.{number_at}
use Rattle.little_endian.proofs.bytes.number_at.Given as goal

abbrev pub invariant-loop-i : goal.invariant-loop-i
invariant-loop-i l = (l.value ≡ number_at (l.width - l.i) l.s (l.at + l.i)) × (l.value < 2 ^ (8 * (l.width - l.i)))
