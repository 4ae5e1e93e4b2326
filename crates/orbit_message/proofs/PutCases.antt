-- The two cases of `put_of`: the buffer is shorter than the message (`too_short`), or the message fits (`message_fits`).
use mathlib.Core.Path.{◌≡◌}
use mathlib.Core.List.{List, ◌++◌}
use Prim.Native.Nat.{ℕ, ◌≤◌, ◌<◌}
use borrow.Author.Tests.{lt-leb, le-leb}
use lib.ListN.{length, take, drop}
use lib.Seq.{length-take-le}
use Rattle.std.specs.Prelude.{Ok}
use Rattle.little_endian.specs.Bytes.{has_room, written}
use Rattle.orbit_message.specs.Writing.{WriteResult, refusal, put_of}
use Rattle.orbit_message.specs.declared.refusals.Refusal.TheVariants.{SmallBuffer}

module _ (bytes out : List ℕ) (n : ℕ) (held : n ≤ length bytes) where
  size : length (take n bytes) ≡ n
  size = length-take-le n bytes held

  pub too_short : length out < n → put_of (take n bytes) out ≡ refusal SmallBuffer out
  unfolding put_of has_room written
  too_short h = rw (size, lt-leb n (length out) h)

  abbrev whole : WriteResult
  whole = record { result = Ok n; buffer = take n bytes ++ drop n out }

  pub message_fits : n ≤ length out → put_of (take n bytes) out ≡ whole
  unfolding put_of has_room written
  message_fits h = rw (size, le-leb n (length out) h)
