-- `bytes::is_zero` meets its contract. The loop invariant: the result so far is `is_zero` of the bytes so far.
use mathlib.Core.Path.{◌≡◌}
use lib.ListN.{take}
use Rattle.slots.specs.Slots.{is_zero}
use Rattle.slots.proofs.bytes.is_zero.Given as goal

abbrev pub invariant-loop-byte : goal.invariant-loop-byte
invariant-loop-byte l = l.zero ≡ is_zero (take l.byte-index l.s)
