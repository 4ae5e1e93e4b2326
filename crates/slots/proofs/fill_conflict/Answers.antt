-- `fill_conflict` meets its contract. The bytes of a conflict are as many as the temporary array has, so they replace
-- all of its zeros.
use mathlib.Core.Path.{◌≡◌, sym, ap, ◌∙◌}
use mathlib.Core.List.{List, append-nil}
use Prim.Native.Nat.{ℕ, ◌≤◌}
use native.Mathlib.Omega.{arith}
use borrow.Author.Tests.{le-leb}
use lib.ListN.{length, replicate, drop_of_length-le}
use Rattle.little_endian.specs.Bytes.{has_room, written}
use Rattle.records.specs.Layout.{conflict_size}
use Rattle.records.specs.Records.{conflict_bytes}
use Rattle.records.proofs.Sizes.{conflict_length}
use Rattle.slots.specs.Slots.{padded}
use Rattle.slots.proofs.fill_conflict.Goals as goal

-- Bytes that are written over a buffer of the same length replace all of it.
all_written : (buffer bytes : List ℕ) → length buffer ≡ length bytes → written buffer bytes ≡ bytes
unfolding written has_room
all_written buffer bytes e =
    let whole : length buffer ≤ length bytes = omega arith in
    rw (le-leb (length bytes) (length buffer) (omega arith), drop_of_length-le buffer whole) (append-nil bytes)

pub returns : goal.returns
returns c =
    let a = c.args in
    let bytes = conflict_bytes a.job a.revision in
    let whole = all_written (replicate {A = ℕ} conflict_size 0) bytes (sym (conflict_length a.job a.revision)) in
    c.fill.ensures ∙ ap (padded (length a.slot.now)) (c.write_conflict.ensures.bytes ∙ whole)
