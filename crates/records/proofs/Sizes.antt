-- Shows the size of each record's bytes. An outcome is at least as long as a conflict and at most as long as the
-- longest answer (`refusal_room`, `answer_room`).
use mathlib.Core.Path.{◌≡◌}
use mathlib.Core.Bool.{Bool, true, false, cond}
use Prim.Native.Nat.{ℕ, ◌≤◌}
use native.Mathlib.Omega.{arith}
use borrow.Author.Tests.{ne_eqb}
use lib.Dec.{eqb}
use lib.ListN.{length, length-append}
use Rattle.records.specs.Layout.{encode, question_fields, head_fields, void_refusal_fields, entry_fields, conflict_fields}
use Rattle.records.specs.Layout.{question_size, head_size, void_refusal_size, entry_size, refusal_size, answer_size, most_entries}
use Rattle.records.specs.Layout.{answer_room}
use Rattle.records.specs.Layout.{conflict_size, void_number}
use Rattle.records.specs.Records.{question_bytes, head_bytes, entry_bytes, refusal_numbers, refusal_bytes, conflict_bytes}
use Rattle.records.specs.declared.Question.{Question}
use Rattle.records.specs.declared.Head.{Head}
use Rattle.records.specs.declared.Refusal.{Refusal}
use Rattle.records.specs.declared.Entry.{Entry}
use Rattle.little_endian.proofs.Tabled.{bytes_length}

pub question_length_lem : (q : Question) → length (question_bytes q) ≡ question_size
unfolding question_bytes encode question_fields
question_length_lem q = simp (length-append, bytes_length)

pub head_length : (h : Head) → length (head_bytes h) ≡ head_size
unfolding head_bytes encode head_fields
head_length h = simp (length-append, bytes_length)

pub entry_length : (e : Entry) → length (entry_bytes e) ≡ entry_size
unfolding entry_bytes encode entry_fields
entry_length e = simp (length-append, bytes_length)

pub refusal_length : (r : Refusal) → length (refusal_bytes r) ≡ refusal_size r.number
unfolding refusal_bytes encode head_fields void_refusal_fields
refusal_length r = by (eqb r.number void_number)
  where
    by : (b : Bool) → length (encode (cond b void_refusal_fields head_fields) (refusal_numbers r)) ≡ cond b void_refusal_size head_size
    by true = simp (length-append, bytes_length)
    by false = simp (length-append, bytes_length)

pub conflict_length : (job revision : ℕ) → length (conflict_bytes job revision) ≡ conflict_size
unfolding conflict_bytes encode conflict_fields
conflict_length job revision = simp (length-append, bytes_length)

-- ---- comparisons of sizes

-- Every refusal but number 12 has the size of a head.
pub other_refusal_size : (number : ℕ) → (number ≡ void_number → ⊥) → refusal_size number ≡ head_size
other_refusal_size number other = rw (ne_eqb number void_number other)

-- A refusal begins with a head, and a refusal with number 12 is the longest.
pub refusal_between : (number : ℕ) → (head_size ≤ refusal_size number) × (refusal_size number ≤ void_refusal_size)
refusal_between number = by (eqb number void_number)
  where
    by : (b : Bool) → (head_size ≤ cond b void_refusal_size head_size) × (cond b void_refusal_size head_size ≤ void_refusal_size)
    by true = (omega arith, omega arith)
    by false = (omega arith, omega arith)

pub refusal_room : (number : ℕ) → (conflict_size ≤ refusal_size number) × (refusal_size number ≤ answer_room)
refusal_room number = (omega (arith, refusal_between number), omega (arith, refusal_between number))

pub answer_room_lem : (n : ℕ) → n ≤ most_entries → (conflict_size ≤ answer_size n) × (answer_size n ≤ answer_room)
answer_room_lem n h = (omega arith, omega arith)
