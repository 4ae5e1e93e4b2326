-- A refusal whose number is in 01's table is a well-formed outcome, for any station and reason (`refusal_outcome`). So is an
-- answer with one to eight entries whose chosen ends are 0 or 1 (`answer_outcome`). Both hold for any job and revision. The
-- proofs read back each field that `is_outcome` tests. For the chosen ends this is an induction on the entries.
use mathlib.Core.Path.{◌≡◌, refl}
use mathlib.Core.Bool.{true}
use mathlib.Core.List.Memᴰ.{head as here}
use mathlib.Core.List.Memᴰ.{tail as there}
use mathlib.Core.List.{List, [], ◌∷◌, ◌++◌, append_assoc, Memᴰ}
use Prim.Native.Nat.{ℕ, zero, suc, ◌+◌, ◌*◌, ◌≤◌, ◌<◌}
use native.Mathlib.Nat.{add-zero}
use native.Mathlib.Omega.{arith}
use borrow.Author.Tests.{le-leb, eq-eqb}
use lib.ListN.{length, length-append}
use Rattle.little_endian.specs.Bytes.{number_at}
use Rattle.records.specs.Layout.{CHOSEN, entry_size, refusal_size, answer_size, most_entries, first_number, last_number}
use Rattle.records.specs.Layout.{size_of}
use Rattle.records.specs.Records.{head_bytes, answer_head_of, refusal_bytes, entry_bytes, entries_bytes, answer_bytes}
use Rattle.records.specs.declared.Refusal.{Refusal}
use Rattle.records.specs.declared.Entry.{Entry}
use Rattle.records.proofs.Sizes.{head_length, entry_length, refusal_length}
use Rattle.records.proofs.Answers.{answer_length}
use Rattle.records.proofs.SingleFields.{refusal_size_lem, refusal_kind_lem, refusal_number, answer_size_lem, answer_kind_lem}
use Rattle.records.proofs.SingleFields.{answer_number, chosen_back}
use Rattle.outcomes.proofs.Ends.{all_name}
use Rattle.outcomes.specs.Outcomes.{is_sized, is_refusal, all_name_an_end, is_answer, is_outcome}

sized : (s : List ℕ) (n : ℕ) → length s ≡ n → size_of s ≡ n → is_sized s n ≡ true
unfolding is_sized
sized s n e f = rw (eq-eqb (length s) n e, eq-eqb (size_of s) n f)

-- ---- a refusal

pub refusal_outcome : (r : Refusal) → first_number ≤ r.number → r.number ≤ last_number → is_outcome (refusal_bytes r) ≡ true
unfolding is_outcome is_refusal
refusal_outcome r low high =
    let s = refusal_bytes r in
    let size = sized s (refusal_size r.number) (refusal_length r) (refusal_size_lem r) in
    rw (
      refusal_kind_lem r,
      refusal_number r (omega arith),
      size,
      le-leb first_number r.number low,
      le-leb r.number last_number high,
    )

-- ---- the entries of an answer

-- The chosen end of every entry is 0 (the lower end) or 1 (the upper end).
abbrev pub NameEnds : List Entry → Type 0
NameEnds es = (e : Entry) → Memᴰ e es → e.chosen ≤ 1

chosen_low : (before : List ℕ) (es : List Entry) (i : ℕ) → NameEnds es → i < length es →
    number_at CHOSEN.width (before ++ entries_bytes es) (length before + entry_size * i + CHOSEN.offset) ≤ 1
unfolding entries_bytes
chosen_low before [] i ends h = absurd (omega arith)
chosen_low before (e ∷ es) zero ends h =
    let end : e.chosen ≤ 1 = ends e (here refl) in
    rw (add-zero, chosen_back before e (entries_bytes es) (omega arith)) end
chosen_low before (e ∷ es) (suc i) ends h =
    let past = before ++ entry_bytes e in
    let at : length before + entry_size * suc i + CHOSEN.offset ≡ length past + entry_size * i + CHOSEN.offset =
    omega (arith, length-append before (entry_bytes e), entry_length e) in
    rw (at, ← append_assoc before (entry_bytes e) (entries_bytes es)) (chosen_low past es i (λ d m. ends d (there m)) (omega arith))

-- ---- an answer

pub answer_outcome : (job revision : ℕ) (es : List Entry) → 1 ≤ length es → length es ≤ most_entries → NameEnds es →
    is_outcome (answer_bytes job revision es) ≡ true
unfolding is_outcome is_refusal is_answer answer_bytes
answer_outcome job revision es low high ends =
    let n = length es in
    let h = answer_head_of job revision n in
    let s = answer_bytes job revision es in
    let size = sized s (answer_size n) (answer_length job revision es) (answer_size_lem job revision es high) in
    let named : all_name_an_end n s ≡ true = all_name n s (λ i l. rw (head_length h) at (chosen_low (head_bytes h) es i ends l)) in
    rw (answer_kind_lem job revision es high, answer_number job revision es high, size, named, le-leb 1 n low, le-leb n most_entries high)
