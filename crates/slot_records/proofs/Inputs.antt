-- The output for a whole input, without a count of its slots: an empty input has an empty output (`empty_input`); a whole question gives
-- its record, followed by the output for the rest (`question_first`); a short last slot gives number 1 (`short_last`). The output is also
-- that of the slots one by one: the output for one slot, followed by the output for the rest if another slot may follow
-- (`records_by_steps`).
use mathlib.Core.Path.{◌≡◌, refl, sym, ap, ◌∙◌}
use mathlib.Core.Bool.{Bool, true, false}
use mathlib.Core.List.{List, [], ◌∷◌, ◌++◌, append-nil}
use Prim.Native.Nat.{ℕ, zero, suc, ◌≤◌, ◌<◌}
use native.Mathlib.Omega.{arith}
use borrow.Author.Tests.{leb-true, leb-false, eq-eqb, ne_eqb}
use lib.Dec.{leb}
use lib.ListN.{length, take, drop, length-drop, length-append}
use lib.Seq.{take-append_seam, drop-append_seam, take_all, length-take-le}
use Rattle.question_record.specs.Record.{record_of}
use Rattle.records.specs.Layout.{question_size}
use Rattle.records.specs.Records.{refusal_with, refusal_bytes}
use Rattle.question_record.proofs.OtherSizes.{other_size}
use Rattle.slot_records.specs.Inputs.{slots_in, slots_of, records_for, records_of, slot_record, slot_reply, BySteps}
use Rattle.slot_records.proofs.SlotSteps.{some_came, none_came}

no_bytes : (input : List ℕ) → length input ≡ 0 → input ≡ []
no_bytes [] h = refl
no_bytes (b ∷ bs) h = absurd (omega (arith, h))

-- ---- The bound on the number of slots

no_slots : (n : ℕ) → slots_in n [] ≡ []
unfolding slots_in
no_slots zero = refl
no_slots (suc n) = refl

enough : (m n : ℕ) (input : List ℕ) → length input ≤ m → length input ≤ n → slots_in m input ≡ slots_in n input
unfolding slots_in
enough zero n input h k = rw (no_bytes input (omega arith)) (sym (no_slots n))
enough (suc m) zero input h k = rw (no_bytes input (omega arith)) refl
enough (suc m) (suc n) [] h k = refl
enough (suc m) (suc n) (b ∷ bs) h k =
    ap (λ (l : List (List ℕ)). take question_size (b ∷ bs) ∷ l) (enough m n (drop question_size (b ∷ bs)) (left m h) (left n k))
  where
    left : (i : ℕ) → length (b ∷ bs) ≤ suc i → length (drop question_size (b ∷ bs)) ≤ i
    left i l = omega (arith, length-drop question_size (b ∷ bs), l)

-- ---- The records

pub empty_input : records_of [] ≡ []
unfolding records_of slots_of slots_in records_for
empty_input = refl

-- An input that is not empty: the record of its first slot, followed by the output for the rest.
slot_first : (input : List ℕ) → 0 < length input →
    records_of input ≡ record_of (take question_size input) ++ records_of (drop question_size input)
unfolding records_of slots_of slots_in records_for
slot_first [] h = absurd (omega (arith, h))
slot_first (b ∷ bs) h =
    let rest = drop question_size (b ∷ bs) in
    let less : length rest ≤ length bs = omega (arith, length-drop question_size (b ∷ bs)) in
    let same = enough (length bs) (length rest) rest less (omega arith) in
    ap (λ (l : List (List ℕ)). record_of (take question_size (b ∷ bs)) ++ records_for l) same

pub question_first : (question rest : List ℕ) → length question ≡ question_size →
    records_of (question ++ rest) ≡ record_of question ++ records_of rest
question_first question rest h =
    let some : 0 < length (question ++ rest) = omega (arith, length-append question rest, h) in
    let front : take question_size (question ++ rest) ≡ question = rw (sym h) (take-append_seam question rest) in
    let behind : drop question_size (question ++ rest) ≡ rest = rw (sym h) (drop-append_seam question rest) in
    slot_first (question ++ rest) some ∙ ap (λ (s : List ℕ). record_of s ++ records_of (drop question_size (question ++ rest))) front
    ∙ ap (λ (s : List ℕ). record_of question ++ records_of s) behind

-- An input that is not empty and not longer than a slot: one record.
one_slot : (s : List ℕ) → 0 < length s → length s ≤ question_size → records_of s ≡ record_of s
one_slot s h k =
    let none : drop question_size s ≡ [] = no_bytes (drop question_size s) (omega (arith, length-drop question_size s)) in
    let all : take question_size s ≡ s = take_all question_size s k in
    slot_first s h ∙ ap (λ (l : List ℕ). record_of (take question_size s) ++ records_of l) none
    ∙ ap (λ (l : List ℕ). record_of (take question_size s) ++ l) empty_input ∙ append-nil (record_of (take question_size s))
    ∙ ap record_of all

pub short_last : (s : List ℕ) → 0 < length s → length s < question_size → records_of s ≡ refusal_bytes (refusal_with 0 0 1)
short_last s h k = one_slot s h (omega arith) ∙ other_size s (λ e. omega (arith, e, k))

-- ---- The output slot by slot

module _ (input : List ℕ) (some : 0 < length input) where
  whole_slot : question_size ≤ length input → BySteps input
  unfolding slot_reply
  whole_slot h =
      let slot = take question_size input in
      let n : length slot ≡ question_size = length-take-le question_size input h in
      let record_is : slot_record slot ≡ record_of slot = some_came slot (λ z. omega (arith, n, z)) in
      rw (eq-eqb (length slot) question_size n, record_is) (slot_first input some)

  short_slot : length input < question_size → BySteps input
  unfolding slot_reply
  short_slot h =
      let all : take question_size input ≡ input = take_all question_size input (omega arith) in
      let record_is : slot_record input ≡ record_of input = some_came input (λ z. omega (arith, some, z)) in
      let other = ne_eqb (length input) question_size (λ e. omega (arith, e, h)) in
      rw (all, other, record_is) (one_slot input some (omega arith) ∙ sym (append-nil (record_of input)))

pub records_by_steps : (input : List ℕ) → BySteps input
unfolding slot_reply
records_by_steps [] = empty_input ∙ sym (ap (λ (s : List ℕ). s ++ []) (none_came [] refl))
records_by_steps (b ∷ bs) = by (leb question_size (length (b ∷ bs))) refl
  where
    by : (whole : Bool) → leb question_size (length (b ∷ bs)) ≡ whole → BySteps (b ∷ bs)
    by true e = whole_slot (b ∷ bs) (omega arith) (leb-true question_size (length (b ∷ bs)) e)
    by false e = short_slot (b ∷ bs) (omega arith) (leb-false question_size (length (b ∷ bs)) e)
