-- Shows three facts about a whole answer. Its size is `answer_size` of the number of its entries (`answer_length`). If the
-- values fit their fields, reading its head returns the head that was written (`answer_head_back`), and reading at the offset
-- where an answer with i entries ends returns the entry of index i (`answer_entry_back`).
use mathlib.Core.Path.{◌≡◌, refl, sym, ap, ◌∙◌}
use mathlib.Core.List.{List, [], ◌∷◌, ◌++◌, append_assoc}
use Prim.Native.Nat.{ℕ, suc, ◌+◌, ◌*◌}
use native.Mathlib.Omega.{arith}
use lib.ListN.{length, drop, length-append}
use lib.Seq.{drop_at}
use Rattle.records.specs.Layout.{head_size, entry_size, answer_size}
use Rattle.records.specs.Records.{head_of, head_bytes, answer_head_of, entry_of, entry_bytes, entries_bytes, answer_bytes}
use Rattle.records.specs.Ranges.{HeadHeld, EntryHeld}
use Rattle.records.specs.declared.Entry.{Entry}
use Rattle.records.proofs.Sizes.{head_length, entry_length}
use Rattle.records.proofs.RoundTrip.{head_back, entry_back}

pub entries_length : (es : List Entry) → length (entries_bytes es) ≡ entry_size * length es
unfolding entries_bytes
entries_length [] = refl
entries_length (e ∷ es) =
    let first = length (entry_bytes e) in
    let rest = length (entries_bytes es) in
    length-append (entry_bytes e) (entries_bytes es) ∙ sum first rest (length es) (entry_length e) (entries_length es)
  where
    sum : (a b n : ℕ) → a ≡ entry_size → b ≡ entry_size * n → a + b ≡ entry_size * suc n
    sum a b n f g = omega arith

pub entries_append : (xs ys : List Entry) → entries_bytes (xs ++ ys) ≡ entries_bytes xs ++ entries_bytes ys
unfolding entries_bytes
entries_append [] ys = refl
entries_append (e ∷ xs) ys =
    ap (λ (l : List ℕ). entry_bytes e ++ l) (entries_append xs ys)
    ∙ sym (append_assoc (entry_bytes e) (entries_bytes xs) (entries_bytes ys))

-- The size of a head's bytes followed by the bytes of entries.
both : (head : List ℕ) (es : List Entry) → length head ≡ head_size → length (head ++ entries_bytes es) ≡ answer_size (length es)
both head es h =
    length-append head (entries_bytes es) ∙ sum (length head) (length (entries_bytes es)) (length es) h (entries_length es)
  where
    sum : (a b n : ℕ) → a ≡ head_size → b ≡ entry_size * n → a + b ≡ answer_size n
    sum a b n f g = omega arith

module _ (job revision : ℕ) where
  pub answer_length : (es : List Entry) → length (answer_bytes job revision es) ≡ answer_size (length es)
  unfolding answer_bytes
  answer_length es =
      let head = answer_head_of job revision (length es) in
      both (head_bytes head) es (head_length head)

  pub answer_head_back :
      (es : List Entry) → HeadHeld (answer_head_of job revision (length es)) →
      head_of (answer_bytes job revision es) ≡ answer_head_of job revision (length es)
  unfolding answer_bytes
  answer_head_back es h = head_back (answer_head_of job revision (length es)) (entries_bytes es) h

  pub answer_entry_back :
      (before : List Entry) (e : Entry) (after : List Entry) → EntryHeld e →
      entry_of (drop (answer_size (length before)) (answer_bytes job revision (before ++ (e ∷ after)))) ≡ e
  unfolding answer_bytes entries_bytes
  answer_entry_back before e after h =
      let es = before ++ (e ∷ after) in
      let place = answer_size (length before) in
      let head = head_bytes (answer_head_of job revision (length es)) in
      let front = head ++ entries_bytes before in
      let rest = entry_bytes e ++ entries_bytes after in
      let flat : head ++ entries_bytes es ≡ front ++ rest =
      ap (λ (l : List ℕ). head ++ l) (entries_append before (e ∷ after))
      ∙ sym (append_assoc head (entries_bytes before) rest) in
      let long : length front ≡ place = both head before (head_length (answer_head_of job revision (length es))) in
      ap (λ (l : List ℕ). entry_of (drop place l)) flat
      ∙ ap entry_of (drop_at front rest place long)
      ∙ entry_back e (entries_bytes after) h
