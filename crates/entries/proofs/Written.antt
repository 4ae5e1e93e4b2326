-- Writing an answer entry by entry: what the buffer holds once its head and the first i entries are written (`so_far`), how one more entry
-- changes it (`goes_on`), and that it holds the whole answer after the last entry (`ends`).
use mathlib.Core.Path.{◌≡◌, refl, sym, ap, ◌∙◌}
use mathlib.Core.List.{List, [], ◌∷◌, ◌++◌, append_assoc, append-nil}
use Prim.Native.Nat.{ℕ, ◌+◌, ◌*◌, ◌-◌, ◌≤◌, ◌<◌}
use native.Mathlib.Omega.{arith}
use native.Mathlib.Numerals.{add-one}
use borrow.Rule.Slice.PartMut.{mid_of, put_mid}
use lib.ListN.{length, take, drop, get_or, length-append, length-drop, drop_of_length-le, take-append-drop}
use lib.Seq.{take_at, drop_at, take_all, take-suc, drop-drop, length-take-le}
use Rattle.little_endian.specs.Bytes.{written}
use Rattle.little_endian.proofs.Laid.{laid}
use Rattle.records.specs.Layout.{head_size, entry_size, answer_size}
use Rattle.records.specs.Records.{head_bytes, answer_head_of, entry_bytes, entries_bytes, answer_bytes}
use Rattle.records.specs.declared.Entry.{Entry}
use Rattle.records.proofs.Sizes.{head_length, entry_length}
use Rattle.records.proofs.Answers.{entries_length, entries_append, answer_length}

-- ---- bytes written to a part of a buffer

laid_part :
    (pre rest bytes : List ℕ) (n k : ℕ) → length pre ≡ n → k ≡ length (pre ++ rest) - n → length bytes ≤ length rest →
    put_mid n k (pre ++ rest) (written (mid_of n k (pre ++ rest)) bytes) ≡ pre ++ (bytes ++ drop (length bytes) rest)
laid_part pre rest bytes n k e f h =
    let size : length rest ≡ k = omega (arith, length-append pre rest, e, f) in
    let whole : take k rest ≡ rest = take_all k rest (omega (arith, size)) in
    let none : drop k rest ≡ [] = drop_of_length-le rest {i = k} (omega (arith, size)) in
    rw (take_at pre rest n e, drop_at pre rest n e, whole, none, laid rest bytes h, append-nil)

-- ---- the first i entries of a list

module _ (es : List Entry) where
  abbrev bytes_up_to : ℕ → List ℕ
  bytes_up_to i = entries_bytes (take i es)

  -- The head that the buffer begins with, then the first i entries, and then the buffer's own bytes after them.
  unfoldable pub so_far : ℕ → List ℕ → List ℕ
  so_far i buffer = take head_size buffer ++ bytes_up_to i ++ drop (answer_size i) buffer

  size_up : (i : ℕ) → i ≤ length es → length (bytes_up_to i) ≡ entry_size * i
  size_up i h = entries_length (take i es) ∙ ap (λ (n : ℕ). entry_size * n) (length-take-le i es h)

  up_next : (i : ℕ) (d : Entry) → i < length es → bytes_up_to (i + 1) ≡ bytes_up_to i ++ entry_bytes (get_or es i d)
  unfolding entries_bytes
  up_next i d h =
      rw add-one
      (ap entries_bytes (take-suc es i d h)
      ∙ entries_append (take i es) (get_or es i d ∷ [])
      ∙ ap (λ l. bytes_up_to i ++ l) (append-nil (entry_bytes (get_or es i d))))

  module _ (buffer : List ℕ) where
    pub starts : buffer ≡ so_far 0 buffer
    unfolding so_far entries_bytes
    starts =
        sym (ap (λ l. l ++ drop head_size buffer) (append-nil (take head_size buffer)) ∙ take-append-drop head_size buffer)

    abbrev front : ℕ → List ℕ
    front i = take head_size buffer ++ bytes_up_to i

    front_size : (i : ℕ) → i ≤ length es → head_size ≤ length buffer → length (front i) ≡ answer_size i
    front_size i few room =
        length-append (take head_size buffer) (bytes_up_to i) ∙ rw (length-take-le head_size buffer room, size_up i few)

    pub size_at : (i : ℕ) → i ≤ length es → answer_size i ≤ length buffer → length (so_far i buffer) ≡ length buffer
    unfolding so_far
    size_at i few room =
        length-append (front i) (drop (answer_size i) buffer)
        ∙ omega (arith, front_size i few (omega (arith, room)), length-drop (answer_size i) buffer, room)

    module _ (i : ℕ) (few : i < length es) (room : answer_size (i + 1) ≤ length buffer) where
      -- Writing the next entry to the part of the buffer that begins at the entry's offset gives `so_far` with one more entry.
      pub goes_on :
          (d : Entry) (cur : List ℕ) (place : ℕ) → place ≡ answer_size i → cur ≡ so_far i buffer →
          let left = length cur - place in
          put_mid place left cur (written (mid_of place left cur) (entry_bytes (get_or es i d))) ≡ so_far (i + 1) buffer
      unfolding so_far
      goes_on d cur place at e =
          let entry = entry_bytes (get_or es i d) in
          let size = entry_length (get_or es i d) in
          let rest = drop (answer_size i) buffer in
          let long : length entry ≤ length rest = omega (arith, size, length-drop (answer_size i) buffer, room) in
          let after : answer_size i + length entry ≡ answer_size (i + 1) = omega (arith, size) in
          let before = front_size i (omega (arith, few)) (omega (arith, room)) in
          rw (e, at) (laid_part (front i) rest entry (answer_size i) (length (front i ++ rest) - answer_size i) before refl long)
          ∙ sym (append_assoc (front i) entry (drop (length entry) rest))
          ∙ ap (λ l. l ++ drop (length entry) rest)
          (append_assoc (take head_size buffer) (bytes_up_to i) entry ∙ ap (λ l. take head_size buffer ++ l) (sym (up_next i d few)))
          ∙ ap (λ l. take head_size buffer ++ bytes_up_to (i + 1) ++ l)
          (drop-drop (length entry) (answer_size i) buffer ∙ ap (λ (n : ℕ). drop n buffer) after)

  -- ---- the whole answer

  module _ (job revision : ℕ) where
    abbrev answer : ℕ → List ℕ
    answer i = answer_bytes job revision (take i es)

    abbrev head : ℕ → List ℕ
    head i = head_bytes (answer_head_of job revision i)

    -- The size of the answer with the first i entries.
    pub taken_size : (i : ℕ) → i ≤ length es → length (answer i) ≡ answer_size i
    taken_size i few = answer_length job revision (take i es) ∙ ap (λ (n : ℕ). answer_size n) (length-take-le i es few)

    -- If the head was written to the buffer's start, and then every entry after it, the buffer holds the whole answer.
    pub ends :
        (count : ℕ) (buffer first : List ℕ) → count ≤ length es → answer_size count ≤ length buffer →
        first ≡ written buffer (head count) → so_far count first ≡ written buffer (answer count)
    unfolding so_far answer_bytes
    ends count buffer first few room e =
        let number : length (take count es) ≡ count = length-take-le count es few in
        let sized : length (head count) ≡ head_size = head_length (answer_head_of job revision count) in
        let short : length (head count) ≤ length buffer = omega (arith, sized, room) in
        let rest = drop head_size buffer in
        let start : first ≡ head count ++ rest =
        e ∙ laid buffer (head count) short ∙ ap (λ (n : ℕ). head count ++ drop n buffer) sized in
        let front-is : take head_size first ≡ head count = ap (take head_size) start ∙ take_at (head count) rest head_size sized in
        let rest_is : drop head_size first ≡ rest = ap (drop head_size) start ∙ drop_at (head count) rest head_size sized in
        let entries = entry_size * count in
        let after : drop (answer_size count) first ≡ drop (answer_size count) buffer =
        sym (drop-drop entries head_size first) ∙ ap (drop entries) rest_is ∙ drop-drop entries head_size buffer in
        let long : length (answer count) ≡ answer_size count = taken_size count few in
        rw (front-is, after)
        (sym (laid buffer (answer count) (omega (arith, long, room))
        ∙ ap (λ (n : ℕ). answer count ++ drop n buffer) long
        ∙ ap (λ (n : ℕ). head n ++ bytes_up_to count ++ drop (answer_size count) buffer) number))
