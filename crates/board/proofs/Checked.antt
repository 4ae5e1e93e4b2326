-- The code's check of a board agrees with `in_order`, and so with `is_board`: up to the first slot whose length field is
-- 0, every slot is filled and the jobs rise, and all bytes after these slots are 0 (`checked`). The remaining lemmas
-- are loop steps: one more slot is counted (`count_next`, `count_ends`) or tested (`rising_next`).
use mathlib.Core.Path.{◌≡◌, refl, sym, ap, ◌∙◌}
use mathlib.Core.Bool.{Bool, true, false, cond, not, ◌&&◌, and_assoc, or-false}
use mathlib.Core.List.{List, [], ◌∷◌}
use Prim.Native.Nat.{ℕ, zero, suc, ◌+◌, ◌-◌, ◌*◌, ◌≤◌, ◌<◌}
use native.Mathlib.Omega.{arith}
use native.Mathlib.Nat.{zero-add}
use borrow.Author.Tests.{eqb-true, eqb-false}
use lib.Dec.{ltb, eqb}
use lib.ListN.{length, take, drop, length-drop}
use lib.Seq.{drop-drop, length-take-le}
use Rattle.records.specs.Layout.{LENGTH, answer_room, value_of, job_of}
use Rattle.slots.specs.Slots.{content_of, is_filled, is_zero}
use Rattle.little_endian.proofs.Same.{number_take}
use Rattle.slots.proofs.Zeros.{zero_number}
use Rattle.slots.proofs.Held.{slot_named, content_held, slot_back}
use Rattle.board.proofs.Boards.{one_more}
use Rattle.board.specs.Board.{in_order}
use Rattle.board.specs.Internals.{slots_while, slots_before_free, filled_rising}

-- A slot whose length field is 0 is not filled.
named : (s : List ℕ) → length s ≡ answer_room → value_of LENGTH s ≡ 0 → is_filled s ≡ false
named s e z = by (is_filled s) refl
  where
    by : (t : Bool) → is_filled s ≡ t → is_filled s ≡ false
    by false f = f
    by true f = absurd (slot_named (content_of s) (content_held s f) (ap (value_of LENGTH) (sym (slot_back s f e)) ∙ z))

zero_unnamed : (b : List ℕ) → (value_of LENGTH b ≡ 0 → ⊥) → is_zero b ≡ false
zero_unnamed b h = by (is_zero b) refl
  where
    by : (t : Bool) → is_zero b ≡ t → is_zero b ≡ false
    by false z = z
    by true z = absurd (h (zero_number b z LENGTH.width LENGTH.offset))

pub checked : (n above : ℕ) (b : List ℕ) → length b ≡ n * answer_room →
    in_order n above b ≡ filled_rising (slots_before_free n b) above b && is_zero (drop (slots_before_free n b * answer_room) b)
unfolding in_order slots_while filled_rising is_zero
checked zero above [] e = refl
checked zero above (x ∷ xs) e = absurd (omega arith)
checked (suc n) above b e =
    by (λ job. checked n job (drop answer_room b) (omega (arith, length-drop answer_room b))) (eqb (value_of LENGTH b) 0) refl
  where
    slot : List ℕ
    slot = take answer_room b

    rest : List ℕ
    rest = drop answer_room b

    k : ℕ
    k = slots_before_free n rest

    goal : Bool → Bool
    goal free = let m = cond (not free) (suc k) 0 in filled_rising m above b && is_zero (drop (m * answer_room) b)

    size : length slot ≡ answer_room
    size = length-take-le answer_room b (omega arith)

    by : ((job : ℕ) → in_order n job rest ≡ filled_rising k job rest && is_zero (drop (k * answer_room) rest)) →
        (t : Bool) → eqb (value_of LENGTH b) 0 ≡ t → in_order (suc n) above b ≡ goal (eqb (value_of LENGTH b) 0)
    by below true z =
        let same = number_take LENGTH.width answer_room LENGTH.offset b (omega arith) in
        let empty : is_filled slot ≡ false = named slot size (same ∙ eqb-true (value_of LENGTH b) 0 z) in
        rw (empty, z) (or-false (is_zero b))
    by below false z =
        let first = is_filled slot && ltb above (job_of slot) in
        let after : is_zero (drop (k * answer_room) rest) ≡ is_zero (drop (suc k * answer_room) b) =
        ap is_zero (drop-drop (k * answer_room) answer_room b ∙ ap (λ (m : ℕ). drop m b) (sym (one_more k))) in
        rw (z, zero_unnamed b (eqb-false (value_of LENGTH b) 0 z), below (job_of slot))
        (sym (and_assoc first (filled_rising k (job_of slot) rest) (is_zero (drop (k * answer_room) rest)))
        ∙ ap (λ (x : Bool). first && filled_rising k (job_of slot) rest && x) after)

-- ---- one more slot

left : (n i : ℕ) → i < n → n - i ≡ suc (n - (i + 1))
left n i h = omega arith

after : (i : ℕ) (b : List ℕ) → drop answer_room (drop (i * answer_room) b) ≡ drop ((i + 1) * answer_room) b
after i b = drop-drop answer_room (i * answer_room) b ∙ ap (λ (m : ℕ). drop m b) (sum i)
  where
    sum : (k : ℕ) → k * answer_room + answer_room ≡ (k + 1) * answer_room
    sum k = omega arith

pub rising_next : (n i : ℕ) (b : List ℕ) → i < n → (above : ℕ) →
    let slot = take answer_room (drop (i * answer_room) b) in
    let more = filled_rising (n - (i + 1)) (job_of slot) (drop ((i + 1) * answer_room) b) in
    filled_rising (n - i) above (drop (i * answer_room) b) ≡ is_filled slot && ltb above (job_of slot) && more
unfolding filled_rising
rising_next n i b h above = rw (left n i h, after i b) refl

-- ---- a count of slots that pass a test

module _ (test : List ℕ → Bool) (n : ℕ) (b : List ℕ) where
  -- The invariant of a counting loop: i slots passed the test so far, and i plus the count over the remaining slots is
  -- the whole count.
  abbrev pub Counted : ℕ → Type 0
  Counted i = (i ≤ n) × (i + slots_while test (n - i) (drop (i * answer_room) b) ≡ slots_while test n b)

  pub count_starts : Counted 0
  count_starts =
      let whole : n - 0 ≡ n = omega arith in
      (omega arith, rw whole (zero-add (slots_while test n b)))

  counted : (i : ℕ) (t : Bool) → i < n → test (drop (i * answer_room) b) ≡ t →
      slots_while test (n - i) (drop (i * answer_room) b) ≡ cond t (suc (slots_while test (n - (i + 1)) (drop ((i + 1) * answer_room) b))) 0
  unfolding slots_while
  counted i t h e = rw (left n i h, e, after i b) refl

  pub count_next : (i : ℕ) → i < n → test (drop (i * answer_room) b) ≡ true → Counted i → Counted (i + 1)
  count_next i h e c = (omega arith, omega (arith, counted i true h e, c.1))

  pub count_ends : (i : ℕ) → i < n → test (drop (i * answer_room) b) ≡ false → Counted i → i ≡ slots_while test n b
  count_ends i h e c = omega (arith, counted i false h e, c.1)

  pub count_whole : (i : ℕ) → n ≤ i → Counted i → n ≡ slots_while test n b
  unfolding slots_while
  count_whole i h c =
      let all : n - i ≡ 0 = omega (arith, c.0) in
      let none : slots_while test (n - i) (drop (i * answer_room) b) ≡ 0 = rw all refl in
      omega (arith, c.0, none, c.1)
