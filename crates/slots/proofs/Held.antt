-- The bytes that a slot may hold and the slot that holds them determine each other. If bytes that a slot may hold are
-- put into a slot, its content is those bytes (`content_back`), and a filled slot is the slot made from its content
-- (`slot_back`). An outcome is not a conflict (`outcome_no_conflict`).
use mathlib.Core.Path.{◌≡◌, refl, sym, ap, ◌∙◌}
use mathlib.Core.Bool.{Bool, true, false, ◌&&◌, ◌||◌}
use mathlib.Core.List.{List, ◌++◌}
use Prim.Native.Nat.{ℕ, ◌+◌, ◌-◌, ◌≤◌}
use native.Mathlib.Omega.{arith}
use borrow.Author.Tests.{eqb-true, ne_eqb, leb-true}
use lib.Dec.{eqb, leb}
use lib.ListN.{length, take, drop, replicate, length-take, length-drop, take-append-drop}
use lib.Seq.{take_at, drop_at}
use Rattle.records.specs.Layout.{Field, LENGTH, JOB, REVISION, answer_kind, refusal_kind, conflict_kind, first_number, last_number}
use Rattle.records.specs.Layout.{most_entries}
use Rattle.records.specs.Layout.{refusal_size, answer_size, conflict_size, answer_room, value_of, kind_of, job_of, revision_of}
use Rattle.records.specs.Layout.{number_of, size_of}
use Rattle.records.proofs.Sizes.{refusal_room, answer_room_lem}
use Rattle.outcomes.specs.Outcomes.{is_sized, is_between, is_refusal, all_name_an_end, is_answer, is_outcome}
use Rattle.slots.specs.Slots.{slot_of, content_of, is_conflict, is_held, is_zero, is_filled}
use Rattle.little_endian.proofs.Same.{number_take}
use Rattle.slots.proofs.Padding.{padded_is, number_padded}
use Rattle.slots.proofs.Zeros.{both, zero_is, zeros_zero, zero_number}

pub outcome_held : (c : List ℕ) → is_outcome c ≡ true → is_held c ≡ true
unfolding is_held
outcome_held c e = rw e

either : {P : Type 0} (a b : Bool) → (a ≡ true → P) → (b ≡ true → P) → a || b ≡ true → P
either true b f g e = f refl
either false b f g e = g e

-- ---- consequences of the tests of an outcome

record RefusalTold (c : List ℕ) : Type 0 where
  kind : kind_of c ≡ refusal_kind
  size : is_sized c (refusal_size (number_of c)) ≡ true

record AnswerTold (c : List ℕ) : Type 0 where
  kind : kind_of c ≡ answer_kind
  few : number_of c ≤ most_entries
  size : is_sized c (answer_size (number_of c)) ≡ true

refusal_told : (c : List ℕ) → is_refusal c ≡ true → RefusalTold c
unfolding is_refusal
refusal_told c e =
    let n = number_of c in
    let kind = eqb (kind_of c) refusal_kind in
    let sized = is_sized c (refusal_size n) in
    let known = both (kind && sized) (is_between first_number last_number n) e in
    let tests = both kind sized known.0 in
    record { kind = eqb-true (kind_of c) refusal_kind tests.0; size = tests.1 }

answer_told : (c : List ℕ) → is_answer c ≡ true → AnswerTold c
unfolding is_answer
answer_told c e =
    let n = number_of c in
    let kind = eqb (kind_of c) answer_kind in
    let between = is_between 1 most_entries n in
    let sized = is_sized c (answer_size n) in
    let named = both (kind && between && sized) (all_name_an_end n c) e in
    let long = both (kind && between) sized named.0 in
    let tests = both kind between long.0 in
    let most = both (leb 1 n) (leb n most_entries) tests.1 in
    record { kind = eqb-true (kind_of c) answer_kind tests.0; few = leb-true n most_entries most.1; size = long.1 }

-- An outcome is not a conflict, because its kind is different.
pub outcome_no_conflict : (c : List ℕ) → is_outcome c ≡ true → is_conflict c ≡ false
unfolding is_outcome is_conflict
outcome_no_conflict c e =
    either (is_refusal c) (is_answer c)
    (λ f. other refusal_kind (λ g. omega arith) (refusal_told c f).kind)
    (λ f. other answer_kind (λ g. omega arith) (answer_told c f).kind) e
  where
    other : (k : ℕ) → (k ≡ conflict_kind → ⊥) → kind_of c ≡ k → is_conflict c ≡ false
    other k apart f = rw (ne_eqb (kind_of c) conflict_kind (λ g. apart (sym f ∙ g)))

-- ---- sizes

-- The bytes have the size that their length field gives. They are at least as long as a conflict, and they fit in a
-- slot.
record Sizes (c : List ℕ) : Type 0 where
  says : length c ≡ size_of c
  low : conflict_size ≤ length c
  high : length c ≤ answer_room

sized : (c : List ℕ) (n : ℕ) → (conflict_size ≤ n) × (n ≤ answer_room) → is_sized c n ≡ true → Sizes c
unfolding is_sized
sized c n h e =
    let p : (eqb (length c) n ≡ true) × (eqb (size_of c) n ≡ true) = both (eqb (length c) n) (eqb (size_of c) n) e in
    let f : length c ≡ n = eqb-true (length c) n p.0 in
    let g : size_of c ≡ n = eqb-true (size_of c) n p.1 in
    record { says = omega arith; low = omega (arith, h.0); high = omega (arith, h.1) }

refusal_sizes : (c : List ℕ) → is_refusal c ≡ true → Sizes c
refusal_sizes c e = sized c (refusal_size (number_of c)) (refusal_room (number_of c)) (refusal_told c e).size

answer_sizes : (c : List ℕ) → is_answer c ≡ true → Sizes c
answer_sizes c e =
    let a = answer_told c e in
    sized c (answer_size (number_of c)) (answer_room_lem (number_of c) a.few) a.size

conflict_sizes : (c : List ℕ) → is_conflict c ≡ true → Sizes c
unfolding is_conflict
conflict_sizes c e =
    sized c conflict_size (omega arith, omega arith) (both (eqb (kind_of c) conflict_kind) (is_sized c conflict_size) e).1

held_sizes : (c : List ℕ) → is_held c ≡ true → Sizes c
unfolding is_held is_outcome
held_sizes c e =
    either (is_outcome c) (is_conflict c)
    (either (is_refusal c) (is_answer c) (refusal_sizes c) (answer_sizes c)) (conflict_sizes c) e

-- ---- from held bytes to their slot, and back

-- A field that is within the slot has the same value in the slot as in the bytes that the slot is made from.
slot_field : (f : Field) (c : List ℕ) → f.offset + f.width ≤ answer_room → value_of f (slot_of c) ≡ value_of f c
slot_field f c h = number_padded f.width answer_room f.offset c h

pub slot_job : (c : List ℕ) → job_of (slot_of c) ≡ job_of c
slot_job c = slot_field JOB c (omega arith)

pub slot_revision : (c : List ℕ) → revision_of (slot_of c) ≡ revision_of c
slot_revision c = slot_field REVISION c (omega arith)

module _ (c : List ℕ) (held : is_held c ≡ true) where
  pub held_size : length c ≡ size_of c
  held_size = (held_sizes c held).says

  pub held_low : conflict_size ≤ length c
  held_low = (held_sizes c held).low

  pub held_fits : length c ≤ answer_room
  held_fits = (held_sizes c held).high

  -- The slot is the bytes followed by zeros (`slot_is`), and its length field gives their size (`slot_size`).
  slot_is : slot_of c ≡ c ++ replicate (answer_room - length c) 0
  slot_is = padded_is answer_room c held_fits

  slot_size : size_of (slot_of c) ≡ length c
  slot_size = ap (λ (n : ℕ). n + LENGTH.width) (slot_field LENGTH c (omega arith)) ∙ sym held_size

  pub content_back : content_of (slot_of c) ≡ c
  unfolding content_of
  content_back = rw (slot_size, slot_is) (take_at c (replicate (answer_room - length c) 0) (length c) refl)

  pub slot_filled : is_filled (slot_of c) ≡ true
  unfolding is_filled
  slot_filled =
      let rest : List ℕ = replicate (answer_room - length c) 0 in
      rw (content_back, held, slot_size, slot_is, drop_at c rest (length c) refl) (zeros_zero (answer_room - length c))

  pub slot_named : value_of LENGTH (slot_of c) ≡ 0 → ⊥
  slot_named e = omega (arith, slot_size, held_low)

  pub slot_not_zero : is_zero (slot_of c) ≡ false
  slot_not_zero = by (is_zero (slot_of c)) refl
    where
      by : (t : Bool) → is_zero (slot_of c) ≡ t → t ≡ false
      by true e = absurd (slot_named (zero_number (slot_of c) e LENGTH.width LENGTH.offset))
      by false e = refl

-- ---- from a filled slot to its content, and back

module _ (s : List ℕ) (filled : is_filled s ≡ true) where
  parts : (is_held (content_of s) ≡ true) × (is_zero (drop (size_of s) s) ≡ true)
  unfolding is_filled
  parts = both (is_held (content_of s)) (is_zero (drop (size_of s) s)) filled

  pub content_held : is_held (content_of s) ≡ true
  content_held = parts.0

  pub content_job : job_of (content_of s) ≡ job_of s
  unfolding content_of
  content_job =
      let low = held_low (content_of s) content_held in
      number_take JOB.width (size_of s) JOB.offset s (omega (arith, low, length-take (size_of s) s))

  pub slot_back : length s ≡ answer_room → s ≡ slot_of (content_of s)
  unfolding content_of
  slot_back whole =
      let n = size_of s in
      let content = take n s in
      let rest : length (drop n s) ≡ answer_room - length content = simp (length-drop, length-take, whole) (omega arith) in
      sym (padded_is answer_room content (held_fits content content_held)
      ∙ ap (λ (k : ℕ). content ++ replicate k 0) (sym rest)
      ∙ ap (λ (l : List ℕ). content ++ l) (sym (zero_is (drop n s) parts.1))
      ∙ take-append-drop n s)
