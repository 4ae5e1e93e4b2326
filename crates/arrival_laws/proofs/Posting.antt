-- The cases of `post_of` for one record (`posting`): the refusals in their order, and a record that is taken. The same
-- cases by the numbers that a caller sees (`numbered`). A refusal changes nothing (`unchanged`). B3 is given exactly for
-- a postable record of a new job on a full board (`full_exactly`, and by its name `none_free_exactly`). A record that is
-- older than the held one, or the same, changes nothing (`older_or_same`). Posting any record a second time changes
-- nothing (`twice`) and has the same result (`twice_result`). From the empty board on, the bytes stay a board whatever is
-- posted (`always_board`), so B0 is never given (`never_b0`, and by its name `never_no_board`).
use mathlib.Core.Path.{◌≡◌, refl, sym, ap, ◌∙◌}
use mathlib.Core.Bool.{Bool, true, false, cond, not, true≢false}
use mathlib.Core.List.Memᴰ.{head as here}
use mathlib.Core.List.Memᴰ.{tail as there}
use mathlib.Core.List.{List, [], ◌∷◌}
use mathlib.Core.Logic.{◌⊎◌, ⊎_elim, ◌↔◌}
use Prim.Native.Nat.{ℕ, ◌≤◌, ◌<◌}
use native.Mathlib.Omega.{arith}
use borrow.Author.Tests.{ltb-true, ltb-false, lt-ltb, le-ltb, eqb-true, eqb-false, ne_eqb}
use lib.Dec.{ltb, eqb}
use lib.ListN.{length}
use Rattle.std.specs.Prelude.{Ok, Err}
use Rattle.records.specs.Layout.{job_of, revision_of}
use Rattle.little_endian.specs.Bytes.{AreBytes}
use Rattle.outcomes.specs.Outcomes.{is_outcome}
use Rattle.board.specs.declared.PostError.{PostError}
use Rattle.board.specs.declared.PostError.TheVariants.{NotABoard, Malformed, JobZero, NoSlotFree}
use Rattle.board.specs.Board.{SLOTS, is_board, held_on, board_of, empty_board, joined, placed}
use Rattle.board.specs.Board.{PostResult, board_refusal, taken_with, post_of, placed_on, posted_number, none}
use Rattle.arrival_laws.specs.Messages.{◌∈◌, AllBytes, Postable, post_all, NoneOf}
use Rattle.arrival_laws.specs.Numbers.{Numbered, b0, b1, b2, b3, no_refusal}
use Rattle.slots.proofs.Held.{outcome_held}
use Rattle.board.proofs.Boards.{board_held, held_board, empty_board_lem}
use Rattle.arrival_laws.proofs.Joining.{joining, joined_kept}
use Rattle.arrival_laws.proofs.Placing.{placing, placed_rising, placed_again, placed_same, grown}

-- What `post_of` gives if it takes the record.
abbrev pub taking : List ℕ → List ℕ → PostResult
taking b new = taken_with (board_of (placed (held_on b) new))

pub data Posting (b new : List ℕ) : PostResult → Type 0 where
  no_board : is_board b ≡ false → Posting b new (board_refusal NotABoard b)
  malformed : is_board b ≡ true → is_outcome new ≡ false → Posting b new (board_refusal Malformed b)
  unnamed : is_board b ≡ true → is_outcome new ≡ true → job_of new ≡ 0 → Posting b new (board_refusal JobZero b)
  full : is_board b ≡ true → Postable new → SLOTS < length (placed (held_on b) new) → Posting b new (board_refusal NoSlotFree b)
  taken : is_board b ≡ true → Postable new → length (placed (held_on b) new) ≤ SLOTS → Posting b new (taking b new)

module _ (b new : List ℕ) where
  pub posting : Posting b new (post_of b new)
  unfolding post_of placed_on
  posting = by (is_board b) refl (is_outcome new) refl (eqb (job_of new) 0) refl (ltb SLOTS (length (placed (held_on b) new))) refl
    where
      counted : is_outcome new ≡ true → eqb (job_of new) 0 ≡ false → Postable new
      counted f g = let apart : job_of new ≡ 0 → ⊥ = eqb-false (job_of new) 0 g in record { formed = f; named = omega arith }

      by : (board : Bool) → is_board b ≡ board → (outcome : Bool) → is_outcome new ≡ outcome → (zero : Bool) → eqb (job_of new) 0 ≡ zero
          → (over : Bool) → ltb SLOTS (length (placed (held_on b) new)) ≡ over →
          Posting b new (cond (not board) (board_refusal NotABoard b)
          (cond (not outcome) (board_refusal Malformed b)
          (cond zero (board_refusal JobZero b) (cond over (board_refusal NoSlotFree b) (taking b new)))))
      by false e outcome f zero g over h = no_board e
      by true e false f zero g over h = malformed e f
      by true e true f true g over h = unnamed e f (eqb-true (job_of new) 0 g)
      by true e true f false g true h = full e (counted f g) (ltb-true SLOTS (length (placed (held_on b) new)) h)
      by true e true f false g false h = taken e (counted f g) (ltb-false SLOTS (length (placed (held_on b) new)) h)

  pub numbered : Numbered b new (posted_number (post_of b new).posted)
  numbered = by posting
    where
      by : {o : PostResult} → Posting b new o → Numbered b new (posted_number o.posted)
      by (no_board f) = b0 f
      by (malformed f g) = b1 f g
      by (unnamed f g h) = b2 f g h
      by (full f postable over) = b3 f postable over
      by (taken f postable room) = no_refusal f postable room

  pub unchanged : (error : PostError) → (post_of b new).posted ≡ Err error → (post_of b new).board ≡ b
  unchanged error e = by posting e
    where
      by : {o : PostResult} → Posting b new o → o.posted ≡ Err error → o.board ≡ b
      by (no_board f) e = refl
      by (malformed f g) e = refl
      by (unnamed f g h) e = refl
      by (full f postable over) e = refl
      by (taken f postable room) e = cc

  -- ---- a postable record on a board

  pub judged : is_board b ≡ true → Postable new → post_of b new ≡ placed_on b new
  unfolding post_of placed_on
  judged f postable =
      let apart : job_of new ≡ 0 → ⊥ = λ e. omega (arith, postable.named) in
      rw (f, postable.formed, ne_eqb (job_of new) 0 apart)

  -- If the record does not fit, the board is full and has no slot of its job.
  pub no_room : is_board b ≡ true → SLOTS < length (placed (held_on b) new) → (length (held_on b) ≡ SLOTS) × NoneOf (job_of new) (held_on b)
  no_room f over =
      let held = board_held b f in
      ⊎_elim (λ n. (omega (arith, n.1, held.1.0), n.0)) (λ s. absurd (omega (arith, s.1, held.1.0)))
      (grown (placing (held_on b) new) held.0)

  -- When no slot is free: the bytes are a board, the record is postable, 64 jobs have a slot, and its own job has none.
  abbrev NoneFree : Type 0
  NoneFree = (is_board b ≡ true) × (Postable new × ((length (held_on b) ≡ SLOTS) × NoneOf (job_of new) (held_on b)))

  none_free : NoneFree → (post_of b new).posted ≡ Err NoSlotFree
  unfolding placed_on
  none_free h =
      let size : ℕ = length (placed (held_on b) new) in
      let how = grown (placing (held_on b) new) (board_held b h.0).0 in
      let over : SLOTS < size =
      ⊎_elim (λ n. omega (arith, n.1, h.1.1.0)) (λ s. absurd (h.1.1.1 s.0.0 s.0.1.0 s.0.1.1)) how in
      rw (judged h.0 h.1.0, lt-ltb SLOTS size over)

  pub full_exactly : (posted_number (post_of b new).posted ≡ 3)
      ↔ ((is_board b ≡ true) × (Postable new × ((length (held_on b) ≡ SLOTS) × NoneOf (job_of new) (held_on b))))
  full_exactly = (by numbered, λ h. ap posted_number (none_free h))
    where
      by : {n : ℕ} → Numbered b new n → n ≡ 3 → NoneFree
      by (b0 f) e = absurd (omega (arith, e))
      by (b1 f g) e = absurd (omega (arith, e))
      by (b2 f g h) e = absurd (omega (arith, e))
      by (b3 f postable over) e = (f, (postable, no_room f over))
      by (no_refusal f postable room) e = absurd (omega (arith, e))

  pub none_free_exactly : ((post_of b new).posted ≡ Err NoSlotFree)
      ↔ ((is_board b ≡ true) × (Postable new × ((length (held_on b) ≡ SLOTS) × NoneOf (job_of new) (held_on b))))
  none_free_exactly = (λ e. full_exactly.0 (ap posted_number e), none_free)

  -- A record that does not change what is held for its job is taken, and the board stays as it was.
  pub taken_same : (held : List ℕ) → is_board b ≡ true → Postable new → held ∈ held_on b → job_of held ≡ job_of new → joined held new ≡ held
      → post_of b new ≡ taken_with b
  unfolding placed_on
  taken_same held f postable i for e =
      let on = board_held b f in
      let same = placed_same (placing (held_on b) new) on.0 i for e in
      judged f postable ∙ rw (same, le-ltb SLOTS (length (held_on b)) on.1.0)
      (ap taken_with (sym on.1.1))

  module _ (bytes : AreBytes new) where
    -- If the record fits, the new bytes are a board, which holds the record placed among what was held before.
    pub taken_board : is_board b ≡ true → Postable new → length (placed (held_on b) new) ≤ SLOTS →
        (is_board (board_of (placed (held_on b) new)) ≡ true) × (held_on (board_of (placed (held_on b) new)) ≡ placed (held_on b) new)
    taken_board f postable room =
        held_board (placed (held_on b) new)
        (placed_rising (placing (held_on b) new) bytes (outcome_held new postable.formed) postable.named (board_held b f).0) room

    stays_board : is_board b ≡ true → is_board (post_of b new).board ≡ true
    stays_board f = by posting
      where
        by : {o : PostResult} → Posting b new o → is_board o.board ≡ true
        by (no_board g) = f
        by (malformed g h) = f
        by (unnamed g h i) = f
        by (full g postable over) = f
        by (taken g postable room) = (taken_board g postable room).0

module _ (b new : List ℕ) (bytes : AreBytes new) where
  both : post_of (post_of b new).board new ≡ post_of b new
  unfolding placed_on
  both = by (posting b new) refl
    where
      by : {o : PostResult} → Posting b new o → post_of b new ≡ o → post_of o.board new ≡ o
      by (no_board f) e = e
      by (malformed f g) e = e
      by (unnamed f g h) e = e
      by (full f postable over) e = e
      by (taken f postable room) e =
          let held = placed (held_on b) new in
          let on = taken_board b new bytes f postable room in
          let again : placed (held_on (board_of held)) new ≡ held =
          ap (λ l. placed l new) on.1 ∙ placed_again (placing (held_on b) new) bytes in
          judged (board_of held) new on.0 postable ∙ rw (again, le-ltb SLOTS (length held) room)

  pub twice : (post_of (post_of b new).board new).board ≡ (post_of b new).board
  twice = ap (λ (o : PostResult). o.board) both

  pub twice_result : (post_of (post_of b new).board new).posted ≡ (post_of b new).posted
  twice_result = ap (λ (o : PostResult). o.posted) both

-- ---- a record that is older than what is held for its job, or the same

module _ (b new held : List ℕ) (f : is_board b ≡ true) (postable : Postable new) (i : held ∈ held_on b) (for : job_of held ≡ job_of new)
    (how : (revision_of new < revision_of held) ⊎ (held ≡ new)) where
  same : post_of b new ≡ taken_with b
  same = taken_same b new held f postable i for (joined_kept (joining held new) how)

  pub older_or_same : (post_of b new).board ≡ b
  older_or_same = ap (λ (o : PostResult). o.board) same

  pub older_or_same_taken : (post_of b new).posted ≡ Ok tt
  older_or_same_taken = ap (λ (o : PostResult). o.posted) same

-- ---- any number of records for any number of jobs

pub starts_board : (is_board empty_board ≡ true) × (held_on empty_board ≡ [])
starts_board = rw empty_board_lem (held_board [] none (omega arith))

from : (b : List ℕ) (ms : List (List ℕ)) → is_board b ≡ true → AllBytes ms → is_board (post_all b ms) ≡ true
unfolding post_all
from b [] f all = f
from b (m ∷ ms) f all = from (post_of b m).board ms (stays_board b m (all m (here refl)) f) (λ n i. all n (there i))

pub always_board : (ms : List (List ℕ)) → AllBytes ms → is_board (post_all empty_board ms) ≡ true
always_board ms all = from empty_board ms starts_board.0 all

-- After any messages on the empty board, no record is refused with B0: neither by its number nor by its name.
pub never_b0 : (ms : List (List ℕ)) (m : List ℕ) → AllBytes ms → posted_number (post_of (post_all empty_board ms) m).posted ≡ 0 → ⊥
never_b0 ms m all e = by (numbered (post_all empty_board ms) m) e
  where
    by : {n : ℕ} → Numbered (post_all empty_board ms) m n → n ≡ 0 → ⊥
    by (b0 f) e = true≢false (sym (always_board ms all) ∙ f)
    by (b1 f g) e = omega (arith, e)
    by (b2 f g h) e = omega (arith, e)
    by (b3 f postable over) e = omega (arith, e)
    by (no_refusal f postable room) e = omega (arith, e)

pub never_no_board : (ms : List (List ℕ)) (m : List ℕ) → AllBytes ms
    → (post_of (post_all empty_board ms) m).posted ≡ Err NotABoard → ⊥
never_no_board ms m all e = never_b0 ms m all (ap posted_number e)
