-- The bytes of a board and what it holds determine each other. The bytes of a board are those that `board_of` makes from
-- what it holds (`board_held`). In the other direction, at most 64 contents that slots may hold, with rising job
-- numbers, make a board, and `held_on` reads them back from it (`held_board`). Both are proved by induction on the
-- slots, for any number of slots.
use mathlib.Core.Path.{◌≡◌, refl, sym, ap, ◌∙◌}
use mathlib.Core.Bool.{Bool, true, false, cond, ◌&&◌, ◌||◌}
use mathlib.Core.List.{List, [], ◌∷◌, ◌++◌, append_assoc}
use Prim.Native.Nat.{ℕ, zero, suc, ◌+◌, ◌-◌, ◌*◌, ◌≤◌, ◌<◌}
use native.Mathlib.Omega.{arith}
use borrow.Author.Tests.{ltb-true, lt-ltb, eqb-true, eq-eqb}
use lib.Dec.{ltb, eqb}
use lib.ListN.{length, take, drop, replicate, length-append, length-drop, length-replicate, take-append-drop, replicate-append-replicate}
use lib.Seq.{take_all, take_at, drop_at, take-append-le, take-append-add, length-take-le}
use Rattle.records.specs.Layout.{answer_room, job_of}
use Rattle.slots.specs.Slots.{padded, slot_of, content_of, is_filled, is_zero}
use Rattle.slots.proofs.Padding.{padded_length}
use Rattle.slots.proofs.Zeros.{both, zero_is, zeros_zero, zero_append}
use Rattle.slots.proofs.Held.{content_back, slot_filled, slot_not_zero, slot_job, content_held, slot_back, content_job}
use Rattle.board.specs.Board.{SLOTS, board_size, in_order, is_board, held_in, held_on, slots_bytes}
use Rattle.board.specs.Board.{board_of, empty_board, HeldRising, none, next}

-- ---- bytes followed by zeros

abbrev pub zeros : ℕ → List ℕ
zeros n = replicate n 0

-- More zeros than necessary give the same padded bytes.
pad_more : (m j : ℕ) (y : List ℕ) → m ≤ j → take m (y ++ zeros j) ≡ padded m y
unfolding padded
pad_more m j y h =
    let whole : m + (j - m) ≡ j = omega arith in
    let split : zeros j ≡ zeros m ++ zeros (j - m) = sym (replicate-append-replicate m (j - m) 0 ∙ ap zeros whole) in
    ap (λ (l : List ℕ). take m (y ++ l)) split
    ∙ ap (take m) (sym (append_assoc y (zeros m) (zeros (j - m))))
    ∙ take-append-le m (y ++ zeros m) (zeros (j - m)) (omega (arith, length-append y (zeros m), length-replicate {A = ℕ} m 0))

-- Padding x ++ y leaves x unchanged and pads y.
pub padded_append : (k m : ℕ) (x y : List ℕ) → length x ≡ k → padded (k + m) (x ++ y) ≡ x ++ padded m y
unfolding padded
padded_append k m x y e =
    ap (take (k + m)) (append_assoc x y (zeros (k + m)))
    ∙ ap (λ (n : ℕ). take (n + m) (x ++ (y ++ zeros (k + m)))) (sym e)
    ∙ take-append-add x (y ++ zeros (k + m)) m
    ∙ ap (λ l. x ++ l) (pad_more m (k + m) y (omega arith))

pub padded_none : (n : ℕ) → padded n [] ≡ zeros n
unfolding padded
padded_none n = take_all n (zeros n) (omega (arith, length-replicate {A = ℕ} n 0))

-- The bytes of n slots: one slot for each content in the list, then zeros.
unfoldable pub slots_in : ℕ → List (List ℕ) → List ℕ
slots_in n cs = padded (n * answer_room) (slots_bytes cs)

-- The size of n + 1 slots is that of one slot plus that of n slots.
pub one_more : (n : ℕ) → suc n * answer_room ≡ answer_room + n * answer_room
one_more n = omega arith

pub slots_next : (n : ℕ) (c : List ℕ) (cs : List (List ℕ)) → slots_in (suc n) (c ∷ cs) ≡ slot_of c ++ slots_in n cs
unfolding slots_in slots_bytes
slots_next n c cs =
    ap (λ (k : ℕ). padded k (slot_of c ++ slots_bytes cs)) (one_more n)
    ∙ padded_append answer_room (n * answer_room) (slot_of c) (slots_bytes cs) (padded_length answer_room c)

pub slots_none : (n : ℕ) → slots_in n [] ≡ zeros (n * answer_room)
unfolding slots_in slots_bytes
slots_none n = padded_none (n * answer_room)

-- ---- from bytes to what they hold

pub record Told (n above : ℕ) (b : List ℕ) : Type 0 where
  pub rising : HeldRising above (held_in n b)
  pub few : length (held_in n b) ≤ n
  pub bytes : b ≡ slots_in n (held_in n b)

no_slots : (b : List ℕ) → length b ≡ 0 → b ≡ slots_in 0 []
unfolding slots_in slots_bytes padded
no_slots [] e = refl
no_slots (x ∷ xs) e = absurd (omega arith)

pub told : (n above : ℕ) (b : List ℕ) → length b ≡ n * answer_room → in_order n above b ≡ true → Told n above b
unfolding held_in in_order
told zero above b e h = record { rising = none; few = omega arith; bytes = no_slots b e }
told (suc n) above b e h = by (λ job f. told n job (drop answer_room b) (omega (arith, length-drop answer_room b)) f) (is_zero b) refl h
  where
    slot : List ℕ
    slot = take answer_room b

    rest : List ℕ
    rest = drop answer_room b

    held : Bool → List (List ℕ)
    held z = cond z [] (content_of slot ∷ held_in n rest)

    by : ((job : ℕ) → in_order n job rest ≡ true → Told n job rest) → (z : Bool) → is_zero b ≡ z →
        z || (is_filled slot && ltb above (job_of slot) && in_order n (job_of slot) rest) ≡ true → Told (suc n) above b
    by below true z f =
        let these : held_in (suc n) b ≡ [] = ap held z in
        record {
          rising = rw these none;
          few = rw these (omega arith);
          bytes = rw these (zero_is b z ∙ ap (λ (k : ℕ). zeros k) e ∙ sym (slots_none (suc n)));
        }
    by below false z f =
        let these : held_in (suc n) b ≡ content_of slot ∷ held_in n rest = ap held z in
        let size : length slot ≡ answer_room = length-take-le answer_room b (omega arith) in
        let parts = both (is_filled slot && ltb above (job_of slot)) (in_order n (job_of slot) rest) f in
        let first = both (is_filled slot) (ltb above (job_of slot)) parts.0 in
        let job = content_job slot first.0 in
        let low : above < job_of (content_of slot) = omega (arith, job, ltb-true above (job_of slot) first.1) in
        let more = below (job_of slot) parts.1 in
        record {
          rising = rw these (next low (content_held slot first.0) (rw (← job) at more.rising));
          few = rw these (omega (arith, more.few));
          bytes = rw these
              (sym (take-append-drop answer_room b)
              ∙ ap (λ (l : List ℕ). l ++ rest) (slot_back slot first.0 size)
              ∙ ap (λ (l : List ℕ). slot_of (content_of slot) ++ l) more.bytes
              ∙ sym (slots_next n (content_of slot) (held_in n rest)));
        }

pub board_held : (b : List ℕ) → is_board b ≡ true → HeldRising 0 (held_on b) × ((length (held_on b) ≤ SLOTS) × (b ≡ board_of (held_on b)))
unfolding is_board board_of slots_in
board_held b h =
    let parts = both (eqb (length b) board_size) (in_order SLOTS 0 b) h in
    let these = told SLOTS 0 b (eqb-true (length b) board_size parts.0) parts.1 in
    (these.rising, (these.few, these.bytes))

-- ---- from contents to bytes

slots_length : (n : ℕ) (cs : List (List ℕ)) → length (slots_in n cs) ≡ n * answer_room
unfolding slots_in
slots_length n cs = padded_length (n * answer_room) (slots_bytes cs)

pub read_back : (n above : ℕ) (cs : List (List ℕ)) → HeldRising above cs → length cs ≤ n →
    (in_order n above (slots_in n cs) ≡ true) × (held_in n (slots_in n cs) ≡ cs)
unfolding held_in in_order
read_back zero above [] r h = (refl, refl)
read_back zero above (c ∷ cs) r h = absurd (omega arith)
read_back (suc n) above [] r h =
    let z : is_zero (slots_in (suc n) []) ≡ true = ap is_zero (slots_none (suc n)) ∙ zeros_zero (suc n * answer_room) in
    (rw z refl, rw z refl)
read_back (suc n) above (c ∷ cs) (next low held r) h =
    let more = read_back n (job_of c) cs r (omega arith) in
    let rest = slots_in n cs in
    let first : take answer_room (slot_of c ++ rest) ≡ slot_of c = take_at (slot_of c) rest answer_room (padded_length answer_room c) in
    let after : drop answer_room (slot_of c ++ rest) ≡ rest = drop_at (slot_of c) rest answer_room (padded_length answer_room c) in
    let z : is_zero (slot_of c ++ rest) ≡ false = zero_append (slot_of c) rest
    ∙ ap (λ (t : Bool). t && is_zero rest) (slot_not_zero c held) in
    rw (slots_next n c cs) (
      rw (z, first, after, slot_filled c held, slot_job c, lt-ltb above (job_of c) low) more.0,
      rw (z, first, after, content_back c held) (ap (λ l. c ∷ l) more.1),
    )

pub held_board : (cs : List (List ℕ)) → HeldRising 0 cs → length cs ≤ SLOTS → (is_board (board_of cs) ≡ true) × (held_on (board_of cs) ≡ cs)
unfolding is_board board_of slots_in
held_board cs r h =
    let back = read_back SLOTS 0 cs r h in
    (rw (eq-eqb (length (slots_in SLOTS cs)) board_size (slots_length SLOTS cs)) back.0, back.1)

pub empty_board_lem : empty_board ≡ board_of []
unfolding empty_board board_of slots_bytes
empty_board_lem = sym (padded_none board_size)
