-- Posts with concrete bytes. First 01's worked refusal is posted on the empty board (`worked_taken`), then another record of the same job
-- and revision (`another_clashes`), or a refusal 12 of another job, which is longer (`void_taken`). These three theorems give the result,
-- every byte of the board after the call, and what it holds. `clash_is` and `void_is` say that the definitions give the bytes of the
-- conflict and of the refusal 12. One refusal 12 of the shorter form (`short_12_refused`) and one refusal 11 of the longer form
-- (`long_11_refused`) are refused with B1 by every board, which keeps its bytes. The bytes that hold this short refusal 12 alone are not a
-- board: every post to them is refused with B0 (`short_12_held`). These three also give the number of the refusal. For refusals with any
-- other bytes see `RefusalSizes` of `record_laws`. A board is too long to compute with, so `next_board` computes with what it holds.
use mathlib.Core.Path.{◌≡◌, refl, ap, ◌∙◌}
use mathlib.Core.Bool.{Bool, true, false, ◌&&◌, and-false}
use mathlib.Core.List.{List, [], ◌∷◌, ◌++◌, append_assoc}
use Prim.Native.Nat.{ℕ, zero, suc, ◌+◌, ◌-◌, ◌*◌, ◌≤◌}
use native.Mathlib.Omega.{arith}
use borrow.Author.Tests.{ltb-true, le-ltb}
use lib.Dec.{ltb}
use lib.IntN.{negsuc}
use lib.ListN.{length, replicate-append-replicate}
use Rattle.little_endian.specs.Bytes.{AreBytes, bytes_of, number_at, twos_complement}
use Rattle.records.specs.Records.{refusal_bytes, conflict_bytes}
use Rattle.records.specs.Layout.{encode, answer_room, void_refusal_fields, conflict_fields}
use Rattle.outcomes.specs.Outcomes.{is_sized, is_refusal, is_answer, is_outcome}
use Rattle.slots.specs.Slots.{content_of, is_conflict, is_held, is_zero, is_filled, same_bytes}
use Rattle.slots.proofs.Padding.{padded_is}
use Rattle.slots.proofs.Zeros.{both}
use Rattle.board.specs.declared.PostError.TheVariants.{NotABoard, Malformed}
use Rattle.board.specs.Board.{SLOTS, board_size, in_order, is_board, held_on, board_of, empty_board, joined, placed}
use Rattle.board.specs.Board.{PostResult, board_refusal, taken_with, placed_on, post_of, posted_number}
use Rattle.arrival_laws.specs.Messages.{Postable}
use Rattle.board.proofs.Boards.{zeros, slots_in, slots_next, slots_none}
use Rattle.arrival_laws.proofs.Posting.{judged, taken_board, starts_board}

-- ---- the bytes of a board with one filled slot, and with two

unfoldable pub alone : List ℕ → List ℕ
alone c = c ++ zeros (board_size - length c)

unfoldable pub two : List ℕ → List ℕ → List ℕ
two c d = c ++ zeros (answer_room - length c) ++ (d ++ zeros (board_size - answer_room - length d))

slots_alone : (n : ℕ) (c : List ℕ) → length c ≤ answer_room → slots_in (suc n) (c ∷ []) ≡ c ++ zeros (suc n * answer_room - length c)
slots_alone n c h =
    let sum : answer_room - length c + n * answer_room ≡ suc n * answer_room - length c = omega arith in
    slots_next n c [] ∙ rw (slots_none n, padded_is answer_room c h, append_assoc, replicate-append-replicate, sum)

board_alone : (c : List ℕ) → length c ≤ answer_room → board_of (c ∷ []) ≡ alone c
unfolding board_of slots_in alone
board_alone c h = slots_alone (SLOTS - 1) c h

board_two : (c d : List ℕ) → length c ≤ answer_room → length d ≤ answer_room → board_of (c ∷ d ∷ []) ≡ two c d
unfolding board_of slots_in two
board_two c d h k = slots_next (SLOTS - 1) c (d ∷ []) ∙ rw (padded_is answer_room c h, slots_alone (SLOTS - 2) d k)

-- ---- a record posted on a board with known contents

are_bytes : List ℕ → Bool
are_bytes [] = true
are_bytes (x ∷ xs) = ltb x 256 && are_bytes xs

are_bytes_lem : (m : List ℕ) → are_bytes m ≡ true → AreBytes m
unfolding are_bytes
are_bytes_lem [] e i = omega arith
are_bytes_lem (x ∷ xs) e zero = ltb-true x 256 (both (ltb x 256) (are_bytes xs) e).0
are_bytes_lem (x ∷ xs) e (suc i) = are_bytes_lem xs (both (ltb x 256) (are_bytes xs) e).1 i

record Holding (b : List ℕ) (held : List (List ℕ)) : Type 0 where
  board : is_board b ≡ true
  these : held_on b ≡ held

record Next (b new : List ℕ) (after : List (List ℕ)) : Type 0 where
  given : post_of b new ≡ taken_with (board_of after)
  holding : Holding (board_of after) after

next_board : (b new : List ℕ) (held : List (List ℕ)) → Holding b held → are_bytes new ≡ true → Postable new
    → length (placed held new) ≤ SLOTS → Next b new (placed held new)
unfolding placed_on
next_board b new held on bytes postable room =
    let room : length (placed (held_on b) new) ≤ SLOTS = rw on.these room in
    let t = taken_board b new (are_bytes_lem new bytes) on.board postable room in
    rw (← on.these)
    (record {
      given = judged b new on.board postable ∙ rw (le-ltb SLOTS (length (placed (held_on b) new)) room);
      holding = record { board = t.0; these = t.1 };
    })

-- ---- the cases

-- Two refusals of job 7, revision 2: the one that 01 gives, with number 11 (`worked`), and one with number 9
-- (`another`). Together they make the conflict `clash`.
abbrev pub worked : List ℕ
worked = 0x0C ∷ 0 ∷ 0 ∷ 0 ∷ 3 ∷ 0 ∷ 7 ∷ 0 ∷ 0 ∷ 0 ∷ 2 ∷ 0 ∷ 0 ∷ 0 ∷ 0x0B ∷ 0 ∷ []

abbrev pub another : List ℕ
another = 0x0C ∷ 0 ∷ 0 ∷ 0 ∷ 3 ∷ 0 ∷ 7 ∷ 0 ∷ 0 ∷ 0 ∷ 2 ∷ 0 ∷ 0 ∷ 0 ∷ 9 ∷ 0 ∷ []

abbrev pub clash : List ℕ
clash = 0x0A ∷ 0 ∷ 0 ∷ 0 ∷ 4 ∷ 0 ∷ 7 ∷ 0 ∷ 0 ∷ 0 ∷ 2 ∷ 0 ∷ 0 ∷ 0 ∷ []

first : Next empty_board worked (worked ∷ [])
unfolding placed are_bytes is_outcome is_refusal is_sized number_at
first =
    next_board empty_board worked [] (record { board = starts_board.0; these = starts_board.1 }) refl
    (record { formed = refl; named = omega arith }) (omega arith)

second : Next (board_of (worked ∷ [])) another (clash ∷ [])
unfolding placed joined same_bytes are_bytes is_outcome is_refusal is_sized conflict_bytes conflict_fields encode bytes_of number_at
second =
    next_board (board_of (worked ∷ [])) another (worked ∷ []) first.holding refl (record { formed = refl; named = omega arith })
    (omega arith)

pub worked_taken : (post_of empty_board worked ≡ taken_with (alone worked)) × (held_on (alone worked) ≡ worked ∷ [])
worked_taken = rw (← board_alone worked (omega arith)) (first.given, first.holding.these)

pub another_clashes : (post_of (alone worked) another ≡ taken_with (alone clash)) × (held_on (alone clash)
    ≡ clash ∷ [])
another_clashes = rw (← board_alone worked (omega arith), ← board_alone clash (omega arith)) (second.given, second.holding.these)

pub clash_is : conflict_bytes 7 2 ≡ clash
unfolding conflict_bytes conflict_fields encode bytes_of
clash_is = refl

-- ---- both sizes of a refusal

-- Refusals of job 8, revision 2. Number 12 with station j = -4,095 and reason 1 (`void`), the same without both (`short_12`), and
-- number 11 with both (`long_11`).
abbrev pub void : List ℕ
void = 0x12 ∷ 0 ∷ 0 ∷ 0 ∷ 3 ∷ 0 ∷ 8 ∷ 0 ∷ 0 ∷ 0 ∷ 2 ∷ 0 ∷ 0 ∷ 0 ∷ 0x0C ∷ 0 ∷ 0x01 ∷ 0xF0 ∷ 0xFF ∷ 0xFF ∷ 1 ∷ 0 ∷ []

abbrev pub short_12 : List ℕ
short_12 = 0x0C ∷ 0 ∷ 0 ∷ 0 ∷ 3 ∷ 0 ∷ 8 ∷ 0 ∷ 0 ∷ 0 ∷ 2 ∷ 0 ∷ 0 ∷ 0 ∷ 0x0C ∷ 0 ∷ []

abbrev pub long_11 : List ℕ
long_11 = 0x12 ∷ 0 ∷ 0 ∷ 0 ∷ 3 ∷ 0 ∷ 8 ∷ 0 ∷ 0 ∷ 0 ∷ 2 ∷ 0 ∷ 0 ∷ 0 ∷ 0x0B ∷ 0 ∷ 0x01 ∷ 0xF0 ∷ 0xFF ∷ 0xFF ∷ 1 ∷ 0 ∷ []

pub void_is_lem : refusal_bytes (record { job = 8; revision = 2; number = 12; station = negsuc 4094; reason = 1 }) ≡ void
unfolding refusal_bytes void_refusal_fields encode bytes_of twos_complement
void_is_lem = refl

both_sizes : Next (board_of (worked ∷ [])) void (worked ∷ void ∷ [])
unfolding placed are_bytes is_outcome is_refusal is_sized number_at
both_sizes =
    next_board (board_of (worked ∷ [])) void (worked ∷ []) first.holding refl (record { formed = refl; named = omega arith })
    (omega arith)

pub void_taken : (post_of (alone worked) void ≡ taken_with (two worked void))
    × (held_on (two worked void) ≡ worked ∷ void ∷ [])
void_taken =
    rw (← board_alone worked (omega arith), ← board_two worked void (omega arith) (omega arith))
    (both_sizes.given, both_sizes.holding.these)

malformed : (b new : List ℕ) → is_board b ≡ true → is_outcome new ≡ false
    → (post_of b new ≡ board_refusal Malformed b) × (posted_number (post_of b new).posted ≡ 1)
unfolding post_of
malformed b new board fault =
    let refused : post_of b new ≡ board_refusal Malformed b = rw (board, fault) in
    (refused, ap (λ (o : PostResult). posted_number o.posted) refused)

pub short_12_refused : (b : List ℕ) → is_board b ≡ true
    → (post_of b short_12 ≡ board_refusal Malformed b) × (posted_number (post_of b short_12).posted ≡ 1)
unfolding is_outcome is_refusal is_answer is_sized number_at
short_12_refused b board = malformed b short_12 board refl

pub long_11_refused : (b : List ℕ) → is_board b ≡ true
    → (post_of b long_11 ≡ board_refusal Malformed b) × (posted_number (post_of b long_11).posted ≡ 1)
unfolding is_outcome is_refusal is_answer is_sized number_at
long_11_refused b board = malformed b long_11 board refl

not_filled : in_order SLOTS 0 (alone short_12) ≡ false
unfolding in_order is_zero is_filled is_held is_conflict is_outcome is_refusal is_answer is_sized content_of number_at alone
not_filled = refl

pub short_12_held : (new : List ℕ) → (post_of (alone short_12) new ≡ board_refusal NotABoard (alone short_12))
    × (posted_number (post_of (alone short_12) new).posted ≡ 0)
unfolding post_of is_board
short_12_held new =
    let refused : post_of (alone short_12) new ≡ board_refusal NotABoard (alone short_12) = rw (not_filled, and-false) in
    (refused, ap (λ (o : PostResult). posted_number o.posted) refused)
