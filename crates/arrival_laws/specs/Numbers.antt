-- The numbers of the results of a post (02, A1): 0 to 3 for B0 to B3, and 255 for a record that is taken. They are written out here, so
-- that a number which is wrong in the code and in `error_number` alike is still noticed. Definitions only; proofs/Posting.antt has the
-- theorem `numbered`.
use Rattle.std.specs.Prelude.{◌≡◌, ℕ, ◌≤◌, ◌<◌, List, true, false, length}
use Rattle.records.specs.Layout.{job_of}
use Rattle.outcomes.specs.Outcomes.{is_outcome}
use Rattle.board.specs.Board.{SLOTS, is_board, held_on, placed}
use Rattle.arrival_laws.specs.Messages.{Postable}

-- Numbered b new n: n is the number of the result of posting `new` on b.
pub data Numbered (b new : List ℕ) : ℕ → Type 0 where
  b0 : is_board b ≡ false → Numbered b new 0
  b1 : is_board b ≡ true → is_outcome new ≡ false → Numbered b new 1
  b2 : is_board b ≡ true → is_outcome new ≡ true → job_of new ≡ 0 → Numbered b new 2
  b3 : is_board b ≡ true → Postable new → SLOTS < length (placed (held_on b) new) → Numbered b new 3
  no_refusal : is_board b ≡ true → Postable new → length (placed (held_on b) new) ≤ SLOTS → Numbered b new 255
