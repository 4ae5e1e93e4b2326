-- The record of every question is a well-formed outcome (`record_outcome`), so posting it is never refused with B1
-- (`never_malformed`), which has the number 1 (`never_b1`). The proof splits on the four forms of a record.
use mathlib.Core.Path.{◌≡◌, refl}
use mathlib.Core.Bool.{Bool, true, false, cond, not}
use mathlib.Core.List.{List}
use Prim.Native.Nat.{ℕ}
use native.Mathlib.Omega.{arith}
use lib.Dec.{eqb, ltb}
use lib.ListN.{length}
use Rattle.question_record.specs.Record.{void_refusal_for, record_of}
use Rattle.records.specs.Layout.{job_of, revision_of}
use Rattle.records.specs.Records.{refusal_with}
use Rattle.outcomes.specs.Outcomes.{is_outcome}
use Rattle.outcomes.proofs.Written.{refusal_outcome, answer_outcome}
use Rattle.board.specs.Board.{SLOTS, is_board, held_on, board_of, placed, board_refusal, taken_with, placed_on, post_of}
use Rattle.board.specs.Board.{posted_number}
use Rattle.board.specs.declared.PostError.{PostError}
use Rattle.board.specs.declared.PostError.TheVariants.{NotABoard, Malformed, JobZero, NoSlotFree}
use Rattle.std.specs.Prelude.{Result, Ok, Err}
use Rattle.record_laws.specs.RecordForm.{RecordForm, malformed_question, refusal, void_refusal, answer}
use Rattle.record_laws.proofs.Forms.{record_form}

form_outcome : (s : List ℕ) {l : List ℕ} → RecordForm s l → is_outcome l ≡ true
unfolding void_refusal_for
form_outcome s malformed_question = refusal_outcome (refusal_with 0 0 1) (omega arith) (omega arith)
form_outcome s (refusal n low high other above) =
    refusal_outcome (refusal_with (job_of s) (revision_of s) n) (omega (arith, low)) (omega (arith, high))
form_outcome s (void_refusal station grid above) = refusal_outcome (void_refusal_for s station) (omega arith) (omega arith)
form_outcome s (answer es low high ends above) = answer_outcome (job_of s) (revision_of s) es low high ends

pub record_outcome : (s : List ℕ) → is_outcome (record_of s) ≡ true
record_outcome s = form_outcome s (record_form s)

-- ---- posting on any bytes, whether they are a board or not

module _ (b new : List ℕ) where
  -- A call has four results other than B1: not a board (B0), job 0 (B2), no free slot (B3), and taken.
  not_b1 : (board formed : Bool) → formed ≡ true → (zero full : Bool) →
      (cond (not board) (board_refusal NotABoard b)
      (cond (not formed) (board_refusal Malformed b)
      (cond zero (board_refusal JobZero b)
      (cond full (board_refusal NoSlotFree b) (taken_with (board_of (placed (held_on b) new))))))).posted
      ≡ Err Malformed → ⊥
  not_b1 false formed f zero full e = cc
  not_b1 true true f true full e = cc
  not_b1 true true f false true e = cc
  not_b1 true true f false false e = cc
  not_b1 true false f zero full e = cc

pub never_malformed : (b s : List ℕ) → (post_of b (record_of s)).posted ≡ Err Malformed → ⊥
unfolding post_of placed_on
never_malformed b s e =
    let new = record_of s in
    not_b1 b new (is_board b) (is_outcome new) (record_outcome s) (eqb (job_of new) 0) (ltb SLOTS (length (placed (held_on b) new))) e

-- The number 1 is that of B1 alone.
number_1 : (posted : Result Unit PostError) → posted_number posted ≡ 1 → posted ≡ Err Malformed
number_1 (Ok taken) e = absurd (omega (arith, e))
number_1 (Err NotABoard) e = absurd (omega (arith, e))
number_1 (Err Malformed) e = refl
number_1 (Err JobZero) e = absurd (omega (arith, e))
number_1 (Err NoSlotFree) e = absurd (omega (arith, e))

pub never_b1 : (b s : List ℕ) → posted_number (post_of b (record_of s)).posted ≡ 1 → ⊥
never_b1 b s e = never_malformed b s (number_1 (post_of b (record_of s)).posted e)
