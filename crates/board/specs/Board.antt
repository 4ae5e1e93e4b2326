-- A board of outcomes, one for each job, and what it becomes when a record is posted (02, A1). Definitions only.
use Rattle.std.specs.Prelude.{◌≡◌, ℕ, zero, suc, ◌*◌, ◌<◌, Bool, true, cond, not, ◌&&◌, ◌||◌, List, [], ◌∷◌, ◌++◌, eqb, ltb, length}
use Rattle.std.specs.Prelude.{take, drop, replicate, Result, Ok, Err}
use Rattle.records.specs.Layout.{answer_room, job_of, revision_of}
use Rattle.records.specs.Records.{conflict_bytes}
use Rattle.outcomes.specs.Outcomes.{is_outcome}
use Rattle.slots.specs.Slots.{padded, slot_of, content_of, is_held, is_zero, is_filled, same_bytes}
use Rattle.board.specs.declared.PostError.{PostError}
use Rattle.board.specs.declared.PostError.TheVariants.{NotABoard, Malformed, JobZero, NoSlotFree}

-- ---- the bytes of a board

-- The number of slots of a board. Each slot has room for the longest answer.
abbrev pub SLOTS : ℕ
SLOTS = 64

-- The size of a board in bytes.
abbrev pub board_size : ℕ
board_size = SLOTS * answer_room

-- Whether n slots are in order: filled slots with rising job numbers above the job `above`, and then only zeros, which
-- are the free slots.
unfoldable pub in_order : ℕ → ℕ → List ℕ → Bool
in_order zero above b = true
in_order (suc n) above b =
    let slot = take answer_room b in
    is_zero b || (is_filled slot && ltb above (job_of slot) && in_order n (job_of slot) (drop answer_room b))

-- Whether the bytes are a board: they have the right size, and the slots are in order, with job numbers above 0.
unfoldable pub is_board : List ℕ → Bool
is_board b = eqb (length b) board_size && in_order SLOTS 0 b

-- The contents of the filled slots among the first n slots of a board.
unfoldable pub held_in : ℕ → List ℕ → List (List ℕ)
held_in zero b = []
held_in (suc n) b = cond (is_zero b) [] (content_of (take answer_room b) ∷ held_in n (drop answer_room b))

-- The contents of all filled slots of a board.
abbrev pub held_on : List ℕ → List (List ℕ)
held_on b = held_in SLOTS b

-- The bytes of the slots with the given contents, one after another.
unfoldable pub slots_bytes : List (List ℕ) → List ℕ
slots_bytes [] = []
slots_bytes (c ∷ cs) = slot_of c ++ slots_bytes cs

-- The bytes of the board with the given contents in its first slots. The slots after them are free.
unfoldable pub board_of : List (List ℕ) → List ℕ
board_of held = padded board_size (slots_bytes held)

-- The initial board, which is all zeros.
unfoldable pub empty_board : List ℕ
empty_board = replicate board_size 0

-- Contents that slots may hold, with rising job numbers above the job `above`.
pub data HeldRising : ℕ → List (List ℕ) → Type 0 where
  none : {above : ℕ} → HeldRising above []
  next : {above : ℕ} {c : List ℕ} {cs : List (List ℕ)} →
      above < job_of c → is_held c ≡ true → HeldRising (job_of c) cs → HeldRising above (c ∷ cs)

-- ---- posting a record

-- What is held for a job after a record of this job is posted: the old content or the record, whichever has the higher
-- revision. If the revisions are equal, the same bytes change nothing, and different bytes make a conflict.
unfoldable pub joined : List ℕ → List ℕ → List ℕ
joined held new =
    cond (ltb (revision_of held) (revision_of new)) new
    (cond (ltb (revision_of new) (revision_of held)) held
    (cond (same_bytes held new) held (conflict_bytes (job_of new) (revision_of new))))

-- What is held for all jobs, by rising job number, after a record is posted. This definition ignores the limit of 64
-- slots; `placed_on` applies it.
unfoldable pub placed : List (List ℕ) → List ℕ → List (List ℕ)
placed [] new = new ∷ []
placed (held ∷ rest) new =
    cond (ltb (job_of held) (job_of new)) (held ∷ placed rest new)
    (cond (eqb (job_of held) (job_of new)) (joined held new ∷ rest) (new ∷ held ∷ rest))

-- The result of a call: the value that it returns, and the bytes of the board after it.
pub record PostResult : Type 0 where
  pub posted : Result Unit PostError
  pub board : List ℕ

-- The result of a refusal. The board stays unchanged.
abbrev pub board_refusal : PostError → List ℕ → PostResult
board_refusal error b = record { posted = Err error; board = b }

-- The result of a record that is taken, with the board after it.
abbrev pub taken_with : List ℕ → PostResult
taken_with b = record { posted = Ok tt; board = b }

-- The result of posting a well-formed record, whose job is not 0, on a board. B3: no slot is free for a new job.
unfoldable pub placed_on : List ℕ → List ℕ → PostResult
placed_on b new =
    let after = placed (held_on b) new in
    cond (ltb SLOTS (length after)) (board_refusal NoSlotFree b) (taken_with (board_of after))

-- The result of posting any bytes as a record on any bytes as a board. The refusals are tested in this order. B0: not a
-- board. B1: a malformed record. B2: job 0. B3: see `placed_on`.
unfoldable pub post_of : List ℕ → List ℕ → PostResult
post_of b new =
    cond (not (is_board b)) (board_refusal NotABoard b)
    (cond (not (is_outcome new)) (board_refusal Malformed b)
    (cond (eqb (job_of new) 0) (board_refusal JobZero b) (placed_on b new)))

-- The number of a refusal: 0 to 3 for B0 to B3.
abbrev pub error_number : PostError → ℕ
error_number NotABoard = 0
error_number Malformed = 1
error_number JobZero = 2
error_number NoSlotFree = 3

-- The returned value as one number: the number of the refusal, or 255 if the record was taken.
abbrev pub posted_number : Result Unit PostError → ℕ
posted_number (Ok taken) = 255
posted_number (Err error) = error_number error
