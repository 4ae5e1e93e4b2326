-- Records one after another in an input, separated by their length fields, and the board that results from posting them
-- (01, Records on the wire; 02, A1). Writing no board after a length above that of the longest record is our own
-- choice. Definitions only.
use Rattle.std.specs.Prelude.{ℕ, zero, suc, ◌+◌, ◌-◌, Bool, true, false, cond, List, [], ◌∷◌, eqb, ltb, length, take, drop}
use Rattle.records.specs.Layout.{LENGTH, answer_room, value_of}
use Rattle.board.specs.Board.{empty_board, post_of}
use Rattle.board.specs.Posting.{post_all}
use Rattle.record_stream.specs.declared.Start.{Start}
use Rattle.record_stream.specs.declared.Start.TheVariants.{End, Record, NoRecord}

-- The largest number of bytes that follow the length field of a record.
abbrev pub longest_rest : ℕ
longest_rest = answer_room - LENGTH.width

-- What comes next in an input, given its next bytes: as many as a length field has, or fewer at the end of the input.
-- - `End`: there are no bytes.
-- - `Record`: a record, with the number of bytes that its length field says follow. The input may end before them. The
--   number is 0 if the input ends within the length field.
-- - `NoRecord`: a length above that of the longest record.
unfoldable pub start_of : List ℕ → Start
start_of head =
    cond (eqb (length head) 0) End
    (cond (ltb (length head) LENGTH.width) (Record 0)
    (cond (ltb longest_rest (value_of LENGTH head)) NoRecord (Record (value_of LENGTH head))))

-- What comes first in an input.
abbrev pub start_in : List ℕ → Start
start_in input = start_of (take LENGTH.width input)

-- The records of an input that can be separated, and whether they are all of its records. After a length above that of
-- the longest record, nothing tells where the next record starts.
pub record Stream : Type 0 where
  pub records : List (List ℕ)
  pub whole : Bool

-- A record, followed by a stream.
abbrev pub followed_by : List ℕ → Stream → Stream
followed_by message later = record { records = message ∷ later.records; whole = later.whole }

-- The stream of an input, given what comes first in it and a function for the stream of the remaining input. If the
-- input ends within its last record, that record is shorter than its length field says.
abbrev pub stream_from : Start → List ℕ → (List ℕ → Stream) → Stream
stream_from End input later = record { records = []; whole = true }
stream_from NoRecord input later = record { records = []; whole = false }
stream_from (Record rest) input later =
    let size = LENGTH.width + rest in
    followed_by (take size input) (later (drop size input))

-- The stream of an input, up to n records.
unfoldable pub stream_in : ℕ → List ℕ → Stream
stream_in zero input = record { records = []; whole = true }
stream_in (suc n) input = stream_from (start_in input) input (stream_in n)

-- The stream of an input with all its records. No record is empty, so there are at most as many records as bytes.
unfoldable pub stream_of : List ℕ → Stream
stream_of input = stream_in (length input) input

-- What is written after the records of an input are posted on a board in their order: the board, or nothing if these
-- are not all records of the input.
unfoldable pub board_after : List ℕ → List ℕ → List ℕ
board_after board input = cond (stream_of input).whole (post_all board (stream_of input).records) []

-- One step of `board_after`, given what comes first in the input. At the end of the input the board so far is written.
-- After a length above that of the longest record nothing is written. Otherwise the first record is posted, and the
-- remaining input follows.
abbrev pub board_step : Start → List ℕ → List ℕ → List ℕ
board_step End board input = board
board_step NoRecord board input = []
board_step (Record rest) board input =
    let size = LENGTH.width + rest in
    board_after (post_of board (take size input)).board (drop size input)

-- What is written for an input if the board starts as all zeros.
unfoldable pub board_from : List ℕ → List ℕ
board_from input = board_after empty_board input
