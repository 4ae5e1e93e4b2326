-- What the functions of `post` do to the board, depending on what they return, and what they read and write of an input and an output
-- whose bytes are known. Definitions only.
use Rattle.std.specs.Prelude.{◌≡◌, ℕ, ◌+◌, ◌%◌, ◌^◌, ◌≤◌, List, take, drop, ◌++◌, Bool, true, false, Option, Some, None}
use Rattle.std.specs.Prelude.{Result, Ok, Err, IsErr}
use Rattle.std.specs.Io.KnownBytes.{Appends}
use Rattle.records.specs.Layout.{LENGTH}
use Rattle.board.specs.Board.{post_of}
use Rattle.board.specs.Posting.{post_all}
use Rattle.record_stream.specs.declared.Start.{Start}
use Rattle.record_stream.specs.declared.Start.TheVariants as start
use Rattle.record_stream.specs.Streams.{start_of, start_in, board_after, board_from}
use Rattle.post.specs.declared.Failure.{Failure}
use Rattle.post.specs.declared.Failure.TheVariants.{Length}

-- What comes next: a record at a byte offset of the input, or `None` at the end of the input. After a failure the rest of the input is
-- not read.
abbrev pub Next : Type 0
Next = Result (Option ℕ) Failure

-- One record is posted. It is at the start of the buffer: n bytes that were read before, and at most `rest` more. The
-- next record starts right after it. `place` and `next` are the byte offsets of the two records in the input, counted
-- modulo 2^64.
pub record RecordPosting (n rest place next : ℕ) (board buffer after : List ℕ) : Type 0 where
  pub size : ℕ
  pub least : n ≤ size
  pub most : size ≤ n + rest
  pub behind : next ≡ (place + size) % 2 ^ 64
  pub posts : after ≡ (post_of board (take size buffer)).board

-- What happens to the board when the rest of a record is read, of which n bytes were read before: the record is
-- posted, or the board stays the same if the rest can't be read.
abbrev pub AfterRest : (n rest place : ℕ) (board buffer after : List ℕ) → Next → Type 0
AfterRest n rest place board buffer after (Ok (Some next)) = RecordPosting n rest place next board buffer after
AfterRest n rest place board buffer after (Ok None) = ⊥
AfterRest n rest place board buffer after (Err e) = after ≡ board

-- The same, depending on what comes next in the input. At the end of the input, and after a length above that of the
-- longest record, the board stays the same.
abbrev pub AfterStart : Start → (n place : ℕ) (board buffer after : List ℕ) → Next → Type 0
AfterStart start.End n place board buffer after next = (next ≡ Ok None) × (after ≡ board)
AfterStart (start.Record rest) n place board buffer after next = AfterRest n rest place board buffer after next
AfterStart start.NoRecord n place board buffer after next = (next ≡ Err (Length place)) × (after ≡ board)

-- The same, given the first n bytes of the buffer, which determine what comes next.
abbrev pub AfterHead : (n place : ℕ) (board buffer after : List ℕ) → Next → Type 0
AfterHead n place board buffer after next = AfterStart (start_of (take n buffer)) n place board buffer after next

-- The same, if nothing of the record was read before. `begun`: at most as many bytes were read as a length field has.
-- `unread`: they can't be read, and the board stays the same.
pub data AfterNext (place : ℕ) (board buffer after : List ℕ) (next : Next) : Type 0 where
  unread : IsErr next → after ≡ board → AfterNext place board buffer after next
  begun : (n : ℕ) → n ≤ LENGTH.width → AfterHead n place board buffer after next → AfterNext place board buffer after next

-- One board results from another by posting records, and by nothing else.
pub record Postings (board after : List ℕ) : Type 0 where
  pub records : List (List ℕ)
  pub posts : after ≡ post_all board records

-- ---- An input whose bytes are known

-- The rest of a record is read: `head` was read before, and xs follows it in the input. The record is posted, and `left` is what is left
-- of the input. If a read failed, nothing is promised.
abbrev pub RestRead : (head xs : List ℕ) (rest : ℕ) (left : Option (List ℕ)) (board after : List ℕ) → Next → Type 0
RestRead head xs rest left board after (Ok (Some next)) =
    (left ≡ Some (drop rest xs)) × (after ≡ (post_of board (head ++ take rest xs)).board)
RestRead head xs rest left board after (Ok None) = ⊥
RestRead head xs rest left board after (Err e) = Unit {0}

-- The same, depending on what `head` says comes next in the input.
abbrev pub HeadRead : Start → (head xs : List ℕ) (left : Option (List ℕ)) (board after : List ℕ) → Next → Type 0
HeadRead start.End head xs left board after next = (next ≡ Ok None) × (after ≡ board)
HeadRead (start.Record rest) head xs left board after next = RestRead head xs rest left board after next
HeadRead start.NoRecord head xs left board after (Ok next) = ⊥
HeadRead start.NoRecord head xs left board after (Err e) = Unit {0}

-- The next record of the input xs is posted, and `left` is what is left of the input; or the input has ended, and the board stays the
-- same. If a read failed, or nothing tells where the next record starts, nothing is promised.
abbrev pub RecordRead : (xs : List ℕ) (left : Option (List ℕ)) (board after : List ℕ) → Next → Type 0
RecordRead xs left board after (Ok (Some next)) =
    (rest : ℕ)
    × (start_in xs ≡ start.Record rest)
    × (left ≡ Some (drop (LENGTH.width + rest) xs))
    × (after ≡ (post_of board (take (LENGTH.width + rest) xs)).board)
RecordRead xs left board after (Ok None) = (start_in xs ≡ start.End) × (after ≡ board)
RecordRead xs left board after (Err e) = Unit {0}

-- Every record of the input xs is posted, if the input was read to its end.
abbrev pub InputRead : (xs board after : List ℕ) → Result Bool Failure → Type 0
InputRead xs board after (Ok true) = after ≡ board_after board xs
InputRead xs board after (Ok false) = Unit {0}
InputRead xs board after (Err e) = Unit {0}

-- If the result says that the input was read to its end, the board with every record of the input xs is written. For any other result
-- nothing is promised.
abbrev pub BoardWritten : (xs : List ℕ) (output after : Option (List ℕ)) → Result Bool Failure → Type 0
BoardWritten xs output after (Ok true) = Appends output after (board_from xs)
BoardWritten xs output after (Ok false) = Unit {0}
BoardWritten xs output after (Err e) = Unit {0}
