-- The stream of an input, without the counter of `stream_in`. An empty input has no records (`no_records`). If an input
-- begins with a message whose size is the one that its length field gives, and which is not longer than the longest
-- record, this message is the first record of the stream, and the records of the remaining input follow it
-- (`record_first`). `board_after` can be computed one record at a time (`board_by_steps`): depending on what comes first
-- in the input, the board so far is written, or nothing is written, or the record is posted and the remaining input
-- follows.
use mathlib.Core.Path.{◌≡◌, refl, sym, ap, ◌∙◌}
use mathlib.Core.Bool.{true}
use mathlib.Core.List.{List, [], ◌∷◌, ◌++◌}
use Prim.Native.Nat.{ℕ, zero, suc, ◌+◌, ◌≤◌}
use native.Mathlib.Omega.{arith}
use lib.ListN.{length, take, drop, length-drop}
use lib.Seq.{take-append_seam, drop-append_seam, take-append-le, length-take-le}
use Rattle.little_endian.proofs.Same.{number_take}
use Rattle.records.specs.Layout.{LENGTH, answer_room, value_of}
use Rattle.board.specs.Posting.{post_all}
use Rattle.record_stream.specs.declared.Start.{Start}
use Rattle.record_stream.specs.declared.Start.TheVariants.{End, Record, NoRecord}
use Rattle.record_stream.proofs.Starts.{followed}
use Rattle.record_stream.specs.Streams.{start_of, start_in, Stream, followed_by, stream_from, stream_in, stream_of, board_after, board_step}

-- ---- a counter of at least the input's length

no_more : (n : ℕ) → stream_in n [] ≡ record { records = []; whole = true }
unfolding stream_in start_of
no_more zero = refl
no_more (suc n) = refl

-- Two functions for the remaining input that agree on all shorter inputs give the same stream of an input.
later_same : (start : Start) (b : ℕ) (bs : List ℕ) (f g : List ℕ → Stream) →
    ((input : List ℕ) → length input ≤ length bs → f input ≡ g input) → stream_from start (b ∷ bs) f ≡ stream_from start (b ∷ bs) g
later_same End b bs f g h = refl
later_same NoRecord b bs f g h = refl
later_same (Record rest) b bs f g h =
    let size = LENGTH.width + rest in
    let after = drop size (b ∷ bs) in
    let less : length after ≤ length bs = omega (arith, length-drop size (b ∷ bs)) in
    ap (λ (s : Stream). record { records = take size (b ∷ bs) ∷ s.records; whole = s.whole }) (h after less)

enough : (m n : ℕ) (input : List ℕ) → length input ≤ m → length input ≤ n → stream_in m input ≡ stream_in n input
unfolding stream_in
enough zero n [] h k = sym (no_more n)
enough zero n (b ∷ bs) h k = absurd (omega arith)
enough (suc m) zero [] h k = no_more (suc m)
enough (suc m) zero (b ∷ bs) h k = absurd (omega arith)
enough (suc m) (suc n) [] h k = no_more (suc m) ∙ sym (no_more (suc n))
enough (suc m) (suc n) (b ∷ bs) h k =
    later_same (start_in (b ∷ bs)) b bs (stream_in m) (stream_in n) (λ input l. enough m n input (omega arith) (omega arith))

-- ---- the records

pub no_records : stream_of [] ≡ record { records = []; whole = true }
unfolding stream_of
no_records = no_more 0

-- The stream of an input, given what comes first in it.
pub by_first : (input : List ℕ) → stream_of input ≡ stream_from (start_in input) input stream_of
unfolding stream_of stream_in start_of
by_first [] = refl
by_first (b ∷ bs) =
    later_same (start_in (b ∷ bs)) b bs (stream_in (length bs)) stream_of
    (λ input l. enough (length bs) (length input) input l (omega arith))

pub record_first : (message rest : List ℕ) → length message ≡ LENGTH.width + value_of LENGTH message → length message ≤ answer_room →
    stream_of (message ++ rest) ≡ followed_by message (stream_of rest)
record_first message rest sized fits =
    let head = take LENGTH.width message in
    let four : length head ≡ LENGTH.width = length-take-le LENGTH.width message (omega (arith, sized)) in
    let value : value_of LENGTH head ≡ value_of LENGTH message = number_take 4 4 0 message (omega arith) in
    let start : start_in (message ++ rest) ≡ Record (value_of LENGTH message) =
    ap start_of (take-append-le LENGTH.width message rest (omega (arith, sized)))
    ∙ sym (followed head (λ z. omega (arith, four, z)) (omega (arith, four)) (omega (arith, value, sized, fits)))
    ∙ ap Record value in
    by_first (message ++ rest) ∙ ap (λ (s : Start). stream_from s (message ++ rest) stream_of) start ∙ seam
  where
    seam : stream_from (Record (value_of LENGTH message)) (message ++ rest) stream_of ≡ followed_by message (stream_of rest)
    seam =
        let size = LENGTH.width + value_of LENGTH message in
        let front : take size (message ++ rest) ≡ message = rw (sym sized) (take-append_seam message rest) in
        let behind : drop size (message ++ rest) ≡ rest = rw (sym sized) (drop-append_seam message rest) in
        rw (front, behind)

-- ---- the board, one record at a time

by_start : (start : Start) (board input : List ℕ) → stream_of input ≡ stream_from start input stream_of →
    board_after board input ≡ board_step start board input
unfolding board_after post_all
by_start End board input is = rw is refl
by_start NoRecord board input is = rw is refl
by_start (Record rest) board input is = rw is refl

pub board_by_steps : (board input : List ℕ) → board_after board input ≡ board_step (start_in input) board input
board_by_steps board input = by_start (start_in input) board input (by_first input)
