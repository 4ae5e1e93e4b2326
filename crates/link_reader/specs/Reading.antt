-- The reader of questions that arrive over a link in pieces (02, A2): its state, and the step of one call. Definitions only.
use Rattle.std.specs.Prelude.{ℕ, ◌-◌, Bool, true, false, cond, not, ◌||◌, ◌&&◌, eqb, ltb, leb, Option, Some, None, Result, Ok, Err}
use Rattle.std.specs.Prelude.{List, [], ◌∷◌, ◌++◌, length, take, replicate}
use Rattle.little_endian.specs.Bytes.{written}
use Rattle.records.specs.Layout.{LENGTH, question_lengths, question_room, value_of, size_of}
use Rattle.link_reader.specs.declared.Reader.{Reader}
use Rattle.link_reader.specs.declared.Step.{Step}
use Rattle.link_reader.specs.declared.Refusal.{Refusal}
use Rattle.link_reader.specs.declared.Refusal.TheVariants.{BadLength, NeedsReset}

-- The bytes that a reader keeps: those received so far of an unfinished question.
abbrev pub kept_of : Reader → List ℕ
kept_of r = take r.count r.bytes

-- An empty question buffer: all zeros.
abbrev pub blank : List ℕ
blank = replicate question_room 0

-- A reader in its initial state. It keeps no bytes.
abbrev pub as_new : Reader
as_new = record { bytes = blank; count = 0; refused = false }

-- A reader that has refused a length. It keeps no bytes and needs a reset.
abbrev pub after_refusal : Reader
after_refusal = record { bytes = blank; count = 0; refused = true }

-- The result of a call: the size of a finished question, `None` if no question is finished yet, or a refusal.
abbrev pub Came : Type 0
Came = Result (Option ℕ) Refusal

-- Whether a number occurs in a list.
unfoldable pub is_among : ℕ → List ℕ → Bool
is_among n [] = false
is_among n (m ∷ ms) = eqb n m || is_among n ms

-- Whether a length is in force for a question.
abbrev pub is_question_length : ℕ → Bool
is_question_length n = is_among n question_lengths

-- The result for the bytes held, which are the kept bytes followed by the piece. The length is judged once its four bytes have arrived.
unfoldable pub judged : List ℕ → Came
judged held =
    cond (ltb (length held) LENGTH.width) (Ok None)
    (cond (not (is_question_length (value_of LENGTH held))) (Err BadLength)
    (cond (ltb (length held) (size_of held)) (Ok None)
    (Ok (Some (size_of held)))))

-- The number of a refusal: a number of 01's table, or one of 02's B numbers.
pub data RefusalNumber : Type 0 where
  number : ℕ → RefusalNumber
  number_b : ℕ → RefusalNumber

-- The number of the refusal of each result: a list with one element, or an empty one if the result is not a refusal.
abbrev pub refusal_of : Came → List RefusalNumber
refusal_of (Ok (Some size)) = []
refusal_of (Ok None) = []
refusal_of (Err BadLength) = number 1 ∷ []
refusal_of (Err NeedsReset) = number_b 4 ∷ []

-- Whether the bytes held contain the four bytes of a length and this length is not in force.
abbrev pub has_bad_length : List ℕ → Bool
has_bad_length held = leb LENGTH.width (length held) && not (is_question_length (value_of LENGTH held))

-- The refusal that a piece gets: B4 if a length was refused since the last reset; number 1 if the kept bytes followed by the piece begin
-- with a length that is not in force; none otherwise.
unfoldable pub refusal_for : Reader → List ℕ → List RefusalNumber
refusal_for r piece = cond r.refused (number_b 4 ∷ []) (cond (has_bad_length (kept_of r ++ piece)) (number 1 ∷ []) [])

-- The size of the finished question, or 0 if none is finished.
abbrev pub size_given : Came → ℕ
size_given (Ok (Some size)) = size
size_given (Ok None) = 0
size_given (Err refusal) = 0

-- The result of a call. After a refusal it is `NeedsReset` (B4) for every piece.
unfoldable pub came_of : Reader → List ℕ → Came
came_of r piece = cond r.refused (Err NeedsReset) (judged (kept_of r ++ piece))

-- The step that a call makes for a given result: the next state, how many bytes it took, the result, and the bytes of a finished
-- question. A finished question: the call takes the piece up to the question's last byte, and the next state is the initial one. No
-- finished question: it takes the whole piece and keeps it. `BadLength`: it takes the whole piece and keeps nothing. `NeedsReset` (B4):
-- it takes no bytes and leaves the state as it was.
unfoldable pub step_by : Came → Reader → List ℕ → Step
step_by (Ok (Some size)) r piece =
    record {
      next = as_new;
      taken = size - length (kept_of r);
      came = Ok (Some size);
      question = written r.bytes (take size (kept_of r ++ piece));
    }
step_by (Ok None) r piece =
    record {
      next = record { bytes = written r.bytes (kept_of r ++ piece); count = length (kept_of r ++ piece); refused = false };
      taken = length piece;
      came = Ok None;
      question = blank;
    }
step_by (Err BadLength) r piece = record { next = after_refusal; taken = length piece; came = Err BadLength; question = blank }
step_by (Err NeedsReset) r piece = record { next = r; taken = 0; came = Err NeedsReset; question = blank }

-- The step of a call of `read`.
unfoldable pub read_of : Reader → List ℕ → Step
read_of r piece = step_by (came_of r piece) r piece
