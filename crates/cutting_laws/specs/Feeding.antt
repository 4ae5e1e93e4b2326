-- Feeding a stream to a reader in pieces, and what the uncut stream holds (02, A2). Definitions only.
use Rattle.std.specs.Prelude.{ℕ, zero, suc, ◌≡◌, true, false, cond, eqb, length, take, drop, Some, None, Ok, Err}
use mathlib.Core.List.{List, [], ◌∷◌, ◌++◌, map, Memᴰ}
use Rattle.little_endian.specs.Bytes.{written}
use Rattle.records.specs.Layout.{LENGTH, value_of, size_of}
use Rattle.link_reader.specs.declared.Reader.{Reader}
use Rattle.link_reader.specs.declared.Refusal.TheVariants.{BadLength, NeedsReset}
use Rattle.link_reader.specs.Reading.{Came, RefusalNumber, refusal_of, kept_of, blank, as_new, after_refusal}
use Rattle.link_reader.specs.Reading.{is_question_length, read_of}
use Rattle.link_reader.specs.Verdicts.{Verdict}

-- What a reader gives out: the bytes of a question, or a refusal.
pub data Given : Type 0 where
  question : List ℕ → Given
  refusal : RefusalNumber → Given

-- What a call gives out, from its result and the buffer beside it: a question, or the refusal of a length. B4 is left out: 02, A2
-- excludes it from the comparison.
unfoldable pub given_by : Came → List ℕ → List Given
given_by (Ok (Some size)) bytes = question (take size bytes) ∷ []
given_by (Ok None) bytes = []
given_by (Err BadLength) bytes = map refusal (refusal_of (Err BadLength))
given_by (Err NeedsReset) bytes = []

-- The result of feeding: what the calls gave out, in order, the state of the reader afterwards, and the bytes that no call took.
pub record Fed : Type 0 where
  pub given : List Given
  pub reader : Reader
  pub left : List ℕ

abbrev pub fed : List Given → Reader → List ℕ → Fed
fed gs r left = record { given = gs; reader = r; left = left }

-- The result of feeding, with the output of earlier calls put before its own.
abbrev pub prepend : List Given → Fed → Fed
prepend gs f = fed (gs ++ f.given) f.reader f.left

-- Passes in a piece, and passes in again the bytes that a call did not take, in at most the given number of calls. If a reset is needed,
-- no call takes a byte.
unfoldable pub feed_for : ℕ → Reader → List ℕ → Fed
feed_for zero r piece = fed [] r piece
feed_for (suc calls) r piece =
    let s = read_of r piece in
    let rest = drop s.taken piece in
    prepend (given_by s.came s.question) (cond (eqb (length rest) 0) (fed [] s.next []) (feed_for calls s.next rest))

-- Feeds a piece, in at most one call more than it has bytes.
unfoldable pub feed : Reader → List ℕ → Fed
feed r piece = feed_for (suc (length piece)) r piece

-- Feeds pieces one after another.
unfoldable pub feed_all : Reader → List (List ℕ) → Fed
feed_all r [] = fed [] r []
feed_all r (p ∷ ps) =
    let first = feed r p in
    let later = feed_all first.reader ps in
    fed (first.given ++ later.given) later.reader (first.left ++ later.left)

-- The stream that pieces make when joined.
unfoldable pub concatenation : List (List ℕ) → List ℕ
concatenation [] = []
concatenation (p ∷ ps) = p ++ concatenation ps

-- A reader that keeps the given bytes, with zeros after them.
abbrev pub keeping : List ℕ → Reader
keeping bytes = record { bytes = written blank bytes; count = length bytes; refused = false }

-- What a stream holds: its questions one after another, byte for byte, and then either unfinished bytes, which are kept, or a length that
-- is refused.
pub data StreamHolds : List ℕ → List Given → Reader → Type 0 where
  unfinished : {stream : List ℕ} → Verdict stream (Ok None) → StreamHolds stream [] (keeping stream)
  refused_length : {stream : List ℕ} → Verdict stream (Err BadLength)
      → StreamHolds stream (map refusal (refusal_of (Err BadLength))) after_refusal
  next_question : {stream : List ℕ} {gs : List Given} {r : Reader} {size : ℕ} → Verdict stream (Ok (Some size))
      → StreamHolds (drop size stream) gs r → StreamHolds stream (question (take size stream) ∷ gs) r

-- The bytes of a question: their number is the size that their length field gives, and that length is in force. The reader leaves all
-- other faults to the solver.
pub record IsQuestion (bytes : List ℕ) : Type 0 where
  pub sized : length bytes ≡ size_of bytes
  pub in_force : is_question_length (value_of LENGTH bytes) ≡ true

-- Every element of a list is the bytes of a question.
abbrev pub AllQuestions : List (List ℕ) → Type 0
AllQuestions qs = (q : List ℕ) → Memᴰ q qs → IsQuestion q

-- A stream that was taken whole: the questions given out, followed by the kept bytes, are the stream. The kept bytes are unfinished, and
-- no byte is left.
pub record TakenWhole (stream : List ℕ) (f : Fed) : Type 0 where
  pub questions : List (List ℕ)
  pub all : AllQuestions questions
  pub given : f.given ≡ map question questions
  pub bytes : concatenation questions ++ kept_of f.reader ≡ stream
  pub not_finished : Verdict (kept_of f.reader) (Ok None)
  pub nothing_left : f.left ≡ []

-- A stream with a refused length: the questions before it were given out, and then the refusal, once. The bytes `dropped`, which begin
-- with that length, were taken and dropped. The reader keeps no bytes, and the bytes after the dropped ones are left.
pub record TakenToRefusal (stream : List ℕ) (f : Fed) : Type 0 where
  pub questions : List (List ℕ)
  pub all : AllQuestions questions
  pub given : f.given ≡ map question questions ++ map refusal (refusal_of (Err BadLength))
  pub dropped : List ℕ
  pub bad_length : Verdict dropped (Err BadLength)
  pub bytes : concatenation questions ++ dropped ++ f.left ≡ stream
  pub reader : f.reader ≡ after_refusal

-- The states that a reader can reach: the initial one, or any after a call in a reached state.
pub data Reached : Reader → Type 0 where
  new : Reached as_new
  called : {r : Reader} → Reached r → (piece : List ℕ) → Reached (read_of r piece).next
