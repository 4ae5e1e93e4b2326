-- What the writer of a message returns and writes (02, A10). Definitions only.
use Rattle.std.specs.Prelude.{ℕ, ◌-◌, cond, not, ◌||◌, List, [], ◌∷◌, ◌++◌, map, eqb, Float, length, drop, Result, Ok, Err}
use Rattle.float64.specs.declared.Vector.{Vector}
use Rattle.decimal.specs.Decimals.{is_in_range, decimal_of}
use Rattle.little_endian.specs.Bytes.{has_room, written}
use Rattle.records.specs.Layout.{refusal_kind, answer_size, kind_of, number_of}
use Rattle.records.specs.Records.{entry_of}
use Rattle.outcomes.specs.Outcomes.{is_outcome, is_between}
use Rattle.orbit_message.specs.Messages.{message_of}
use Rattle.orbit_message.specs.Texts.{every, texts_in, are_texts}
use Rattle.orbit_message.specs.declared.refusals.Refusal.{Refusal}
use Rattle.orbit_message.specs.declared.refusals.Refusal.TheVariants.{NotAnAnswer, IllegalTexts, NoSuchEntry}
use Rattle.orbit_message.specs.declared.refusals.Refusal.TheVariants.{OutOfRange, SmallBuffer}

-- The components of a vector.
abbrev pub components : Vector → List Float
components v = v.x ∷ v.y ∷ v.z ∷ []

-- The velocity v1 of an entry, counted from 1, of an answer.
unfoldable pub departure_velocity : List ℕ → ℕ → Vector
departure_velocity answer entry = (entry_of (drop (answer_size (entry - 1)) answer)).v1

-- The result of a call: the length of the message or the refusal, and the contents of the buffer after the call.
pub record WriteResult : Type 0 where
  pub result : Result ℕ Refusal
  pub buffer : List ℕ

-- A refusal. The buffer stays unchanged.
abbrev pub refusal : Refusal → List ℕ → WriteResult
refusal why out = record { result = Err why; buffer = out }

-- The result for a message that is to be written. If the buffer has room for it, the message is at its start, and the bytes after it stay
-- unchanged. B8: the buffer is shorter than the message, and stays unchanged.
unfoldable pub put_of : List ℕ → List ℕ → WriteResult
put_of message out = record {
  result = cond (has_room out message) (Ok (length message)) (Err SmallBuffer);
  buffer = written out message;
}

-- The result of writing the departure state of an entry: the position r1 and the entry's velocity v1. The refusals are tested in this
-- order. B1: the record passed as the answer is malformed or a refusal. B5: not eight legal texts. B6: the answer has no such entry. B7:
-- a number of the state is not finite or has a size of 10 ^ 7 or more. B8: see `put_of`.
unfoldable pub write_of : List ℕ → ℕ → Vector → List ℕ → List ℕ → WriteResult
write_of answer entry r1 texts out =
    let numbers = components r1 ++ components (departure_velocity answer entry) in
    cond (not (is_outcome answer) || eqb (kind_of answer) refusal_kind) (refusal NotAnAnswer out)
    (cond (not (are_texts (texts_in texts))) (refusal IllegalTexts out)
    (cond (not (is_between 1 (number_of answer) entry)) (refusal NoSuchEntry out)
    (cond (not (every is_in_range numbers)) (refusal OutOfRange out)
    (put_of (message_of (texts_in texts) (map decimal_of numbers)) out))))
