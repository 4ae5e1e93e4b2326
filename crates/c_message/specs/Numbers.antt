-- The results of the C interface as numbers. Definitions only.
use Rattle.std.specs.Prelude.{ℕ, Bool, cond, List, [], ◌∷◌, ◌++◌}
use Rattle.std.specs.Prelude.{Ok, Err}
use Rattle.std.specs.Prelude as std
use Rattle.float64.specs.Notation.{bits}
use Rattle.float64.specs.declared.Vector.{Vector}
use Rattle.little_endian.specs.Bytes.{bytes_of, has_room, written}
use Rattle.decimal.specs.declared.Decimal.{Decimal}
use Rattle.orbit_message.specs.Reading.{read_of}
use Rattle.orbit_message.specs.declared.states.State.{State}
use Rattle.orbit_message.specs.Refusals.{refusal_number}
use Rattle.orbit_message.specs.declared.refusals.Refusal.{Refusal}

-- The result of writing a message as one number: the length of the message, or the number of the refusal.
abbrev pub write_number : std.Result ℕ Refusal → ℕ
write_number (Ok length) = length
write_number (Err refusal) = refusal_number refusal

-- The vector whose components have the given bits.
abbrev pub vector_of_bits : ℕ → ℕ → ℕ → Vector
vector_of_bits x y z = record { x = bits x; y = bits y; z = bits z }

-- 1 for a minus sign, and 0 for none.
abbrev pub sign_number : Bool → ℕ
sign_number negative = cond negative 1 0

-- The sign, the whole part and the billionths of a decimal.
abbrev pub decimal_words : Decimal → List ℕ
decimal_words d = sign_number d.negative ∷ (d.whole ∷ (d.billionths ∷ []))

-- The eighteen numbers of a state, in the order X, Y, Z, X_DOT, Y_DOT, Z_DOT.
unfoldable pub state_words : State → List ℕ
state_words s =
    let r = s.position in
    let v = s.velocity in
    decimal_words r.x ++ (decimal_words r.y ++ (decimal_words r.z
    ++ (decimal_words v.x ++ (decimal_words v.y ++ decimal_words v.z))))

-- Numbers one after another, each in eight bytes, lowest byte first.
unfoldable pub words_of : List ℕ → List ℕ
words_of [] = []
words_of (n ∷ ns) = bytes_of 8 n ++ words_of ns

-- The result of a call: the number that it returns, and the contents of the buffer after it.
pub record Result : Type 0 where
  pub result : ℕ
  pub buffer : List ℕ

-- The result for a state that is to be stored. If the buffer has room for its numbers, they are at its start, and the result is 0.
-- Otherwise the buffer stays unchanged, and the result is 8.
unfoldable pub stored_of : State → List ℕ → Result
stored_of s out =
    let bytes = words_of (state_words s) in
    record { result = cond (has_room out bytes) 0 8; buffer = written out bytes }

-- The result for what `read` returned.
abbrev pub result_of : std.Result State Refusal → List ℕ → Result
result_of (Ok s) out = stored_of s out
result_of (Err refusal) out = record { result = refusal_number refusal; buffer = out }

-- The result of reading any bytes as a message into any buffer.
unfoldable pub read_into : List ℕ → List ℕ → Result
read_into s out = result_of (read_of s) out
