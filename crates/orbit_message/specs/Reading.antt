-- What the reader of a message returns (02, A10). Definitions only.
use Rattle.std.specs.Prelude.{ℕ, Bool, cond, ◌&&◌, List, [], get_or, take, drop, Result, Ok, Err}
use Rattle.decimal.specs.Texts.{decimal_in, is_decimal_text}
use Rattle.orbit_message.specs.Messages.{template}
use Rattle.std.specs.Prelude.{Some, None}
use Rattle.orbit_message.specs.Templates.{Values, values_in}
use Rattle.orbit_message.specs.Texts.{every, is_legal, text_count}
use Rattle.orbit_message.specs.declared.states.DecimalVector.{DecimalVector}
use Rattle.orbit_message.specs.declared.states.State.{State}
use Rattle.orbit_message.specs.declared.refusals.Refusal.{Refusal}
use Rattle.orbit_message.specs.declared.refusals.Refusal.TheVariants.{NotAMessage}

-- The vector whose components are shown by the first three values.
unfoldable pub vector_in : List (List ℕ) → DecimalVector
vector_in vs = record { x = decimal_in (get_or vs 0 []); y = decimal_in (get_or vs 1 []); z = decimal_in (get_or vs 2 []) }

-- The state shown by six values: X, Y, Z, X_DOT, Y_DOT, Z_DOT.
unfoldable pub state_in : List (List ℕ) → State
state_in vs = record { position = vector_in vs; velocity = vector_in (drop 3 vs) }

-- For the fourteen values of a message: whether the first eight are legal texts and the others are texts of well-formed decimals.
unfoldable pub are_values : List (List ℕ) → Bool
are_values vs = every is_legal (take text_count vs) && every is_decimal_text (drop text_count vs)

-- The result for the values that were found. B10: the bytes are not a message.
unfoldable pub result_for : Values → Result State Refusal
result_for None = Err NotAMessage
result_for (Some vs) = cond (are_values vs) (Ok (state_in (drop text_count vs))) (Err NotAMessage)

-- What `read` returns for any bytes.
unfoldable pub read_of : List ℕ → Result State Refusal
read_of s = result_for (values_in template s)
