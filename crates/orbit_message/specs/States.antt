-- What the functions of src/states.rt and src/messages.rt compute. Definitions only; no public contract cites them.
-- The theorems of message_laws use `state_numbers`.
use Rattle.std.specs.Prelude.{ℕ, ◌≤◌, ◌≡◌, cond, List, [], ◌∷◌, ◌++◌, length, get_or, Option, Some, None}
use Rattle.float64.specs.declared.Vector.{Vector}
use Rattle.decimal.specs.declared.Decimal.{Decimal}
use Rattle.decimal.specs.Decimals.{is_in_range, decimal_of}
use Rattle.decimal.specs.Texts.{is_decimal_text}
use Rattle.orbit_message.specs.Templates.{OneLineEach}
use Rattle.orbit_message.specs.Texts.{every}
use Rattle.orbit_message.specs.Reading.{vector_in}
use Rattle.orbit_message.specs.Writing.{components}
use Rattle.orbit_message.specs.declared.states.DecimalVector.{DecimalVector}
use Rattle.orbit_message.specs.declared.states.State.{State}

-- The components of a decimal vector, and the numbers of a state in the order of the keys.
abbrev pub vector_numbers : DecimalVector → List Decimal
vector_numbers v = v.x ∷ (v.y ∷ (v.z ∷ []))

abbrev pub state_numbers : State → List Decimal
state_numbers s = vector_numbers s.position ++ vector_numbers s.velocity

-- The vector that three values show, or `None` if one of them is not the text of a well-formed decimal.
unfoldable pub vector_shown : List (List ℕ) → Option DecimalVector
vector_shown vs = cond (every is_decimal_text vs) (Some (vector_in vs)) None

-- A vector with each component rounded.
unfoldable pub rounded_vector : Vector → DecimalVector
rounded_vector v = record { x = decimal_of v.x; y = decimal_of v.y; z = decimal_of v.z }

-- A vector with each component rounded, or `None` if a component is out of range.
unfoldable pub vector_of : Vector → Option DecimalVector
vector_of v = cond (every is_in_range (components v)) (Some (rounded_vector v)) None

-- A position and a velocity with each number rounded, or `None` if a number is out of range.
unfoldable pub state_of : Vector → Vector → Option State
state_of r v =
    cond (every is_in_range (components r ++ components v))
    (Some (record { position = rounded_vector r; velocity = rounded_vector v }))
    None

-- Values one after another, each with an LF after it.
unfoldable pub lines_of : List (List ℕ) → List ℕ
lines_of [] = []
lines_of (v ∷ vs) = v ++ (10 ∷ lines_of vs)

-- s is the fourteen values vs, each of at most 60 bytes and with an LF after it.
pub record Lined (s : List ℕ) (vs : List (List ℕ)) : Type 0 where
  pub many : length vs ≡ 14
  pub one_line : OneLineEach vs
  pub short : (k : ℕ) → length (get_or vs k []) ≤ 60
  pub same : s ≡ lines_of vs
