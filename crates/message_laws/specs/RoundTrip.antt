-- What `read` returns for a message that `write` has written (02, A10). Definitions only; proofs/RoundTrip.antt has the theorem.
use Rattle.std.specs.Prelude.{◌≡◌, List, ◌++◌, map, ℕ, take, Ok}
use Rattle.float64.specs.declared.Vector.{Vector}
use Rattle.decimal.specs.Decimals.{decimal_of}
use Rattle.orbit_message.specs.Reading.{read_of}
use Rattle.orbit_message.specs.Writing.{components, departure_velocity, write_of}
use Rattle.orbit_message.specs.States.{state_numbers}
use Rattle.orbit_message.specs.declared.states.State.{State}

-- If `write` writes a message of n bytes, `read` returns for the first n bytes of the buffer the six numbers that were written: those of
-- r1 and of the entry's v1, rounded.
pub record ReadsBack (answer : List ℕ) (entry : ℕ) (r1 : Vector) (texts out : List ℕ) : Type 0 where
  pub back : (n : ℕ) → (write_of answer entry r1 texts out).result ≡ Ok n →
      (s : State)
      × (read_of (take n (write_of answer entry r1 texts out).buffer) ≡ Ok s)
      × (state_numbers s ≡ map decimal_of (components r1 ++ components (departure_velocity answer entry)))
