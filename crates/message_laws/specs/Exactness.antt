-- The bytes that `read` accepts (02, A10). Definitions only; proofs/Exactness.antt has the theorems.
use Rattle.std.specs.Prelude.{◌≡◌, true, List, ℕ, ◌≤◌, length, Ok, Err}
use Rattle.decimal.specs.Texts.{is_well_formed}
use Rattle.decimal.specs.declared.Decimal.{Decimal}
use Rattle.orbit_message.specs.Texts.{every, are_texts}
use Rattle.orbit_message.specs.Messages.{message_of}
use Rattle.orbit_message.specs.Reading.{read_of}
use Rattle.orbit_message.specs.States.{state_numbers}
use Rattle.orbit_message.specs.declared.states.State.{State}
use Rattle.orbit_message.specs.Refusals.{refusal_number}
use Rattle.orbit_message.specs.declared.refusals.Refusal.{Refusal}
use Rattle.orbit_message.specs.declared.refusals.Refusal.TheVariants.{NotAMessage}

-- s is the message of eight legal texts and six well-formed numbers.
pub record IsMessage (s : List ℕ) (ts : List (List ℕ)) (ns : List Decimal) : Type 0 where
  pub legal : are_texts ts ≡ true
  pub six : length ns ≡ 6
  pub well_formed : every is_well_formed ns ≡ true
  pub same : s ≡ message_of ts ns

-- `read` returns six numbers exactly if s is the message of some eight legal texts and of these numbers. It refuses s, always with
-- `NotAMessage`, only if s is no message. The number of this refusal is 10 (B10).
pub record ReadsExactly (s : List ℕ) : Type 0 where
  pub accepted : (n : State) → read_of s ≡ Ok n → (ts : List (List ℕ)) × IsMessage s ts (state_numbers n)
  pub complete : (ts : List (List ℕ)) (ns : List Decimal) → IsMessage s ts ns →
      (n : State) × (read_of s ≡ Ok n) × (state_numbers n ≡ ns)
  pub refused : (r : Refusal) → read_of s ≡ Err r →
      (r ≡ NotAMessage) × ((ts : List (List ℕ)) (ns : List Decimal) → IsMessage s ts ns → ⊥)
  pub number : (r : Refusal) → read_of s ≡ Err r → refusal_number r ≡ 10

-- A message has at least 248 and at most 762 bytes.
pub record LengthBounds (s : List ℕ) : Type 0 where
  pub least : 248 ≤ length s
  pub most : length s ≤ 762
