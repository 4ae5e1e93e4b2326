-- When `write` refuses (02, A10). Definitions only; proofs/Refusals.antt has the theorem.
use Rattle.std.specs.Prelude.{◌≡◌, Bool, cond, not, ◌||◌, List, [], ◌∷◌, ◌++◌, map, ℕ, eqb, Float, length, drop}
use Rattle.std.specs.Prelude.{Option, Some, None, Ok, Err}
use Rattle.float64.specs.declared.Vector.{Vector}
use Rattle.decimal.specs.Decimals.{is_in_range, decimal_of}
use Rattle.little_endian.specs.Bytes.{has_room}
use Rattle.records.specs.Layout.{refusal_kind, kind_of, number_of}
use Rattle.outcomes.specs.Outcomes.{is_between, is_outcome}
use Rattle.orbit_message.specs.Texts.{every, texts_in, are_texts}
use Rattle.orbit_message.specs.Messages.{message_of}
use Rattle.orbit_message.specs.Writing.{components, departure_velocity, WriteResult, refusal, write_of}
use Rattle.orbit_message.specs.Refusals.{refusal_number}
use Rattle.orbit_message.specs.declared.refusals.Refusal.{Refusal}
use Rattle.orbit_message.specs.declared.refusals.Refusal.TheVariants.{NotAnAnswer, IllegalTexts, NoSuchEntry}
use Rattle.orbit_message.specs.declared.refusals.Refusal.TheVariants.{OutOfRange, SmallBuffer}

-- A refusal, and whether its condition holds.
pub record Condition : Type 0 where
  pub why : Refusal
  pub holds : Bool

-- The condition of the refusal r.
abbrev pub condition : Refusal → Bool → Condition
condition r b = record { why = r; holds = b }

-- The refusal whose condition is the first that holds, or `None` if none does.
unfoldable pub first_that_holds : List Condition → Option Refusal
first_that_holds [] = None
first_that_holds (c ∷ cs) = cond c.holds (Some c.why) (first_that_holds cs)

module _ (answer : List ℕ) (entry : ℕ) (r1 : Vector) (texts out : List ℕ) where
  -- The six numbers that are to be written, and their message.
  abbrev pub numbers : List Float
  numbers = components r1 ++ components (departure_velocity answer entry)

  abbrev pub message : List ℕ
  message = message_of (texts_in texts) (map decimal_of numbers)

  -- The refusals in their order, each with its condition.
  unfoldable pub conditions : List Condition
  conditions =
      condition NotAnAnswer (not (is_outcome answer) || eqb (kind_of answer) refusal_kind)
      ∷ condition IllegalTexts (not (are_texts (texts_in texts)))
      ∷ condition NoSuchEntry (not (is_between 1 (number_of answer) entry))
      ∷ condition OutOfRange (not (every is_in_range numbers))
      ∷ condition SmallBuffer (not (has_room out message))
      ∷ []

  -- The result if the first condition that holds is that of a refusal, or if none holds.
  abbrev pub result_of_first : Option Refusal → WriteResult
  result_of_first None = record { result = Ok (length message); buffer = message ++ drop (length message) out }
  result_of_first (Some r) = refusal r out

  -- The numbers of the refusals in their order. `write` returns a refusal exactly if its condition is the first that holds, and then the
  -- buffer is unchanged. If no condition holds, and only then, it writes the message.
  pub record RefusesExactly : Type 0 where
    pub numbers_are : map (λ (c : Condition). refusal_number c.why) conditions ≡ 1 ∷ 5 ∷ 6 ∷ 7 ∷ 8 ∷ []
    pub result_is : write_of answer entry r1 texts out ≡ result_of_first (first_that_holds conditions)
    pub refused : (r : Refusal) → (write_of answer entry r1 texts out).result ≡ Err r → first_that_holds conditions ≡ Some r
    pub written : (n : ℕ) → (write_of answer entry r1 texts out).result ≡ Ok n → first_that_holds conditions ≡ None
