-- How the size of a refusal and its number go together (02, A4). Definitions only.
use Rattle.std.specs.Prelude.{◌≡◌, List, ℕ, length}
use Rattle.records.specs.Layout.{LENGTH, head_size, void_refusal_size, void_number, length_for, value_of, number_of}

-- The longer form of a refusal, with a station and a reason, goes with number 12 and with no other number, and the shorter form with every
-- other number and not with 12.
pub record RefusalSizes (s : List ℕ) : Type 0 where
  -- A refusal with number 12 has the size and the length field of the longer form.
  pub void : number_of s ≡ void_number → (length s ≡ void_refusal_size) × (value_of LENGTH s ≡ length_for void_refusal_size)
  -- A refusal with another number has the size and the length field of the shorter form, which is the head alone.
  pub other : (number_of s ≡ void_number → ⊥) → (length s ≡ head_size) × (value_of LENGTH s ≡ length_for head_size)
  -- A refusal with the length field of the longer form has number 12.
  pub longer : value_of LENGTH s ≡ length_for void_refusal_size → number_of s ≡ void_number
  -- A refusal with the length field of the shorter form has another number.
  pub shorter : value_of LENGTH s ≡ length_for head_size → number_of s ≡ void_number → ⊥
