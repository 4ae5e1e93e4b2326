-- What `parse` accepts, and how it belongs together with `text_of` (02, A10). Definitions only; proofs/Parsing.antt and
-- proofs/DigitValues.antt have the theorems.
use Rattle.std.specs.Prelude.{◌≡◌, ◌⊎◌, true, List, ℕ, ◌-◌, ◌^◌, ◌≤◌, ◌<◌, Some, None}
use Rattle.decimal.specs.Texts.{digit_count, is_well_formed, text_of, parse_of}
use Rattle.decimal.specs.declared.Decimal.{Decimal}

-- The bytes are the text of the well-formed decimal d.
pub record IsTextOf (s : List ℕ) (d : Decimal) : Type 0 where
  pub well_formed : is_well_formed d ≡ true
  pub text : s ≡ text_of d

-- `parse` returns d exactly if d is well formed and the bytes are its text. It refuses the bytes only if they are the text of no
-- well-formed decimal.
pub record Parses (s : List ℕ) : Type 0 where
  pub accepted : (d : Decimal) → parse_of s ≡ Some d → IsTextOf s d
  pub complete : (d : Decimal) → IsTextOf s d → parse_of s ≡ Some d
  pub refused : parse_of s ≡ None → (d : Decimal) → IsTextOf s d → ⊥

-- For a whole part n below 10 ^ 7: n has at most `digit_count n` digits, and `digit_count n` is 1 or the first of them is not 0.
pub record NoNeedlessZero (n : ℕ) : Type 0 where
  pub enough : n < 10 ^ digit_count n
  pub needed : (digit_count n ≡ 1) ⊎ (10 ^ (digit_count n - 1) ≤ n)
