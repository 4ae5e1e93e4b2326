-- The text of a decimal, as bytes of ASCII, and which bytes are the text of a decimal (02, A10). Definitions only.
use Rattle.std.specs.Prelude.{ℕ, zero, suc, ◌+◌, ◌-◌, ◌*◌, ◌/◌, ◌%◌, ◌^◌, Bool, cond, not, ◌&&◌, ◌||◌, eqb, ltb}
use Rattle.std.specs.Prelude.{List, [], ◌∷◌, ◌++◌, length, get_or, Option, Some, None}
use Rattle.std.specs.Str.{bytes_eq}
use Rattle.decimal.specs.declared.Decimal.{Decimal}

-- ---- the text of a decimal

-- The last k decimal digits of n in ASCII, the highest first. 48 is the digit 0.
unfoldable pub padded : ℕ → ℕ → List ℕ
padded zero n = []
padded (suc k) n = padded k (n / 10) ++ ((48 + n % 10) ∷ [])

-- The least number of digits, from p on, that is enough for n, but at most p + f.
unfoldable pub digit_count_from : ℕ → ℕ → ℕ → ℕ
digit_count_from zero p n = p
digit_count_from (suc f) p n = cond (ltb n (10 ^ p)) p (digit_count_from f (suc p) n)

-- How many digits a whole part is written with: one to seven. Below 10 ^ 7 there is no needless leading zero, and from there on the last
-- seven digits are written.
unfoldable pub digit_count : ℕ → ℕ
unfolding digit_count_from
digit_count n = digit_count_from 6 1 n

-- The minus sign (45) of a negative number, or nothing.
abbrev pub sign_text : Bool → List ℕ
sign_text negative = cond negative (45 ∷ []) []

-- The digits of a whole part.
abbrev pub whole_text : ℕ → List ℕ
whole_text n = padded (digit_count n) n

-- The text of a decimal: a minus sign or nothing, the whole part, a point (46) and nine digits.
unfoldable pub text_of : Decimal → List ℕ
unfolding padded digit_count
text_of d = sign_text d.negative ++ (whole_text d.whole ++ (46 ∷ padded 9 d.billionths))

-- ---- reading a text

-- The number that the k bytes from the offset `at` on show, if they are digits, the highest first. The ASCII code of a digit, modulo 16, is
-- the digit. For other bytes the number has no meaning, and `is_decimal_text` compares the texts.
unfoldable pub value_at : List ℕ → ℕ → ℕ → ℕ
value_at s at zero = 0
value_at s at (suc k) = value_at s at k * 10 + get_or s (at + k) 0 % 16

-- How many bytes the sign takes.
abbrev pub sign_length : Bool → ℕ
sign_length negative = cond negative 1 0

-- The decimal that bytes show, if they are the text of one: a minus sign or nothing, digits, a point and nine digits.
unfoldable pub decimal_in : List ℕ → Decimal
unfolding value_at
decimal_in s =
    let negative = eqb (get_or s 0 0) 45 in
    record {
      negative = negative;
      whole = value_at s (sign_length negative) (length s - 10 - sign_length negative);
      billionths = value_at s (length s - 9) 9;
    }

-- Whether a decimal is well formed: a whole part below 10 ^ 7, billionths below 10 ^ 9, and no minus sign on a zero. `round` and
-- `parse` return only well-formed decimals (the theorems are in the crate decimal_laws).
unfoldable pub is_well_formed : Decimal → Bool
is_well_formed d =
    ltb d.whole (10 ^ 7) && ltb d.billionths (10 ^ 9) && (not d.negative || ltb 0 d.whole || ltb 0 d.billionths)

-- Whether bytes are the text of a well-formed decimal. It is enough to compare them with the text of the decimal that they show, because
-- the text of a well-formed decimal shows that decimal (the theorem is in the crate decimal_laws).
unfoldable pub is_decimal_text : List ℕ → Bool
unfolding decimal_in text_of is_well_formed
is_decimal_text s = is_well_formed (decimal_in s) && bytes_eq s (text_of (decimal_in s))

-- What `parse` returns: the decimal whose text the bytes are, and `None` if they are no text of a decimal.
unfoldable pub parse_of : List ℕ → Option Decimal
unfolding is_decimal_text decimal_in
parse_of s = cond (is_decimal_text s) (Some (decimal_in s)) None
