-- The definitions that the contracts of the square root's private functions cite.
-- Definitions only; no public contract cites them.
use Rattle.std.specs.Prelude.{◌≡◌, ℕ, zero, suc, ◌+◌, ◌*◌, ◌/◌, ◌%◌, ◌^◌, ◌<◌, ◌≤◌, true, cond, ◌&&◌, Float, Some}
use Rattle.std.specs.Float.Ieee.{size}
use Rattle.float64.specs.Notation.{◌≺◌, 0F, bits}
use Rattle.float64.specs.Value.{finite_of}
use Rattle.float64.specs.Root.{half_length, root_of}

-- The bit pattern of +∞. The positive finite f64s are those with patterns above 0 and below this one.
abbrev pub infinity_bits : ℕ
infinity_bits = 0x7FF0_0000_0000_0000

-- The number of units of 2 ^ -1074 in the positive f64 with the exponent field x and the
-- digits t. If the field is 0, there is no leading digit.
abbrev pub units_at : ℕ → ℕ → ℕ
units_at zero t = t * 2 ^ 0
units_at (suc x) t = (2 ^ 52 + t) * 2 ^ x

-- The number of units of 2 ^ -1074 in the positive finite f64 with the bit pattern b.
unfoldable pub units_of_bits : ℕ → ℕ
units_of_bits b = units_at (b / 2 ^ 52) (b % 2 ^ 52)

-- n has z binary digits, and s is n * 2 ^ (53 - z), a whole number of 53 binary digits.
pub record Normalised (n s z : ℕ) : Type 0 where
  pub length : size n ≡ z
  pub scale : n * 2 ^ 53 ≡ s * 2 ^ z
  pub low : 2 ^ 52 ≤ s
  pub high : s < 2 ^ 53

-- a * 2 ^ 54 is exactly n * 4 ^ 54 / 4 ^ k, where k is half of n's length in binary digits, rounded up. The bounds of a are those for
-- which the rounded root has 53 binary digits.
pub record Scaled (n a k : ℕ) : Type 0 where
  pub is_half : half_length n ≡ k
  pub exact : n * 4 ^ 54 ≡ a * 2 ^ 54 * 4 ^ k
  pub low : 2 ^ 52 ≤ a
  pub high : a + 2 ≤ 2 ^ 54

-- The result of a choice by comparison: v if t is at most y, and u otherwise.
pub data Chosen (y t u v : ℕ) : ℕ → Type 0 where
  below : y < t → Chosen y t u v u
  above : t ≤ y → Chosen y t u v v

-- ---- the estimated root
-- x is above zero and finite.
abbrev pub Positive : Float → Type 0
Positive x = (0F ≺ x) && finite_of x ≡ true

-- Roots are estimated only for numbers strictly between these two ends, 2 ^ -960 and 2 ^ 960.
abbrev pub low_end : Float
low_end = bits 0x03F0_0000_0000_0000

abbrev pub high_end : Float
high_end = bits 0x7BF0_0000_0000_0000

-- x is strictly between the ends.
abbrev pub Inside : Float → Type 0
Inside x = (low_end ≺ x) && (x ≺ high_end) ≡ true

-- The lesser of x and `high_end`, or `high_end` for a NaN.
unfoldable pub at_most_high_end : Float → Float
at_most_high_end x = cond (x ≺ high_end) x high_end

-- x, or the nearer end if x is not strictly between the ends, or `high_end` for a NaN.
unfoldable pub clamped_of : Float → Float
unfolding at_most_high_end
clamped_of x = cond (low_end ≺ at_most_high_end x) (at_most_high_end x) low_end

-- 0 if x is strictly between the ends, and 1 otherwise.
unfoldable pub outside_of : Float → ℕ
outside_of x = cond ((low_end ≺ x) && (x ≺ high_end)) 0 1

-- r is above zero only if it is the root of x.
abbrev pub RootIfPositive : Float → Float → Type 0
RootIfPositive r x = (0F ≺ r) ≡ true → Some r ≡ root_of x
