-- Closed cases of `round_of`, `text_of` and `parse_of`, computed by the prover: ties, the greatest f64 below 10 ^ 7, -10 ^ 7, minus zero,
-- -2 ^ -1074, two ordinary numbers, infinity and a NaN; the texts of two ties; one text that is read, and four that are refused.
use mathlib.Core.Path.{◌≡◌, refl}
use mathlib.Core.Bool.{Bool, true, false}
use mathlib.Core.List.{[], ◌∷◌}
use Prim.Native.Nat.{ℕ}
use lib.Ieee.{of_bits}
use Rattle.float64.specs.Value.{finite_of}
use Rattle.float64.specs.Notation.{bits}
use Rattle.decimal.specs.Decimals.{decimal_of, round_of}
use Rattle.decimal.specs.Texts.{text_of, parse_of}
use Rattle.std.specs.Prelude.{Option, Some, None}
use Rattle.decimal.specs.declared.Decimal.{Decimal}

abbrev number : Bool → ℕ → ℕ → Option Decimal
number s w b = Some (record { negative = s; whole = w; billionths = b })

-- 1/1024 is 0.0009765625, and 3/1024 is 0.0029296875. The first tie is rounded down and the second one up.
pub tie_down : round_of (bits 0x3F50_0000_0000_0000) ≡ number false 0 976562
unfolding round_of of_bits finite_of
tie_down = refl

pub tie_up : round_of (bits 0x3F68_0000_0000_0000) ≡ number false 0 2929688
unfolding round_of of_bits finite_of
tie_up = refl

-- -3/1024
pub negative_tie : round_of (bits 0xBF68_0000_0000_0000) ≡ number true 0 2929688
unfolding round_of of_bits finite_of
negative_tie = refl

pub greatest : round_of (bits 0x4163_12CF_FFFF_FFFF) ≡ number false 9999999 999999998
unfolding round_of of_bits finite_of
greatest = refl

-- -10 ^ 7
pub limit : round_of (bits 0xC163_12D0_0000_0000) ≡ None
unfolding round_of of_bits finite_of
limit = refl

pub minus_zero : round_of (bits 0x8000_0000_0000_0000) ≡ number false 0 0
unfolding round_of of_bits finite_of
minus_zero = refl

-- -2 ^ -1074
pub least : round_of (bits 0x8000_0000_0000_0001) ≡ number false 0 0
unfolding round_of of_bits finite_of
least = refl

-- -1/3
pub third : round_of (bits 0xBFD5_5555_5555_5555) ≡ number true 0 333333333
unfolding round_of of_bits finite_of
third = refl

-- 299792.458
pub light : round_of (bits 0x4112_4C41_D4FD_F3B6) ≡ number false 299792 458000000
unfolding round_of of_bits finite_of
light = refl

pub infinite : round_of (bits 0x7FF0_0000_0000_0000) ≡ None
unfolding round_of of_bits finite_of
infinite = refl

pub not_a_number : round_of (bits 0x7FF8_0000_0000_0000) ≡ None
unfolding round_of of_bits finite_of
not_a_number = refl

-- ---- texts

-- 0.000976562
pub text_of_tie : text_of (decimal_of (bits 0x3F50_0000_0000_0000)) ≡ 48 ∷ 46 ∷ 48 ∷ 48 ∷ 48 ∷ 57 ∷ 55 ∷ 54 ∷ 53 ∷ 54 ∷ 50 ∷ []
unfolding decimal_of of_bits text_of
text_of_tie = refl

-- -0.002929688
pub text_of_minus : text_of (decimal_of (bits 0xBF68_0000_0000_0000))
    ≡ 45 ∷ 48 ∷ 46 ∷ 48 ∷ 48 ∷ 50 ∷ 57 ∷ 50 ∷ 57 ∷ 54 ∷ 56 ∷ 56 ∷ []
unfolding decimal_of of_bits text_of
text_of_minus = refl

-- 12.000000345
pub parsed : parse_of (49 ∷ 50 ∷ 46 ∷ 48 ∷ 48 ∷ 48 ∷ 48 ∷ 48 ∷ 48 ∷ 51 ∷ 52 ∷ 53 ∷ []) ≡ number false 12 345
unfolding parse_of
parsed = refl

-- -0.000000000
pub minus_zero_refused : parse_of (45 ∷ 48 ∷ 46 ∷ 48 ∷ 48 ∷ 48 ∷ 48 ∷ 48 ∷ 48 ∷ 48 ∷ 48 ∷ 48 ∷ []) ≡ None
unfolding parse_of
minus_zero_refused = refl

-- 00.500000000
pub needless_zero_refused : parse_of (48 ∷ 48 ∷ 46 ∷ 53 ∷ 48 ∷ 48 ∷ 48 ∷ 48 ∷ 48 ∷ 48 ∷ 48 ∷ 48 ∷ []) ≡ None
unfolding parse_of
needless_zero_refused = refl

-- 10000000.000000000
pub eight_digits_refused : parse_of (49 ∷ 48 ∷ 48 ∷ 48 ∷ 48 ∷ 48 ∷ 48 ∷ 48 ∷ 46 ∷ 48 ∷ 48 ∷ 48 ∷ 48 ∷ 48 ∷ 48 ∷ 48 ∷ 48 ∷ 48 ∷ []) ≡ None
unfolding parse_of
eight_digits_refused = refl

-- Eight decimals only: 1.00000000
pub eight_decimals_refused : parse_of (49 ∷ 46 ∷ 48 ∷ 48 ∷ 48 ∷ 48 ∷ 48 ∷ 48 ∷ 48 ∷ 48 ∷ []) ≡ None
unfolding parse_of
eight_decimals_refused = refl
