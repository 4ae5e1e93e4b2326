-- Two kinds of fractions are f64s: 2 ^ a for a of at most 1023 (`power_of_two`), and K / 2 ^ b for K of at most 53
-- binary digits and b of at most 1074 (`dyadic`). In units of 2 ^ -1074, both are a whole number of at most 53 binary
-- digits times a power of two, and both are below 2 ^ 1024. By `round_exact` of the library, rounding does not change
-- them.
use mathlib.Core.Path.{◌≡◌, sym, ap, ◌∙◌}
use mathlib.Core.Bool.{false}
use Prim.Native.Nat.{ℕ, ◌+◌, ◌-◌, ◌*◌, ◌^◌, ◌≤◌, ◌<◌}
use native.Mathlib.Nat.{le_trans, le_of_eq, le_of_lt, lt_of_le_of_lt, lt_of_lt_of_le, mul-one, mul_assoc, one-mul, mul-lt-mul_of_pos_right}
use native.Mathlib.Omega.{arith}
use lib.Dec.{lit<}
use lib.Pow.{pow-add, pow_pos, pow-lt}
use lib.Ieee.{binary64}
use lib.Ieee.Exact.{round_exact}
use Rattle.bound_laws.specs.Bounds.{Representable}

pub power_of_two : (a : ℕ) → a ≤ 1023 → Representable (2 ^ a) 1
power_of_two a h = record {
  divisor = lit< tt;
  exact = round_exact binary64 false (2 ^ a) 1 1 (a + 1074) (lit< tt) (lit< tt) below units;
}
  where
    small : a + 1074 < 2098
    small = omega arith

    below : 1 * 2 ^ (a + 1074) < 2 ^ 2098
    below = lt_of_le_of_lt (le_of_eq (one-mul (2 ^ (a + 1074)))) (pow-lt small)

    units : 2 ^ a * 2 ^ 1074 ≡ 1 * 2 ^ (a + 1074) * 1
    units = sym (pow-add 2 a 1074) ∙ sym (one-mul (2 ^ (a + 1074))) ∙ sym (mul-one (1 * 2 ^ (a + 1074)))

pub dyadic : (K b : ℕ) → K < 2 ^ 53 → b ≤ 1074 → Representable K (2 ^ b)
dyadic K b k h = record {
  divisor = pow_pos b;
  exact = round_exact binary64 false K (2 ^ b) K (1074 - b) (pow_pos b) k below units;
}
  where
    small : 53 + (1074 - b) < 2098
    small = omega arith

    below : K * 2 ^ (1074 - b) < 2 ^ 2098
    below =
        let digits = mul-lt-mul_of_pos_right k (pow_pos (1074 - b)) in
        lt_of_lt_of_le digits (le_trans (le_of_eq (sym (pow-add 2 53 (1074 - b)))) (le_of_lt (pow-lt small)))

    whole : 1074 - b + b ≡ 1074
    whole = omega arith

    units : K * 2 ^ 1074 ≡ K * 2 ^ (1074 - b) * 2 ^ b
    units =
        ap (λ (z : ℕ). K * 2 ^ z) (sym whole)
        ∙ ap (λ (z : ℕ). K * z) (pow-add 2 (1074 - b) b)
        ∙ sym (mul_assoc K (2 ^ (1074 - b)) (2 ^ b))
