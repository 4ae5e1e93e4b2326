-- For every finite number that is not negative there is a whole number g such that the number is between g / 2 ^ 46 and
-- (g + 1) / 2 ^ 46 (`fixed_point`). This g is the whole quotient of its numerator times 2 ^ 46 by its denominator. The
-- fraction K / 2 ^ 46 is an f64 for every K of at most 53 binary digits (`dyadic`). So bounds that are whole multiples
-- of 2 ^ -46 lose at most one step of 2 ^ -46 in an operation whose result is below 2 ^ 7.
use Prim.Native.Nat.{ℕ, ◌+◌, ◌*◌, ◌/◌, ◌^◌, ◌≤◌, ◌<◌}
use native.Mathlib.Nat.{le_of_lt, mul-le-mul_right, le_of_mul-le-mul_right, div-mul-le_self, div-lt_iff_lt-mul}
use native.Mathlib.Omega.{arith}
use lib.Dec.{lit<}
use lib.Ieee.{Float}
use lib.Ieee.Positive.{num, den, den_pos}
use Rattle.bound_laws.specs.Bounds.{AtMost, AtLeast}

-- x is between g / 2 ^ 46 and (g + 1) / 2 ^ 46.
pub record FixedPoint (x : Float) (g : ℕ) : Type 0 where
  pub least : AtLeast x g (2 ^ 46)
  pub most : AtMost x (g + 1) (2 ^ 46)

pub fixed_point : {x : Float} {p q l m : ℕ} → AtMost x p q → AtLeast x l m → (g : ℕ) × FixedPoint x g × (g * q ≤ p * 2 ^ 46)
fixed_point {x} {p} {q} a b =
    let g = num x * 2 ^ 46 / den x in
    let low : g * den x ≤ num x * 2 ^ 46 = div-mul-le_self (num x * 2 ^ 46) (den x) in
    let high : num x * 2 ^ 46 < (g + 1) * den x = (div-lt_iff_lt-mul (den_pos x)).0 (next g) in (
      g,
      record {
        least = record { divisor = lit< tt; is_finite = b.is_finite; not_negative = b.not_negative; at_least = low };
        most = record { divisor = lit< tt; is_f64 = a.is_f64; is_finite = a.is_finite; at_most = le_of_lt high };
      },
      le_of_mul-le-mul_right {k = den x} (under (num x) (den x) g low a.at_most) (den_pos x),
    )
  where
    next : (g : ℕ) → g < g + 1
    next g = omega arith

    under : (n d g : ℕ) → g * d ≤ n * 2 ^ 46 → n * q ≤ p * d → g * q * d ≤ p * 2 ^ 46 * d
    under n d g h k =
        let e : g * d * q ≤ n * 2 ^ 46 * q = mul-le-mul_right q h in
        let f : n * q * 2 ^ 46 ≤ p * d * 2 ^ 46 = mul-le-mul_right (2 ^ 46) k in
        omega arith
