-- What it means that a decimal is the nearest one to an f64, over whole numbers only (02, A10). Definitions only; proofs/Rounding.antt
-- shows that `round_of` satisfies them.
use Rattle.std.specs.Prelude.{◌≡◌, ◌⊎◌, true, not, ◌||◌, ℕ, ◌+◌, ◌-◌, ◌*◌, ◌%◌, ◌^◌, ◌≤◌, ◌<◌, leb, Float, Option, Some, is_none}
use Rattle.float64.specs.Value.{finite_of}
use Rattle.float64.specs.Root.{units_of}
use Rattle.float64.specs.Nearness.{negative}
use Rattle.decimal.specs.Texts.{is_well_formed}
use Rattle.decimal.specs.declared.Decimal.{Decimal}

-- The distance between two numbers.
abbrev pub distance : ℕ → ℕ → ℕ
distance a b = (a - b) + (b - a)

-- For d above zero: c is the whole number nearest to n / d. For every other whole number k, c * d is nearer to n than k * d is, or both are
-- equally near and c is even.
pub record NearestCount (n d c : ℕ) : Type 0 where
  pub nearest : (k : ℕ) → (k ≡ c → ⊥)
      → (distance n (c * d) < distance n (k * d)) ⊎ ((distance n (c * d) ≡ distance n (k * d)) × (c % 2 ≡ 0))

-- The size of a decimal in billionths.
abbrev pub count_in : Decimal → ℕ
count_in d = d.whole * 10 ^ 9 + d.billionths

-- For a finite x with a size below 10 ^ 7: d is the decimal nearest to x. It is well formed, and no other count of billionths is nearer. Of
-- two counts that are equally near, it has the even one. Unless d is zero, it has the sign of x. The size of x is
-- units_of x * 10 ^ 9 / 2 ^ 1074 billionths.
pub record NearestDecimal (x : Float) (d : Decimal) : Type 0 where
  pub well_formed : is_well_formed d ≡ true
  pub count_nearest : NearestCount (units_of x * 10 ^ 9) (2 ^ 1074) (count_in d)
  pub sign_kept : 0 < count_in d → d.negative ≡ negative x
  -- The greatest f64 below 10 ^ 7 is 10 ^ 7 - 2 ^ -29. It rounds to 9999999.999999998, so a whole part of 10 ^ 7 never occurs.
  pub count_limit : count_in d ≤ 9999999999999998

-- r is x rounded to nine decimals, or `None` if x is refused. x is refused exactly if it is not finite or its size is 10 ^ 7 or more.
-- Otherwise r is the nearest decimal.
pub record IsRounded (x : Float) (r : Option Decimal) : Type 0 where
  pub refused_if : is_none r ≡ (not (finite_of x) || leb (10 ^ 7 * 2 ^ 1074) (units_of x))
  pub number_is : (d : Decimal) → r ≡ Some d → NearestDecimal x d
