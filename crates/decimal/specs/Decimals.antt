-- An f64 as a decimal number with nine decimals: its sign, its whole part and its billionths (02, A10). Definitions only.
-- A finite f64 is n units of 2 ^ -1074, so its size is n * 10 ^ 9 / 2 ^ 1074 billionths.
use Rattle.std.specs.Prelude.{ℕ, ◌*◌, ◌/◌, ◌%◌, ◌^◌, Bool, ◌&&◌, cond, ltb, Float, Option, Some, None}
use Rattle.std.specs.Float.Ieee.Nearest.{closest}
use Rattle.float64.specs.Root.{units_of}
use Rattle.float64.specs.Value.{finite_of}
use Rattle.float64.specs.Nearness.{negative}
use Rattle.decimal.specs.declared.Decimal.{Decimal}

-- Whether an f64 has a decimal: it is finite and its size is below 10 ^ 7.
unfoldable pub is_in_range : Float → Bool
is_in_range x = finite_of x && ltb (units_of x) (10 ^ 7 * 2 ^ 1074)

-- The size of an f64 in billionths, rounded to the nearest whole number. Of two that are equally near, it is the even one.
unfoldable pub count_of : Float → ℕ
unfolding units_of
count_of x = closest (units_of x * 10 ^ 9) (2 ^ 1074)

-- The decimal of an f64 in range. A number that rounds to zero has no minus sign.
unfoldable pub decimal_of : Float → Decimal
unfolding count_of
decimal_of x = record {
  negative = negative x && ltb 0 (count_of x);
  whole = count_of x / 10 ^ 9;
  billionths = count_of x % 10 ^ 9;
}

-- What `round` returns: the decimal of an f64 in range, and `None` for any other.
unfoldable pub round_of : Float → Option Decimal
unfolding is_in_range decimal_of
round_of x = cond (is_in_range x) (Some (decimal_of x)) None
