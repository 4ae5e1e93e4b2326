-- Halving of an interval (01, Stations, sides, crossings). The side of each place is a parameter σ. Definitions only.
use Rattle.std.specs.Prelude.{ℕ, zero, suc, ◌+◌, Bool, false, cond, ◌||◌, eqb, ℤ, pos, negsuc, ◌+ℤ◌, ◌-ℤ◌}
use Rattle.std.specs.Int.Signed.{quot_z}
use Rattle.bisection.specs.declared.Bracket.{Bracket}
use Rattle.stations.specs.declared.side.Side.{Side}
use Rattle.stations.specs.Sides.{opposite, is_unknown}

-- Whether two places are the same.
abbrev pub same : ℤ → ℤ → Bool
same (pos a) (pos b) = eqb a b
same (negsuc a) (negsuc b) = eqb a b
same (pos a) (negsuc b) = false
same (negsuc a) (pos b) = false

-- The middle (a + b)/2. The quotient of an odd sum is rounded toward zero, but in the bisection of a pair of a rising grid (`IsRising`) no
-- interval wider than 1 has an odd sum.
abbrev pub middle_of : ℤ → ℤ → ℤ
middle_of a b = quot_z (a +ℤ b) (pos 2)

-- Whether halving stops at the interval from a to b: at width 1, at a void middle, or if the middle equals an end.
abbrev pub stops : (ℤ → Side) → ℤ → ℤ → Bool
stops σ a b = same (b -ℤ a) (pos 1) || (is_unknown (σ (middle_of a b)) || (same (middle_of a b) a || same (middle_of a b) b))

-- The bracket that results from bisecting the interval from a to b, which is itself the result of h halvings. The middle replaces the
-- upper end if the middle and the lower end are on opposite sides, and it replaces the lower end otherwise. If the two ends are on
-- opposite sides, the replaced end is the one on the middle's own side. The first number limits how many more halvings follow. For a pair
-- of a rising grid this limit has no effect, because `stops` is true by then.
unfoldable pub bisect_of : (ℤ → Side) → ℕ → ℕ → ℤ → ℤ → Bracket
bisect_of σ zero h a b = record { lower = a; upper = b; halvings = h }
bisect_of σ (suc n) h a b =
    cond (stops σ a b) (record { lower = a; upper = b; halvings = h })
    (cond (opposite (σ a) (σ (middle_of a b))) (bisect_of σ n (h + 1) a (middle_of a b)) (bisect_of σ n (h + 1) (middle_of a b) b))

-- The sides σ, except that the side of place a is `low`.
unfoldable pub with_side : (ℤ → Side) → ℤ → Side → ℤ → Side
with_side σ a low k = cond (same k a) low (σ k)
