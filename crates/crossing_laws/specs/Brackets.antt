-- What holds for the bracket of a crossing, stated without the recursion that finds it: which intervals the bisection of a pair reaches
-- (`Comes`), and what is true of the one where it stops (`IsBracket`). A pair begins with `initial` halvings and is 2^(20−initial) wide.
use Rattle.std.specs.Prelude.{◌≡◌, true, false, ◌⊎◌, ℕ, ◌+◌, ◌-◌, ◌^◌, ◌≤◌, ℤ, pos, ◌+ℤ◌}
use Rattle.bisection.specs.declared.Bracket.{Bracket}
use Rattle.stations.specs.declared.side.Side.{Side}
use Rattle.stations.specs.Sides.{opposite, is_unknown}
use Rattle.bisection.specs.Halving.{middle_of, stops}

-- The bisection of the interval from a to b reaches the interval from x to y after h halvings. In a crossing's interval the two ends are
-- on different sides, so a middle with a time is on the side of exactly one of them.
pub data Comes (σ : ℤ → Side) (a b : ℤ) (initial : ℕ) : ℤ → ℤ → ℕ → Type 0 where
  start : Comes σ a b initial a b initial
  -- The middle and the lower end are on opposite sides: the middle replaces the upper end.
  keeps_lower : {x y : ℤ} {h : ℕ} → Comes σ a b initial x y h → stops σ x y ≡ false → opposite (σ x) (σ (middle_of x y)) ≡ true →
      Comes σ a b initial x (middle_of x y) (h + 1)
  -- The middle and the lower end are not on opposite sides: the middle replaces the lower end.
  keeps_upper : {x y : ℤ} {h : ℕ} → Comes σ a b initial x y h → stops σ x y ≡ false → opposite (σ x) (σ (middle_of x y)) ≡ false →
      Comes σ a b initial (middle_of x y) y (h + 1)

-- r is the bracket of the crossing from a to b.
pub record IsBracket (σ : ℤ → Side) (a b : ℤ) (initial : ℕ) (r : Bracket) : Type 0 where
  -- It is within the pair: its lower end is `from_lower` above a, and b is `to_upper` above its upper end.
  pub from_lower : ℕ
  pub lower_is : r.lower ≡ a +ℤ pos from_lower
  pub to_upper : ℕ
  pub upper_is : b ≡ r.upper +ℤ pos to_upper
  -- Its width is 2^(20−h), where h, the number of its halvings, is at least `initial` and at most 20.
  pub width : r.upper ≡ r.lower +ℤ pos (2 ^ (20 - r.halvings))
  pub least : initial ≤ r.halvings
  pub most : r.halvings ≤ 20
  -- Both ends have times, on opposite sides.
  pub lower_timed : is_unknown (σ r.lower) ≡ false
  pub upper_timed : is_unknown (σ r.upper) ≡ false
  pub ends : opposite (σ r.lower) (σ r.upper) ≡ true
  -- Its width is 1, or its middle is void.
  pub stopped : (r.upper ≡ r.lower +ℤ pos 1) ⊎ (is_unknown (σ (middle_of r.lower r.upper)) ≡ true)
  -- Bisection reaches this interval and stops there.
  pub reached : Comes σ a b initial r.lower r.upper r.halvings
  pub ended : stops σ r.lower r.upper ≡ true
