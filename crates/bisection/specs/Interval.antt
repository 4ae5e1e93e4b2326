-- The precondition of `bisect`: an interval from a to b after h halvings.
use Rattle.std.specs.Prelude.{◌≡◌, ℕ, ◌+◌, ◌-◌, ◌^◌, ◌≤◌, ℤ, pos, ◌+ℤ◌}
use Rattle.std.specs.Int.Signed.{mag}
use Rattle.stations.specs.Stations.{farthest}

-- After h halvings, at most 20, the interval from a to b is 2^(20−h) wide. Its ends are so small that an i64 holds their sum.
pub record Interval (a b : ℤ) (h : ℕ) : Type 0 where
  pub upper_is : b ≡ a +ℤ pos (2 ^ (20 - h))
  pub most : h ≤ 20
  pub room : mag a + 2 ^ (20 - h) ≤ farthest
