-- How many brackets a sweep reports, for any sides of the places and any grid: as many as there are crossings, but at most eight
-- (`counted`). If there are at most eight crossings, the used elements of the list are all of their brackets (`all_listed`).
use mathlib.Core.Path.{◌≡◌, ap}
use Prim.Native.Nat.{ℕ, ◌-◌, ◌≤◌, min}
use native.Mathlib.Omega.{arith}
use lib.ListN.{length, take, replicate, length-map}
use lib.Seq.{take_all, take-append_seam}
use lib.IntN.{ℤ}
use Rattle.stations.specs.declared.side.Side.{Side}
use Rattle.stations.specs.Grid.{Grid}
use Rattle.bisection.specs.Pairs.{bracket_of}
use Rattle.sweep.specs.Crossings.{crossings, brackets, blank, reported, sweep_of}

module _ (σ : ℤ → Side) (g : Grid) (last : ℕ) where
  -- There are as many brackets as crossings.
  pub length_is : length (brackets σ g last) ≡ length (crossings σ g last)
  unfolding brackets
  length_is = length-map (crossings σ g last) (bracket_of σ g)

  -- The count is the number of crossings if that is at most eight, and eight otherwise.
  pub counted : (sweep_of σ g last).count ≡ min 8 (length (crossings σ g last))
  unfolding sweep_of reported
  counted = ap (min 8) length_is

  pub all_listed : length (crossings σ g last) ≤ 8 → take (sweep_of σ g last).count (sweep_of σ g last).list ≡ brackets σ g last
  unfolding sweep_of reported
  all_listed h =
      let all = brackets σ g last in
      let few : length all ≤ 8 = omega (arith, length_is, h) in
      let count : min 8 (length all) ≡ length all = omega (arith, few) in
      rw (take_all 8 all few, count) (take-append_seam all (replicate (8 - length all) blank))
