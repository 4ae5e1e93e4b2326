-- A grid: places numbered from 0, and for each neighbouring pair the number of halvings that its bisection begins with. In a rising grid
-- (`IsRising`) the places are in rising x, as far apart as the halvings say. The sweep is defined over any grid, and a law that needs a
-- rising grid assumes one. The grid of a search is `grid_for` in SearchGrid. Definitions only.
use Rattle.std.specs.Prelude.{ℕ, ◌+◌, ◌-◌, ◌^◌, ◌≤◌, ◌≡◌, ℤ, pos, ◌+ℤ◌}
use Rattle.stations.specs.Stations.{station_of}

-- `place i` is the place with index i. Comments about a grid call it "place i", while "place k" is always the place with x = k/2^32.
-- `halvings i` is the number of halvings that the pair of places i and i + 1 begins with.
pub record Grid : Type 0 where
  pub place : ℕ → ℤ
  pub halvings : ℕ → ℕ

-- The places rise: a pair that begins with h halvings, at most 20, is 2^(20−h) wide, so every place is above the one before it.
pub record IsRising (g : Grid) : Type 0 where
  pub most : (i : ℕ) → g.halvings i ≤ 20
  pub next : (i : ℕ) → g.place (i + 1) ≡ g.place i +ℤ pos (2 ^ (20 - g.halvings i))

-- The stations as a grid: neighbours are 2^20 apart, and each pair begins with 0 halvings.
abbrev pub stations : Grid
stations = record { place = station_of; halvings = λ i. 0 }
