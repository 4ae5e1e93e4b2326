-- The stations rise by 2^20 from each to the next (`stations_rise`), and so the grid of every search rises (`grid_rises`). For every
-- place k of that grid, `mag k` is at most 2^40 (`grid_room`). `mag k` is k for k from 0 up, and -(k + 1) for a negative k.
use Prim.Native.Nat.{ℕ, ◌≤◌}
use native.Mathlib.Omega.{arith}
use lib.Signed.{mag}
use Rattle.stations.specs.declared.search.Search.{Search}
use Rattle.stations.specs.Grid.{IsRising, stations}
use Rattle.stations.specs.SearchGrid.{grid_for, last_for}
use Rattle.stations.specs.Stations.{farthest}
use Rattle.stations.proofs.Places.{next_station, station_room, last_small}

pub stations_rise : IsRising stations
stations_rise = record { most = λ i. omega arith; next = next_station }

pub grid_rises : (search : Search) → IsRising (grid_for search)
unfolding grid_for
grid_rises search = stations_rise

pub grid_room : (search : Search) (i : ℕ) → i ≤ last_for search → mag ((grid_for search).place i) ≤ farthest
unfolding grid_for last_for
grid_room search i h = omega (arith, station_room i (omega (arith, h, last_small search.revolutions)))
