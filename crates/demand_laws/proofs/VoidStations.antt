-- The station that a refusal names is the first void one of the problem's search (`first_void_lem`), and its j fits in an
-- i32 (`station_fits`).
use mathlib.Core.Path.{◌≡◌}
use mir.Syntax.{w32}
use mir.Val.{SFits}
use Rattle.entrance.specs.declared.Problem.{Problem}
use Rattle.stations.specs.Sides.{side_at}
use Rattle.stations.specs.SearchGrid.{grid_for, last_for}
use Rattle.sweep.specs.declared.walks.VoidStation.{VoidStation}
use Rattle.sweep.specs.declared.walks.Walk.TheVariants.{SomeVoid}
use Rattle.crossing_laws.specs.FirstVoid.{IsFirstVoid, IsFirstVoidStation}
use Rattle.crossing_laws.proofs.FirstVoids.{names_exactly}
use Rattle.crossing_laws.proofs.VoidStations.{to_times, j_fits}
use Rattle.solver.specs.Crossed.{search_of, sides_of, seen_of}

module _ (p : Problem) (station : VoidStation) (e : seen_of p ≡ SomeVoid station) where
  first : IsFirstVoid (side_at (search_of p)) (grid_for (search_of p)) (last_for (search_of p)) station
  unfolding seen_of sides_of
  first = (names_exactly (side_at (search_of p)) (grid_for (search_of p)) (last_for (search_of p)) station).0 e

  pub first_void_lem : IsFirstVoidStation (search_of p) station
  first_void_lem = to_times (search_of p) station first

  pub station_fits : SFits w32 station.j
  station_fits = j_fits (search_of p) station first
