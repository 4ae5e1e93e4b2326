-- If the report about the stations of a problem names a void station, its j is that of one of these stations
-- (`void_station`). This follows from `names_exactly`: the named station is a place of the grid, which is that of the
-- stations.
use mathlib.Core.Path.{◌≡◌, ◌∙◌}
use Rattle.stations.specs.SearchGrid.{grid_for, last_for}
use Rattle.stations.proofs.Places.{j_is_lem}
use Rattle.sweep.specs.declared.walks.VoidStation.{VoidStation}
use Rattle.sweep.specs.declared.walks.Walk.TheVariants.{SomeVoid}
use Rattle.crossing_laws.proofs.FirstVoids.{names_exactly}
use Rattle.entrance.specs.declared.Problem.{Problem}
use Rattle.solver.specs.Crossed.{sides_of, grid_of, last_place, seen_of}
use Rattle.record_laws.specs.RecordForm.{IsStation}

pub void_station : (p : Problem) (station : VoidStation) → seen_of p ≡ SomeVoid station → IsStation p.revolutions station.j
unfolding seen_of grid_for last_for
void_station p station e =
    let first = (names_exactly (sides_of p) (grid_of p) (last_place p) station).0 e in
    record { index = first.index; within = first.within; j_is = first.j_is ∙ j_is_lem first.index }
