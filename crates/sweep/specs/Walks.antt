-- What a sweep reports about the times at the places of a grid (02, A4): all have times, or which place is the first void one, and why.
-- The side of each place is a parameter σ. Definitions only.
use Rattle.std.specs.Prelude.{ℕ, Bool, cond, List, [], ◌∷◌, ℤ}
use Rattle.stations.specs.declared.side.Side.{Side}
use Rattle.stations.specs.declared.side.Side.TheVariants.{Below, NotBelow, Unknown}
use Rattle.stations.specs.Grid.{Grid}
use Rattle.stations.specs.Stations.{j_of}
use Rattle.sweep.specs.declared.walks.Walk.{Walk}
use Rattle.sweep.specs.declared.walks.Walk.TheVariants.{AllTimed, SomeVoid, NinthFound}

-- The report about place k alone, given its side.
abbrev pub void_at : Side → ℤ → Walk
void_at Below k = AllTimed
void_at NotBelow k = AllTimed
void_at (Unknown reason) k = SomeVoid (record { j = j_of k; reason = reason })

-- The report about some places and the later ones together: a void place among the former comes first. The last case never arises,
-- because a report about places does not speak of crossings.
abbrev pub or_later : Walk → Walk → Walk
or_later AllTimed later = later
or_later (SomeVoid station) later = SomeVoid station
or_later NinthFound later = NinthFound

-- The report about the places with the given indices, in this order: the first void one, if there is one.
unfoldable pub first_void : (ℤ → Side) → Grid → List ℕ → Walk
first_void σ g [] = AllTimed
first_void σ g (i ∷ is) = or_later (void_at (σ (g.place i)) (g.place i)) (first_void σ g is)

-- The report of a whole sweep, given whether there is a ninth crossing, and the report about all places. If there is a ninth crossing,
-- only that is reported.
abbrev pub walk_of : Bool → Walk → Walk
walk_of ninth seen = cond ninth NinthFound seen
