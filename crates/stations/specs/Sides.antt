-- Sides (01, Stations, sides, crossings): which side of the wanted time a place is on. Definitions only.
use Rattle.std.specs.Prelude.{Bool, true, false, cond, ℤ, Float}
use Rattle.float64.specs.Notation.{◌≺◌}
use Rattle.flight_time.specs.Time.{time_of}
use Rattle.flight_time.specs.declared.Place.{Place}
use Rattle.flight_time.specs.declared.Place.TheVariants.{Timed, Void}
use Rattle.stations.specs.declared.search.Search.{Search}
use Rattle.stations.specs.declared.side.Side.{Side}
use Rattle.stations.specs.declared.side.Side.TheVariants.{Below, NotBelow, Unknown}

-- The side of a place for a wanted time T*: below if the place has a time T < T*, not below if it has any other time, and `Unknown` if it
-- is void, with the reason why it is void.
unfoldable pub side_of : Place → Float → Side
side_of (Timed time) wanted = cond (time ≺ wanted) Below NotBelow
side_of (Void reason) wanted = Unknown reason

-- The side of place k in a search, from the time of the search's triangle at k with the search's whole revolutions, and from the search's
-- wanted time.
unfoldable pub side_at : Search → ℤ → Side
side_at search k = side_of (time_of search.triangle k search.revolutions) search.wanted

-- Whether two sides are known and differ, so that both places have times, on different sides.
abbrev pub opposite : Side → Side → Bool
opposite Below Below = false
opposite Below NotBelow = true
opposite Below (Unknown reason) = false
opposite NotBelow Below = true
opposite NotBelow NotBelow = false
opposite NotBelow (Unknown reason) = false
opposite (Unknown reason) b = false

-- Whether a side is `Unknown`, the side of a void place.
abbrev pub is_unknown : Side → Bool
is_unknown Below = false
is_unknown NotBelow = false
is_unknown (Unknown reason) = true
