-- The grid of a search: the places where its sweep computes the time, and the index of the last one. These places are the stations (01,
-- Stations, sides, crossings). Definitions only.
use Rattle.std.specs.Prelude.{ℕ}
use Rattle.stations.specs.declared.search.Search.{Search}
use Rattle.stations.specs.Grid.{Grid, stations}
use Rattle.stations.specs.Stations.{last_of}

-- The grid of a search. It is the stations for every search.
unfoldable pub grid_for : Search → Grid
grid_for search = stations

-- The index of the last station of a search, which depends on its whole revolutions.
unfoldable pub last_for : Search → ℕ
last_for search = last_of search.revolutions
