-- The crossings of a problem, and the entries of its answer (01, Stations, sides, crossings). Definitions only.
use Rattle.std.specs.Prelude.{ℕ, ◌+◌, List, map, ℤ}
use Rattle.records.specs.declared.Entry.{Entry}
use Rattle.entrance.specs.declared.Problem.{Problem}
use Rattle.stations.specs.Sides.{side_at}
use Rattle.stations.specs.Grid.{Grid}
use Rattle.stations.specs.Stations.{last_of}
use Rattle.stations.specs.SearchGrid.{grid_for, last_for}
use Rattle.sweep.specs.Crossings.{up_to, brackets}
use Rattle.sweep.specs.Walks.{first_void}
use Rattle.sweep.specs.declared.walks.Walk.{Walk}
use Rattle.bisection.specs.declared.Bracket.{Bracket}
use Rattle.stations.specs.declared.search.Search.{Search}
use Rattle.stations.specs.declared.side.Side.{Side}
use Rattle.entries.specs.Entries.{entry_for}

-- The search of a problem: its triangle, whole revolutions and wanted time.
abbrev pub search_of : Problem → Search
search_of p = record { triangle = p.triangle; revolutions = p.revolutions; wanted = p.wanted }

-- The side of each place, for a problem.
unfoldable pub sides_of : Problem → ℤ → Side
sides_of p = side_at (search_of p)

-- The index of the last station.
abbrev pub last_station : Problem → ℕ
last_station p = last_of p.revolutions

-- The grid of a problem: the places where its sweep computes the time.
abbrev pub grid_of : Problem → Grid
grid_of p = grid_for (search_of p)

-- The index of the last place in this grid.
abbrev pub last_place : Problem → ℕ
last_place p = last_for (search_of p)

-- The report about the times at all places of the grid: the first void one in rising x, if there is one.
unfoldable pub seen_of : Problem → Walk
seen_of p = first_void (sides_of p) (grid_of p) (up_to (last_place p + 1))

-- The brackets of all crossings in rising x.
unfoldable pub brackets_of : Problem → List Bracket
brackets_of p = brackets (sides_of p) (grid_of p) (last_place p)

-- The entries of all crossings in rising x.
unfoldable pub entries_of : Problem → List Entry
entries_of p = map (entry_for p) (brackets_of p)
