-- What holds for the void station that a sweep reports (02, A4), stated without the loop that finds it: it is void, and no lower one is.
-- First over any sides and any grid, and then over the times of a search.
use Rattle.std.specs.Prelude.{◌≡◌, false, ℕ, ◌≤◌, ◌<◌, ℤ, pos, ◌*ℤ◌, Float}
use Rattle.flight_time.specs.Steps.{station_spacing}
use Rattle.flight_time.specs.Time.{time_of}
use Rattle.flight_time.specs.declared.Place.TheVariants.{Timed, Void}
use Rattle.stations.specs.declared.search.Search.{Search}
use Rattle.stations.specs.declared.side.Side.{Side}
use Rattle.stations.specs.declared.side.Side.TheVariants.{Unknown}
use Rattle.stations.specs.Sides.{is_unknown}
use Rattle.stations.specs.Grid.{Grid}
use Rattle.stations.specs.SearchGrid.{grid_for, last_for}
use Rattle.stations.specs.Stations.{j_of}
use Rattle.sweep.specs.declared.walks.VoidStation.{VoidStation}

-- `station` is the first void place among the places 0 to `last` of a grid, in the order of the indices.
pub record IsFirstVoid (σ : ℤ → Side) (g : Grid) (last : ℕ) (station : VoidStation) : Type 0 where
  -- It is place `index` of the grid, and its j is that of this place.
  pub index : ℕ
  pub within : index ≤ last
  pub j_is : station.j ≡ j_of (g.place index)
  -- It is void for the given reason.
  pub void_is : σ (g.place index) ≡ Unknown station.reason
  -- Every lower place has a time.
  pub lower : (i : ℕ) → i < index → is_unknown (σ (g.place i)) ≡ false

-- `station` is the first void station of a search.
pub record IsFirstVoidStation (search : Search) (station : VoidStation) : Type 0 where
  -- It is place `index` of the search's grid, at k = j·2^20.
  pub index : ℕ
  pub within : index ≤ last_for search
  pub place_is : (grid_for search).place index ≡ station.j *ℤ pos station_spacing
  -- It is void for the given reason, and every lower place has a time.
  pub void_is : time_of search.triangle ((grid_for search).place index) search.revolutions ≡ Void station.reason
  pub lower : (i : ℕ) → i < index → (t : Float) × (time_of search.triangle ((grid_for search).place i) search.revolutions ≡ Timed t)
