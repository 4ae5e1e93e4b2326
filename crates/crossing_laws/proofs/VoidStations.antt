-- The station that a sweep names is the first void station of the search, stated over times: it is at k = j·2^20, it is void for the
-- named reason, and every lower station has a time (`station_exactly`). Its j fits in an i32 (`j_fits`). This follows from
-- `void_exactly`, and from the grid of a search, which is that of the stations.
use mathlib.Core.Path.{◌≡◌, refl, sym, ap, ◌∙◌}
use mathlib.Core.Bool.{Bool, true, false, cond}
use mathlib.Core.Logic.{◌↔◌}
use Prim.Native.Nat.{ℕ, ◌≤◌, ◌<◌}
use native.Mathlib.Omega.{arith}
use lib.IntN.{ℤ, pos, neg_ℤ, ◌+ℤ◌, ◌*ℤ◌}
use lib.Ieee.{Float}
use lib.ListN.{length}
use mir.Syntax.{w32}
use mir.Val.{SFits}
use Rattle.float64.specs.Notation.{◌≺◌}
use Rattle.flight_time.specs.Steps.{station_spacing}
use Rattle.flight_time.specs.Time.{time_of}
use Rattle.flight_time.specs.declared.Place.TheVariants.{Timed}
use Rattle.stations.specs.declared.search.Search.{Search}
use Rattle.stations.specs.declared.side.Side.TheVariants.{Below, NotBelow}
use Rattle.stations.specs.Sides.{side_of, side_at, is_unknown}
use Rattle.stations.specs.SearchGrid.{grid_for, last_for}
use Rattle.stations.specs.Stations.{stations_below, station_of, j_of}
use Rattle.stations.proofs.Places.{mag_from, j_is_lem, j_of_place, place_of_j, last_small}
use Rattle.sweep.specs.Crossings.{crossings, sweep_for}
use Rattle.sweep.specs.declared.walks.VoidStation.{VoidStation}
use Rattle.sweep.specs.declared.walks.Walk.TheVariants.{SomeVoid}
use Rattle.crossing_laws.specs.FirstVoid.{IsFirstVoid, IsFirstVoidStation}
use Rattle.crossing_laws.proofs.AnyTriangle.{known_finite}
use Rattle.crossing_laws.proofs.Corners.{unknown_exactly}
use Rattle.crossing_laws.proofs.Theorems.{void_exactly}

module _ (search : Search) where
  grid_place : (i : ℕ) → (grid_for search).place i ≡ station_of i
  unfolding grid_for
  grid_place i = refl

  -- A place with a time is on a known side.
  known_by : (b : Bool) → is_unknown (cond b Below NotBelow) ≡ false
  known_by true = refl
  known_by false = refl

  timed_known : (k : ℤ) (t : Float) → time_of search.triangle k search.revolutions ≡ Timed t → is_unknown (side_at search k) ≡ false
  unfolding side_at side_of
  timed_known k t e = rw e (known_by (t ≺ search.wanted))

  module _ (station : VoidStation) where
    abbrev First : Type 0
    First = IsFirstVoid (side_at search) (grid_for search) (last_for search) station

    -- From sides and j to times and places, and back.
    pub to_times : First → IsFirstVoidStation search station
    unfolding side_at
    to_times x =
        let j : station.j ≡ j_of (station_of x.index) = x.j_is ∙ ap j_of (grid_place x.index) in
        record {
          index = x.index;
          within = x.within;
          place_is = grid_place x.index ∙ place_of_j x.index ∙ ap (λ (n : ℤ). n *ℤ pos station_spacing) (sym j);
          void_is = (unknown_exactly _ search.wanted station.reason).0 x.void_is;
          lower = λ i h. let t = known_finite search ((grid_for search).place i) (x.lower i h) in (t.0, t.1.0);
        }

    to_sides : IsFirstVoidStation search station → First
    unfolding side_at
    to_sides x =
        record {
          index = x.index;
          within = x.within;
          j_is = sym (j_of_place station.j) ∙ ap j_of (sym x.place_is);
          void_is = (unknown_exactly _ search.wanted station.reason).1 x.void_is;
          lower = λ i h. let t = x.lower i h in timed_known ((grid_for search).place i) t.0 t.1;
        }

    pub station_exactly : ((sweep_for search).walk ≡ SomeVoid station)
        ↔ ((length (crossings (side_at search) (grid_for search) (last_for search)) ≤ 8) × IsFirstVoidStation search station)
    station_exactly =
        let named = void_exactly (side_at search) (grid_for search) (last_for search) station in (
          λ e. let n = named.0 e in (n.0, to_times n.1),
          λ h. named.1 (h.0, to_sides h.1),
        )

    -- The index of a station is below 65536, and its j is the index less 4095.
    pub j_fits : First → SFits w32 station.j
    unfolding last_for
    j_fits x =
        let first : ℤ = neg_ℤ (pos stations_below) in
        let j : station.j ≡ pos x.index +ℤ first = x.j_is ∙ ap j_of (grid_place x.index) ∙ j_is_lem x.index in
        let small : x.index < 65536 = omega (arith, x.within, last_small search.revolutions) in
        rw j (record { sfits = omega (arith, mag_from x.index first, small) })
