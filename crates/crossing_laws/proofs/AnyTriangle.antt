-- What a sweep over any grid reports for searches that no question leads to: if L or the number of revolutions is outside the range of
-- step 1 of the time (`nothing_outside`, and `void_from_the_first` for the stations). If the wanted time is a NaN, no crossing is found
-- (`nothing_at_nan`). Also, a place whose side is known has a finite time (`known_finite`).
use mathlib.Core.Path.{◌≡◌, refl, subst}
use mathlib.Core.Bool.{Bool, true, false, not, ◌||◌}
use mathlib.Core.Logic.{◌⊎◌, ⊎_elim}
use Prim.Native.Nat.{ℕ, ◌+◌, ◌≤◌, ◌<◌}
use native.Mathlib.Omega.{arith}
use borrow.Author.Tests.{lt-ltb}
use lib.IntN.{ℤ, pos, neg_ℤ}
use lib.Ieee.{Float, nan, inf, fin, lt}
use lib.ListN.{length}
use Rattle.float64.specs.Notation.{◌≺◌, 1F}
use Rattle.float64.specs.Value.{magnitude_of, finite_of}
use Rattle.flight_time.specs.Steps.{outside_range, most_revolutions}
use Rattle.flight_time.specs.Time.{steps_of, time_of}
use Rattle.flight_time.specs.declared.Place.{Place}
use Rattle.flight_time.specs.declared.Place.TheVariants.{Timed, Void}
use Rattle.crossing_laws.proofs.FiniteTimes.{timed_finite}
use Rattle.stations.specs.declared.search.Search.{Search}
use Rattle.stations.specs.declared.side.Side.{Side}
use Rattle.stations.specs.declared.side.Side.TheVariants.{Below, Unknown}
use Rattle.sweep.specs.declared.walks.Walk.TheVariants.{SomeVoid}
use Rattle.crossing_laws.specs.FirstVoid.{IsFirstVoid}
use Rattle.hypergeometric.specs.declared.reasons.Reason.{Reason}
use Rattle.hypergeometric.specs.declared.reasons.Reason.TheVariants.{OutsideRange}
use Rattle.stations.specs.Sides.{side_of, side_at, is_unknown}
use Rattle.stations.specs.Grid.{Grid, stations}
use Rattle.stations.specs.SearchGrid.{grid_for, last_for}
use Rattle.stations.specs.Stations.{station_of, j_of}
use Rattle.bisection.specs.Pairs.{crosses}
use Rattle.sweep.specs.Crossings.{crossings, sweep_of, sweep_for}
use Rattle.sweep.proofs.Counts.{counted}
use Rattle.crossing_laws.proofs.FirstVoids.{clash}
use Rattle.crossing_laws.proofs.Theorems.{none_exactly, void_exactly}
use Rattle.crossing_laws.proofs.Corners.{none_below, below_exactly}

-- ---- the finite time of a place whose side is known

-- Place k has a time, and it is finite.
abbrev pub FiniteAt : Search → ℤ → Type 0
FiniteAt s k = (time : Float) × ((time_of s.triangle k s.revolutions ≡ Timed time) × (finite_of time ≡ true))

finite_by : (s : Search) (k : ℤ) (p : Place) → time_of s.triangle k s.revolutions ≡ p →
    is_unknown (side_of p s.wanted) ≡ false → FiniteAt s k
unfolding side_of
finite_by s k (Timed time) e h = (time, (e, timed_finite s.triangle k s.revolutions time e))
finite_by s k (Void reason) e h = clash refl h

pub known_finite : (s : Search) (k : ℤ) → is_unknown (side_at s k) ≡ false → FiniteAt s k
unfolding side_at
known_finite s k h = finite_by s k (time_of s.triangle k s.revolutions) refl h

-- ---- a search in which every place is void for the same reason: no crossing is found, and the first place is reported

all_unknown : (σ : ℤ → Side) (g : Grid) (last : ℕ) (reason : Reason) → ((k : ℤ) → σ k ≡ Unknown reason) →
    ((sweep_of σ g last).count ≡ 0) × ((sweep_of σ g last).walk ≡ SomeVoid (record { j = j_of (g.place 0); reason = reason }))
unfolding crosses
all_unknown σ g last reason u =
    let none : (sweep_of σ g last).count ≡ 0 = (none_exactly σ g last).1 (λ i h. rw (u (g.place i))) in
    let few : length (crossings σ g last) ≤ 8 = omega (arith, none, counted σ g last) in
    let first : IsFirstVoid σ g last (record { j = j_of (g.place 0); reason = reason }) =
    record { index = 0; within = omega arith; j_is = refl; void_is = u (g.place 0); lower = λ i h. absurd (omega (arith, h)) } in
    (none, (void_exactly σ g last _).1 (few, first))

or_true : (a b : Bool) → b ≡ true → a || b ≡ true
or_true true b e = refl
or_true false b e = e

outside_by : (s : Search) (k : ℤ) → outside_range s.triangle.lambda k s.revolutions ≡ true → side_at s k ≡ Unknown OutsideRange
unfolding side_at side_of time_of steps_of
outside_by s k e = rw e

-- |L| is not below 1, or there are more than 16 whole revolutions.
abbrev pub AlwaysOutside : Search → Type 0
AlwaysOutside s = ((magnitude_of s.triangle.lambda ≺ 1F) ≡ false) ⊎ (most_revolutions < s.revolutions)

pub nothing_outside : (s : Search) (g : Grid) (last : ℕ) → AlwaysOutside s →
    ((sweep_of (side_at s) g last).count ≡ 0)
    × ((sweep_of (side_at s) g last).walk ≡ SomeVoid (record { j = j_of (g.place 0); reason = OutsideRange }))
unfolding outside_range
nothing_outside s g last h =
    let near : Bool = magnitude_of s.triangle.lambda ≺ 1F in
    all_unknown (side_at s) g last OutsideRange (λ k. outside_by s k
    (⊎_elim (λ e. rw e) (λ l. or_true (not near) _ (rw (lt-ltb most_revolutions s.revolutions l))) h))

-- The sweep over the stations then reports the first station, whose j is −4095, with the reason `OutsideRange`.
pub void_from_the_first : (s : Search) → AlwaysOutside s →
    ((sweep_for s).count ≡ 0) × ((sweep_for s).walk ≡ SomeVoid (record { j = neg_ℤ (pos 4095); reason = OutsideRange }))
unfolding grid_for station_of j_of
void_from_the_first s h = nothing_outside s stations (last_for s) h

-- ---- a wanted time that is a NaN: no crossing

none_below_nan : (x : Float) → (x ≺ nan) ≡ false
unfolding lt
none_below_nan nan = refl
none_below_nan (inf s) = refl
none_below_nan (fin s m e) = refl

pub nothing_at_nan : (s : Search) (g : Grid) (last : ℕ) → s.wanted ≡ nan → (sweep_of (side_at s) g last).count ≡ 0
unfolding crosses side_at
nothing_at_nan s g last e =
    (none_exactly (side_at s) g last).1 (λ i h.
    none_below (side_at s (g.place i)) (side_at s (g.place (i + 1))) (not_below (at i)) (not_below (at (i + 1))))
  where
    at : ℕ → Place
    at i = time_of s.triangle (g.place i) s.revolutions

    not_below : (p : Place) → side_of p s.wanted ≡ Below → ⊥
    not_below p h =
        let b = (below_exactly p nan).0 (subst (λ (w : Float). side_of p w ≡ Below) e h) in
        clash b.1.1 (none_below_nan b.0)
