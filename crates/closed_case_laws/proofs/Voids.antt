-- Reasons that the prover computes at single steps (`not_finite`, `steps_are_void`): no L, k and M are known for which the steps together
-- give a result that is not finite, or for which step 7 makes the place void. And what the sweep reports: for L = 1 the first station, for
-- reason 1 (`lambda_one`), and near L = −1 the second station, for reason 2 or 3 (`second_root`, `second_divisor`). And the numbers that
-- hosts in other languages get (`bits_are`, `report_is`, `refusal_12_is`).
use mathlib.Core.Path.{◌≡◌, refl, ap, ◌∙◌}
use mathlib.Core.Logic.{inl}
use mathlib.Core.List.{[], ◌∷◌, map}
use Prim.Native.Nat.{ℕ, ◌≤◌}
use native.Mathlib.Omega.{arith}
use lib.IntN.{ℤ, pos, neg_ℤ, ◌*ℤ◌}
use lib.ListN.{length}
use lib.Ieee.{Float, nan, add, sub, mul, div, neg, lt, eq, of_bits, of_int}
use Rattle.std.specs.Prelude.{Err}
use Rattle.float64.specs.Notation.{bits, 0F, 1F}
use Rattle.float64.specs.Value.{magnitude_of, finite_of}
use Rattle.float64.specs.Root.{root_of}
use Rattle.hypergeometric.specs.Reasons.{reason_number}
use Rattle.hypergeometric.specs.Steps.{y_of, eta_of, c1_of, next_c, half_angles_of, ratio_of, series_from, series_of, s4_of, back_of}
use Rattle.hypergeometric.specs.Steps.{g_of}
use Rattle.hypergeometric.specs.declared.reasons.Reason.{Reason}
use Rattle.hypergeometric.specs.declared.reasons.Reason.TheVariants.{OutsideRange, RefusedRoot, ZeroDivisor, NotFinite}
use Rattle.flight_time.specs.Steps.{station_spacing, outside_range, x_of, u_of, direct_of, with_revolutions}
use Rattle.flight_time.specs.Time.{if_finite, steps_of, time_of, place_bits}
use Rattle.flight_time.specs.declared.Place.TheVariants.{Timed, Void}
use Rattle.stations.specs.declared.search.Search.{Search}
use Rattle.stations.specs.Sides.{side_at}
use Rattle.stations.specs.SearchGrid.{grid_for, last_for}
use Rattle.stations.specs.Stations.{station_of, last_of}
use Rattle.stations.proofs.Places.{j_is_lem, place_of_j}
use Rattle.sweep.specs.Crossings.{crossings, sweep_for}
use Rattle.sweep.specs.declared.walks.VoidStation.{VoidStation}
use Rattle.sweep.proofs.Counts.{counted}
use Rattle.sweep.specs.declared.walks.Walk.TheVariants.{SomeVoid}
use Rattle.crossing_laws.proofs.AnyTriangle.{void_from_the_first, nothing_at_nan}
use Rattle.crossing_laws.proofs.VoidStations.{station_exactly}
use Rattle.crossing_laws.specs.FirstVoid.{IsFirstVoidStation}
use Rattle.little_endian.specs.Bytes.{twos_complement}
use Rattle.solver.specs.declared.Cause.TheVariants.{StationVoid}
use Rattle.c_time.specs.SweepNumber.{walk_number}
use Rattle.c_solver.specs.OutcomeWord.{outcome_word}
use Rattle.closed_case_laws.specs.Given.{ONE, with_lambda}

-- ---- the last test: positive and negative infinity, and a NaN

pub not_finite : map if_finite (bits 0x7FF0_0000_0000_0000 ∷ bits 0xFFF0_0000_0000_0000 ∷ bits 0x7FF8_0000_0000_0000 ∷ [])
    ≡ Err NotFinite ∷ Err NotFinite ∷ Err NotFinite ∷ []
unfolding finite_of of_bits
not_finite = refl

-- ---- single steps: in step 5 a divisor w of zero, then a divisor 4·C of zero; in step 7 a negative u, and a u of zero

pub steps_are_void :
    back_of 1F 0F 1F ∷ back_of 1F 1F 0F ∷ with_revolutions 0F (bits 0xBFF0_0000_0000_0000) 1 ∷ with_revolutions 0F 0F 1 ∷ []
    ≡ Err ZeroDivisor ∷ Err ZeroDivisor ∷ Err RefusedRoot ∷ Err ZeroDivisor ∷ []
unfolding back_of with_revolutions root_of add sub mul div neg lt eq of_bits of_int
steps_are_void = refl

-- ---- the numbers of the reasons

pub numbers_are : map reason_number (OutsideRange ∷ RefusedRoot ∷ ZeroDivisor ∷ NotFinite ∷ []) ≡ 1 ∷ 2 ∷ 3 ∷ 4 ∷ []
unfolding reason_number
numbers_are = refl

-- ---- reasons and stations as numbers, for hosts in other languages: the bits of a void place, a report, and a refusal 12

pub bits_are : map place_bits (Void OutsideRange ∷ Void RefusedRoot ∷ Void ZeroDivisor ∷ Void NotFinite ∷ [])
    ≡ 0x7FF8_0000_0000_0001 ∷ 0x7FF8_0000_0000_0002 ∷ 0x7FF8_0000_0000_0003 ∷ 0x7FF8_0000_0000_0004 ∷ []
unfolding place_bits reason_number
bits_are = refl

-- The first station, j = −4095, with reason 1.
abbrev pub first_outside : VoidStation
first_outside = record { j = neg_ℤ (pos 4095); reason = OutsideRange }

pub report_is : walk_number (SomeVoid first_outside) ≡ 0xFFFF_F001_0000_0110
unfolding reason_number twos_complement
report_is = refl

pub refusal_12_is : outcome_word (Err (StationVoid first_outside)) ≡ 0xFFFF_F001_0001_000C
unfolding reason_number twos_complement
refusal_12_is = refl

-- ---- the sweep at L = 1

-- The search for a wanted time in the triangle whose L has the given bits.
abbrev pub search_at : ℕ → ℕ → Float → Search
search_at L revolutions wanted = record { triangle = with_lambda L; revolutions = revolutions; wanted = wanted }

pub lambda_one : (revolutions : ℕ) (wanted : Float) →
    ((sweep_for (search_at ONE revolutions wanted)).count ≡ 0)
    × ((sweep_for (search_at ONE revolutions wanted)).walk ≡ SomeVoid (record { j = neg_ℤ (pos 4095); reason = OutsideRange }))
unfolding with_lambda magnitude_of lt of_bits
lambda_one revolutions wanted = void_from_the_first (search_at ONE revolutions wanted) (inl refl)

-- ---- the sweep near L = −1: the first station has a time, and the second, j = −4094, is void for reason 2 or for reason 3

-- With a NaN as the wanted time no pair crosses, so the sweep names its first void station.
second_named : (L first : ℕ) (reason : Reason) →
    time_of (with_lambda L) (station_of 0) 0 ≡ Timed (bits first) → time_of (with_lambda L) (station_of 1) 0 ≡ Void reason →
    (sweep_for (search_at L 0 nan)).walk ≡ SomeVoid (record { j = neg_ℤ (pos 4094); reason = reason })
unfolding grid_for last_for last_of
second_named L first reason timed void =
    let search = search_at L 0 nan in
    let none = nothing_at_nan search (grid_for search) (last_for search) refl in
    let few : length (crossings (side_at search) (grid_for search) (last_for search)) ≤ 8 =
    omega (arith, none, counted (side_at search) (grid_for search) (last_for search)) in
    let station : VoidStation = record { j = neg_ℤ (pos 4094); reason = reason } in
    let is_first : IsFirstVoidStation search station =
    record {
      index = 1;
      within = omega arith;
      place_is = second_place;
      void_is = void;
      lower = λ i h. let zero : i ≡ 0 = omega (arith, h) in (bits first, rw zero timed);
    } in
    (station_exactly search station).1 (few, is_first)
  where
    second_place : station_of 1 ≡ neg_ℤ (pos 4094) *ℤ pos station_spacing
    second_place = place_of_j 1 ∙ ap (λ (j : ℤ). j *ℤ pos station_spacing) (j_is_lem 1)

pub second_root : (sweep_for (search_at 0xBFEF_FFFF_FFFF_FEFF 0 nan)).walk
    ≡ SomeVoid (record { j = neg_ℤ (pos 4094); reason = RefusedRoot })
unfolding with_lambda station_of time_of steps_of outside_range x_of u_of y_of eta_of c1_of next_c half_angles_of ratio_of series_from
    series_of
    s4_of back_of g_of
    direct_of with_revolutions magnitude_of finite_of root_of add sub mul div neg lt eq of_bits of_int
second_root = second_named 0xBFEF_FFFF_FFFF_FEFF 0xBD2F_55C2_423C_84B0 RefusedRoot refl refl

pub second_divisor : (sweep_for (search_at 0xBFEF_FFFF_FFD9_9CCD 0 nan)).walk
    ≡ SomeVoid (record { j = neg_ℤ (pos 4094); reason = ZeroDivisor })
unfolding with_lambda station_of time_of steps_of outside_range x_of u_of y_of eta_of c1_of next_c half_angles_of ratio_of series_from
    series_of
    s4_of back_of g_of
    direct_of with_revolutions magnitude_of finite_of root_of add sub mul div neg lt eq of_bits of_int
second_divisor = second_named 0xBFEF_FFFF_FFD9_9CCD 0x3F1A_3A37_D421_2F16 ZeroDivisor refl refl
