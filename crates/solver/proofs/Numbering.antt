-- The cause that the code finds is that of the first row of 11 to 14 that applies (`cause_is`). If that cause is a void station, it is the
-- one that the sweep's report names (`station_seen`). If no row applies, the sweep lists every bracket (`few`, `entries_are`, `count_is`).
-- `refused_is` and `answered_is` say what follows for the outcome. Number 12, and no other, comes with a void station (`twelve_named`).
use mathlib.Core.Path.{◌≡◌, refl, sym, ap, ◌∙◌}
use mathlib.Core.Bool.{Bool, true, false, cond, not, ◌&&◌}
use mathlib.Core.List.{List, map}
use Prim.Native.Nat.{ℕ, ◌+◌, ◌≤◌, ◌<◌}
use native.Mathlib.Omega.{arith}
use borrow.Author.Tests.{ltb-true, ltb-false, ne_eqb}
use lib.Dec.{eqb, ltb, lit<}
use lib.ListN.{length, take, length-map}
use Rattle.std.specs.Prelude.{Option, Some, None, Ok, Err}
use Rattle.records.specs.Layout.{void_number}
use Rattle.entrance.specs.Judge.{first_of, unless}
use Rattle.entrance.specs.Table.{Row, rows_of}
use Rattle.entrance.specs.declared.Problem.{Problem}
use Rattle.entrance.proofs.Table.{first_in, number_or_0, number_first, fault_positive, fault_most}
use Rattle.sweep.specs.Crossings.{up_to, some_void, reported, sweep_of}
use Rattle.sweep.specs.Walks.{walk_of}
use Rattle.sweep.specs.declared.Crossings.{Crossings}
use Rattle.sweep.specs.declared.walks.VoidStation.{VoidStation}
use Rattle.sweep.specs.declared.walks.Walk.{Walk}
use Rattle.sweep.specs.declared.walks.Walk.TheVariants.{SomeVoid}
use Rattle.sweep.proofs.Counts.{counted, length_is, all_listed}
use Rattle.sweep.proofs.Reports.{Agrees, none_void, some_void_lem, agrees}
use Rattle.entries.specs.Entries.{entry_for, finite_for, every}
use Rattle.solver.specs.Crossed.{sides_of, grid_of, last_place, seen_of, brackets_of, entries_of}
use Rattle.solver.specs.Table.{cause_number, crossing_count, any_void, all_finite, named_station, late_checks}
use Rattle.solver.specs.Internals.{late_cause}
use Rattle.solver.specs.Solve.{outcome_for}
use Rattle.solver.specs.declared.Cause.{Cause}
use Rattle.solver.specs.declared.Cause.TheVariants.{Entrance, NoCrossing, StationVoid, NinthCrossing, VelocityNotFinite}

-- The rows as a chain of conditions: their numbers (`rows`), and their causes (`causes`).
abbrev pub rows : Bool → Bool → Bool → Bool → ℕ
rows none void ninth finite = cond (none && not void) 11 (cond (none && void) 12 (cond ninth 13 (cond (not finite) 14 0)))

abbrev causes : Bool → Bool → Bool → Bool → VoidStation → Option Cause
causes none void ninth finite station =
    cond (none && not void) (Some NoCrossing)
    (cond (none && void) (Some (StationVoid station)) (cond ninth (Some NinthCrossing) (cond (not finite) (Some VelocityNotFinite) None)))

by_report : {seen : Walk} {void : Bool} → Agrees seen void → (none finite : Bool) (count : ℕ) → eqb count 0 ≡ none →
    late_cause (walk_of false seen) count finite ≡ causes none void false finite (named_station seen)
by_report none_void true finite count e = rw e
by_report none_void false true count e = rw e
by_report none_void false false count e = rw e
by_report (some_void_lem station) true finite count e = rw e
by_report (some_void_lem station) false true count e = rw e
by_report (some_void_lem station) false false count e = rw e

-- A cause that is not a void station.
other_cause : {P : Type 0} (o : Option Cause) (v : VoidStation) → (number_or_0 cause_number o ≡ void_number → ⊥) →
    o ≡ Some (StationVoid v) → P
other_cause o v h e = absurd (h (ap (number_or_0 cause_number) e))

by_cause : {seen : Walk} {void : Bool} → Agrees seen void → (none ninth finite : Bool) (v : VoidStation) →
    causes none void ninth finite (named_station seen) ≡ Some (StationVoid v) → seen ≡ SomeVoid v
by_cause none_void true ninth finite v e = other_cause (Some NoCrossing) v (λ z. omega (arith, z)) e
by_cause none_void false true finite v e = other_cause (Some NinthCrossing) v (λ z. omega (arith, z)) e
by_cause none_void false false true v e = other_cause None v (λ z. omega (arith, z)) e
by_cause none_void false false false v e = other_cause (Some VelocityNotFinite) v (λ z. omega (arith, z)) e
by_cause (some_void_lem station) true ninth finite v e = let same : station ≡ v = cc e in ap SomeVoid same
by_cause (some_void_lem station) false true finite v e = other_cause (Some NinthCrossing) v (λ z. omega (arith, z)) e
by_cause (some_void_lem station) false false true v e = other_cause None v (λ z. omega (arith, z)) e
by_cause (some_void_lem station) false false false v e = other_cause (Some VelocityNotFinite) v (λ z. omega (arith, z)) e

module _ (p : Problem) where
  -- The result of a problem's sweep: the listed brackets, their count, and the walk.
  abbrev pub found : Crossings
  found = sweep_of (sides_of p) (grid_of p) (last_place p)

  -- Whether the velocities of all listed brackets are finite.
  abbrev pub finite_found : Bool
  finite_found = every (finite_for p) (take found.count found.list)

  pub most_eight : found.count ≤ 8
  most_eight = omega (arith, counted (sides_of p) (grid_of p) (last_place p))

  all_there : crossing_count p ≤ 8 → take found.count found.list ≡ brackets_of p
  unfolding brackets_of
  all_there h = all_listed (sides_of p) (grid_of p) (last_place p) h

  few_count : crossing_count p ≤ 8 → found.count ≡ crossing_count p
  few_count h = omega (arith, counted (sides_of p) (grid_of p) (last_place p), h)

  -- The report names a void place exactly if some place is void.
  pub report_agrees : Agrees (seen_of p) (any_void p)
  unfolding seen_of some_void
  report_agrees = agrees (sides_of p) (grid_of p) (up_to (last_place p + 1))

  by_ninth : (ninth : Bool) → ltb 8 (crossing_count p) ≡ ninth →
      late_cause (walk_of ninth (seen_of p)) found.count finite_found
      ≡ causes (eqb (crossing_count p) 0) (any_void p) ninth (all_finite p) (named_station (seen_of p))
  by_ninth true e = rw (ne_eqb (crossing_count p) 0 (λ z. omega (arith, z, ltb-true 8 (crossing_count p) e)))
  by_ninth false e =
      let few = ltb-false 8 (crossing_count p) e in
      rw (all_there few, few_count few) (by_report report_agrees (eqb (crossing_count p) 0) (all_finite p) (crossing_count p) refl)

  -- Rows 11 to 14 with their numbers.
  abbrev pub late_rows : List Row
  late_rows = rows_of cause_number (late_checks p)

  pub rows_are : first_in late_rows ≡ rows (eqb (crossing_count p) 0) (any_void p) (ltb 8 (crossing_count p)) (all_finite p)
  unfolding first_in late_checks
  rows_are = refl

  causes_are : first_of (late_checks p)
      ≡ causes (eqb (crossing_count p) 0) (any_void p) (ltb 8 (crossing_count p)) (all_finite p) (named_station (seen_of p))
  unfolding first_of late_checks
  causes_are = refl

  walk_is : found.walk ≡ walk_of (ltb 8 (crossing_count p)) (seen_of p)
  unfolding sweep_of reported seen_of
  walk_is = ap (λ (n : ℕ). walk_of (ltb 8 n) (seen_of p)) (length_is (sides_of p) (grid_of p) (last_place p))

  pub cause_is : late_cause found.walk found.count finite_found ≡ first_of (late_checks p)
  cause_is =
      ap (λ (w : Walk). late_cause w found.count finite_found) walk_is
      ∙ by_ninth (ltb 8 (crossing_count p)) refl
      ∙ sym causes_are

  pub station_seen : (v : VoidStation) → first_of (late_checks p) ≡ Some (StationVoid v) → seen_of p ≡ SomeVoid v
  station_seen v e =
      by_cause report_agrees (eqb (crossing_count p) 0) (ltb 8 (crossing_count p)) (all_finite p) v (sym causes_are ∙ e)

  pub late_number : first_in late_rows ≡ number_or_0 cause_number (first_of (late_checks p))
  late_number = number_first cause_number (late_checks p)

  -- ---- The case that no row applies

  not_ninth : (none void ninth finite : Bool) → rows none void ninth finite ≡ 0 → ninth ≡ false
  not_ninth none void false finite e = refl
  not_ninth true true true finite e = absurd (omega (arith, e))
  not_ninth true false true finite e = absurd (omega (arith, e))
  not_ninth false void true finite e = absurd (omega (arith, e))

  pub few : first_in late_rows ≡ 0 → crossing_count p ≤ 8
  few e = ltb-false 8 (crossing_count p)
      (not_ninth (eqb (crossing_count p) 0) (any_void p) (ltb 8 (crossing_count p)) (all_finite p) (sym rows_are ∙ e))

  pub entries_are : crossing_count p ≤ 8 → map (entry_for p) (take found.count found.list) ≡ entries_of p
  unfolding entries_of
  entries_are h = ap (map (entry_for p)) (all_there h)

  pub count_is : crossing_count p ≤ 8 → found.count ≡ length (entries_of p)
  unfolding entries_of brackets_of
  count_is h = few_count h ∙ sym (length-map (brackets_of p) (entry_for p) ∙ length_is (sides_of p) (grid_of p) (last_place p))

  -- ---- The outcome for the problem

  pub refused_is : (cause : Cause) → first_of (late_checks p) ≡ Some cause → outcome_for p ≡ Err cause
  unfolding outcome_for
  refused_is cause e = ap (λ (o : Option Cause). unless o (length (entries_of p))) e

  pub answered_is : first_of (late_checks p) ≡ None → outcome_for p ≡ Ok (length (entries_of p))
  unfolding outcome_for
  answered_is e = ap (λ (o : Option Cause). unless o (length (entries_of p))) e

-- ---- The numbers of causes

pub cause_positive : (cause : Cause) → 0 < cause_number cause
cause_positive (Entrance f) = fault_positive f
cause_positive NoCrossing = lit< tt
cause_positive (StationVoid station) = lit< tt
cause_positive NinthCrossing = lit< tt
cause_positive VelocityNotFinite = lit< tt

pub no_cause : (o : Option Cause) → number_or_0 cause_number o ≡ 0 → o ≡ None
no_cause None e = refl
no_cause (Some cause) e = absurd (omega (arith, e, cause_positive cause))

-- Number 12 comes with a void station.
pub twelve_named : (cause : Cause) → cause_number cause ≡ void_number → (v : VoidStation) × (cause ≡ StationVoid v)
twelve_named (Entrance f) e = absurd (omega (arith, e, fault_most f))
twelve_named NoCrossing e = absurd (omega (arith, e))
twelve_named (StationVoid station) e = (station, refl)
twelve_named NinthCrossing e = absurd (omega (arith, e))
twelve_named VelocityNotFinite e = absurd (omega (arith, e))
