-- Rows 11 to 14 of 01's table of refusals. They are defined for every problem, and they count only if no entrance check applies.
-- Definitions only.
use Rattle.std.specs.Prelude.{ℕ, Bool, not, ◌&&◌, List, [], ◌∷◌, eqb, ltb, pos, length}
use Rattle.records.specs.Layout.{void_number}
use Rattle.entrance.specs.Judge.{Check, check, fault_number}
use Rattle.entrance.specs.declared.Problem.{Problem}
use Rattle.sweep.specs.Crossings.{crossings, some_void}
use Rattle.entries.specs.Entries.{finite_for, every}
use Rattle.hypergeometric.specs.declared.reasons.Reason.TheVariants.{OutsideRange}
use Rattle.sweep.specs.declared.walks.VoidStation.{VoidStation}
use Rattle.sweep.specs.declared.walks.Walk.{Walk}
use Rattle.sweep.specs.declared.walks.Walk.TheVariants.{AllTimed, SomeVoid, NinthFound}
use Rattle.solver.specs.Crossed.{sides_of, grid_of, last_place, seen_of, brackets_of}
use Rattle.solver.specs.declared.Cause.{Cause}
use Rattle.solver.specs.declared.Cause.TheVariants.{Entrance, NoCrossing, StationVoid, NinthCrossing, VelocityNotFinite}

-- The number of each cause in 01's table.
abbrev pub cause_number : Cause → ℕ
cause_number (Entrance f) = fault_number f
cause_number NoCrossing = 11
cause_number (StationVoid station) = void_number
cause_number NinthCrossing = 13
cause_number VelocityNotFinite = 14

-- How many crossings there are.
abbrev pub crossing_count : Problem → ℕ
crossing_count p = length (crossings (sides_of p) (grid_of p) (last_place p))

-- Whether some place of the grid is void.
abbrev pub any_void : Problem → Bool
any_void p = some_void (sides_of p) (grid_of p) (last_place p)

-- Whether all velocities at the chosen ends are finite.
abbrev pub all_finite : Problem → Bool
all_finite p = every (finite_for p) (brackets_of p)

-- The station that a report about the times at all places names: the first void one, with the reason why it is void (02, A4). If no place
-- is void, row 12 does not apply, so the station given then is of no use.
abbrev pub named_station : Walk → VoidStation
named_station (SomeVoid station) = station
named_station AllTimed = record { j = pos 0; reason = OutsideRange }
named_station NinthFound = record { j = pos 0; reason = OutsideRange }

-- 11: no crossing, and every station has a time. 12: no crossing, and at least one station is void. 13: more than 8 crossings. 14: a
-- velocity component of some entry is not finite.
unfoldable pub late_checks : Problem → List (Check Cause)
late_checks p =
    check NoCrossing (eqb (crossing_count p) 0 && not (any_void p))
    ∷ check (StationVoid (named_station (seen_of p))) (eqb (crossing_count p) 0 && any_void p)
    ∷ check NinthCrossing (ltb 8 (crossing_count p))
    ∷ check VelocityNotFinite (not (all_finite p))
    ∷ []
