-- The results of private functions: the cause that follows from the sweep and from whether all velocities are finite.
use Rattle.std.specs.Prelude.{ℕ, Bool, cond, eqb, Option, Some, None}
use Rattle.sweep.specs.declared.walks.Walk.{Walk}
use Rattle.sweep.specs.declared.walks.Walk.TheVariants.{AllTimed, SomeVoid, NinthFound}
use Rattle.solver.specs.declared.Cause.{Cause}
use Rattle.solver.specs.declared.Cause.TheVariants.{NoCrossing, StationVoid, NinthCrossing, VelocityNotFinite}

-- The cause of number 14 if some velocity is not finite.
abbrev pub velocity_cause : Bool → Option Cause
velocity_cause finite = cond finite None (Some VelocityNotFinite)

-- The cause of a number from 11 to 14 that follows from the walk, the count of crossings and whether all velocities are finite, if there
-- is one.
abbrev pub late_cause : Walk → ℕ → Bool → Option Cause
late_cause AllTimed count finite = cond (eqb count 0) (Some NoCrossing) (velocity_cause finite)
late_cause (SomeVoid station) count finite = cond (eqb count 0) (Some (StationVoid station)) (velocity_cause finite)
late_cause NinthFound count finite = Some NinthCrossing
