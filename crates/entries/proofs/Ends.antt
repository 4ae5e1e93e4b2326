-- The chosen end of a bracket's entry is 0 or 1 (`entry_names`). The entry fits its fields on the wire if the bracket's lower end and
-- halvings do (`bracket_entry_held`). The components of a velocity always fit, because they are results of rounded sums.
use mathlib.Core.Bool.{Bool, true, false}
use Prim.Native.Nat.{◌^◌, ◌≤◌, ◌<◌}
use native.Mathlib.Omega.{arith}
use lib.Ieee.{Float, binary64}
use lib.Ieee.Fits.{add-fits}
use mir.Syntax.{w64}
use mir.Val.{SFits}
use Rattle.float64.specs.declared.Vector.{Vector}
use Rattle.records.specs.Ranges.{VectorHeld, EntryHeld}
use Rattle.entrance.specs.declared.Problem.{Problem}
use Rattle.bisection.specs.declared.Bracket.{Bracket}
use Rattle.velocity.specs.Velocities.{velocity_of, velocities_of}
use Rattle.entries.specs.Entries.{takes_upper, velocities_at, velocities_for, end_number, entry_for}

end_most : (upper : Bool) → end_number upper ≤ 1
end_most true = omega arith
end_most false = omega arith

pub entry_names : (p : Problem) (r : Bracket) → (entry_for p r).chosen ≤ 1
unfolding entry_for
entry_names p r = end_most (takes_upper p r)

vector_held : (radial transverse : Float) (n u : Vector) → VectorHeld (velocity_of radial transverse n u)
unfolding velocity_of
vector_held radial transverse n u = record { x = add-fits binary64 _ _; y = add-fits binary64 _ _; z = add-fits binary64 _ _ }

pub bracket_entry_held : (p : Problem) (r : Bracket) → SFits w64 r.lower → r.halvings < 2 ^ 32 → EntryHeld (entry_for p r)
unfolding entry_for velocities_for velocities_at velocities_of
bracket_entry_held p r lower halvings =
    record {
      lower = lower;
      halvings = halvings;
      chosen = omega (arith, entry_names p r);
      v1 = vector_held _ _ _ _;
      v2 = vector_held _ _ _ _;
    }
