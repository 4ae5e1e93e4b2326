-- The entry of a bracket (01, Stations, sides, crossings; Velocities): its chosen end and the velocities there. Definitions only.
use Rattle.std.specs.Prelude.{ℕ, ◌-◌, Bool, true, false, cond, ◌&&◌, List, [], ◌∷◌, ◌++◌, ℤ, pos, Float, length, replicate}
use Rattle.float64.specs.Notation.{0F}
use Rattle.float64.specs.declared.Vector.{Vector}
use Rattle.records.specs.Layout.{most_entries}
use Rattle.records.specs.declared.Entry.{Entry}
use Rattle.entrance.specs.declared.Problem.{Problem}
use Rattle.flight_time.specs.Time.{time_of}
use Rattle.flight_time.specs.declared.Place.{Place}
use Rattle.flight_time.specs.declared.Place.TheVariants.{Timed, Void}
use Rattle.bisection.specs.declared.Bracket.{Bracket}
use Rattle.velocity.specs.Chosen.{upper_chosen, vector_finite}
use Rattle.velocity.specs.Velocities.{velocities_of}
use Rattle.velocity.specs.declared.Velocities.{Velocities}

-- The time at each place of a problem, or void.
unfoldable pub place_of : Problem → ℤ → Place
place_of p k = time_of p.triangle k p.revolutions

-- Whether the upper end is chosen, given the results at both ends, each a time or void. If one of them is void, the lower end is chosen.
-- No end of a crossing's bracket is void.
abbrev pub upper_of : Place → Place → Float → Bool
upper_of (Timed lower) (Timed upper) wanted = upper_chosen lower upper wanted
upper_of (Timed lower) (Void reason) wanted = false
upper_of (Void reason) upper wanted = false

-- Whether the upper end of a bracket is chosen.
unfoldable pub takes_upper : Problem → Bracket → Bool
takes_upper p b = upper_of (place_of p b.lower) (place_of p b.upper) p.wanted

-- The velocities at a place of a problem.
unfoldable pub velocities_at : Problem → ℤ → Velocities
velocities_at p k = velocities_of p.mu p.triangle p.radius1 p.radius2 p.frame k

-- The velocities at the chosen end of a bracket.
unfoldable pub velocities_for : Problem → Bracket → Velocities
velocities_for p b = velocities_at p (cond (takes_upper p b) b.upper b.lower)

-- The number of the chosen end on the wire: 0 for the lower end, 1 for the upper end.
abbrev pub end_number : Bool → ℕ
end_number upper = cond upper 1 0

-- The entry of a bracket.
unfoldable pub entry_for : Problem → Bracket → Entry
entry_for p b =
    record {
      lower = b.lower;
      halvings = b.halvings;
      chosen = end_number (takes_upper p b);
      v1 = (velocities_for p b).v1;
      v2 = (velocities_for p b).v2;
    }

-- An unused element of the list of entries.
abbrev pub unused : Entry
unused =
    let none : Vector = record { x = 0F; y = 0F; z = 0F } in
    record {
      lower = pos 0;
      halvings = 0;
      chosen = 0;
      v1 = none;
      v2 = none;
    }

-- A list of `most_entries` elements that begins with the given entries, at most that many, and continues with unused elements.
abbrev pub places : List Entry → List Entry
places es = es ++ replicate (most_entries - length es) unused

-- Whether the velocities of an entry are finite.
abbrev pub entry_finite : Entry → Bool
entry_finite e = vector_finite e.v1 && vector_finite e.v2

-- Whether the velocities of a bracket's entry are finite.
unfoldable pub finite_for : Problem → Bracket → Bool
finite_for p b = entry_finite (entry_for p b)

-- Whether every element of a list passes a test.
unfoldable pub every : {A : Type 0} → (A → Bool) → List A → Bool
every test [] = true
every test (x ∷ xs) = test x && every test xs
