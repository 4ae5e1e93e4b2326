-- The time at one place: steps 1 to 7 in their order (01, Time at one place). Definitions only.
use Rattle.std.specs.Prelude.{ℕ, ◌+◌, Bool, true, false, not, ℤ, Float, Result, Ok, Err}
use Rattle.float64.specs.Notation.{bits_of}
use Rattle.float64.specs.Value.{finite_of}
use Rattle.geometry.specs.declared.Triangle.{Triangle}
use Rattle.hypergeometric.specs.Reasons.{reason_number}
use Rattle.hypergeometric.specs.Steps.{then, half_angles_of, g_of}
use Rattle.flight_time.specs.Steps.{outside_range, x_of, u_of, direct_of, with_revolutions}
use Rattle.hypergeometric.specs.declared.reasons.Reason.{Reason}
use Rattle.hypergeometric.specs.declared.reasons.Reason.TheVariants.{OutsideRange, NotFinite}
use Rattle.flight_time.specs.declared.Place.{Place}
use Rattle.flight_time.specs.declared.Place.TheVariants.{Timed, Void}

-- Void for the given reason if a test is true, and the given result otherwise.
abbrev pub void_if : Bool → Reason → Result Float Reason → Result Float Reason
void_if true reason result = Err reason
void_if false reason result = result

-- The given time, or void if it is not finite. This is the last test.
abbrev pub if_finite : Float → Result Float Reason
if_finite time = void_if (not (finite_of time)) NotFinite (Ok time)

-- Steps 1 to 7 for the given L, at the place k with the given number of whole revolutions. The result is a time, or the first reason
-- that the steps meet.
unfoldable pub steps_of : Float → ℤ → ℕ → Result Float Reason
steps_of L k revolutions =
    void_if (outside_range L k revolutions) OutsideRange
    (let x = x_of k in
    let u = u_of x in
    then (half_angles_of L x u) (λ angles.
    then (g_of angles) (λ g.
    then (with_revolutions (direct_of L angles.eta g) u revolutions) if_finite)))

-- A place has the time that the steps give, or it is void for the reason that they give.
abbrev pub as_place : Result Float Reason → Place
as_place (Ok time) = Timed time
as_place (Err reason) = Void reason

-- The time at the place k of a triangle, with the given number of whole revolutions. It is a finite number, or void for
-- the first reason that the steps meet.
unfoldable pub time_of : Triangle → ℤ → ℕ → Place
time_of t k revolutions = as_place (steps_of t.lambda k revolutions)

-- The bits of a time. For a void place they are those of the first quiet NaN plus the number of the reason. This is our
-- own choice: the result is the pattern of a NaN, and no time of `time_of` is a NaN.
unfoldable pub place_bits : Place → ℕ
place_bits (Timed t) = bits_of t
place_bits (Void reason) = 0x7FF8_0000_0000_0000 + reason_number reason
