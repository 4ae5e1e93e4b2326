-- If a place has a time, that time is finite (`timed_finite`), never an infinity or a NaN. The proof follows the steps of `steps_of`. The
-- last step makes the place void if its time is not finite.
use Prim.Native.Nat.{ℕ}
use mathlib.Core.Path.{◌≡◌, refl, sym, ◌∙◌, subst}
use mathlib.Core.Bool.{Bool, true, false, not}
use native.Mathlib.Omega.{arith}
use lib.IntN.{ℤ}
use lib.Ieee.{Float}
use Rattle.std.specs.Prelude.{Result, Ok, Err}
use Rattle.float64.specs.Value.{finite_of}
use Rattle.geometry.specs.declared.Triangle.{Triangle}
use Rattle.hypergeometric.specs.Steps.{then, half_angles_of, g_of}
use Rattle.flight_time.specs.Steps.{outside_range, x_of, u_of, direct_of, with_revolutions}
use Rattle.flight_time.specs.Time.{void_if, steps_of, as_place, time_of}
use Rattle.hypergeometric.specs.declared.reasons.Reason.{Reason}
use Rattle.hypergeometric.specs.declared.reasons.Reason.TheVariants.{OutsideRange, NotFinite}
use Rattle.flight_time.specs.declared.Place.TheVariants.{Timed, Void}

-- If the result is a time, that time is finite.
abbrev Finite : Result Float Reason → Type 0
Finite r = (time : Float) → r ≡ Ok time → finite_of time ≡ true

no_time : (reason : Reason) → Finite (Err reason)
no_time reason time e = let z : ◌≡◌ {A = ℕ} 0 1 = cc in absurd (zero_one z)
  where
    zero_one : ◌≡◌ {A = ℕ} 0 1 → ⊥
    zero_one e' = omega arith

last_test : (time : Float) (b : Bool) → finite_of time ≡ b → Finite (void_if (not b) NotFinite (Ok time))
last_test time true h other e = subst (λ (x : Float). finite_of x ≡ true) (cc) h
last_test time false h other e = no_time NotFinite other e

if_not : (b : Bool) (reason : Reason) (r : Result Float Reason) → Finite r → Finite (void_if b reason r)
if_not true reason r f = no_time reason
if_not false reason r f = f

by_step : {A : Type 0} (s : Result A Reason) (next : A → Result Float Reason) → ((x : A) → Finite (next x)) → Finite (then s next)
by_step (Ok x) next f = f x
by_step (Err reason) next f = no_time reason

steps_finite : (L : Float) (k : ℤ) (revolutions : ℕ) → Finite (steps_of L k revolutions)
unfolding steps_of
steps_finite L k revolutions =
    let u = u_of (x_of k) in
    if_not (outside_range L k revolutions) OutsideRange _
    (by_step (half_angles_of L (x_of k) u) _ (λ v.
    by_step (g_of v) _ (λ g.
    by_step (with_revolutions (direct_of L v.eta g) u revolutions) _ (λ x.
    last_test x (finite_of x) refl))))

-- Only a time makes a place that has this time.
timed_by : (r : Result Float Reason) (time : Float) → as_place r ≡ Timed time → r ≡ Ok time
timed_by (Ok x) time e = cc
timed_by (Err reason) time e = absurd (let z : ◌≡◌ {A = ℕ} 0 1 = cc in zero_one z)
  where
    zero_one : ◌≡◌ {A = ℕ} 0 1 → ⊥
    zero_one e' = omega arith

pub timed_finite : (t : Triangle) (k : ℤ) (revolutions : ℕ) (time : Float) → time_of t k revolutions ≡ Timed time → finite_of time ≡ true
unfolding time_of
timed_finite t k revolutions time e =
    steps_finite t.lambda k revolutions time (timed_by (steps_of t.lambda k revolutions) time e)
