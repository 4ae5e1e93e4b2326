-- The reason why a place is void, stated as a plain list of tests (02, A4): what the steps of 01 (Time at one place) ask, in their order.
-- The first test that applies gives the reason, and the place has a time if none applies. Every number is computed whatever the tests say:
-- a refused root counts as a NaN, and a quotient by zero is the f64 quotient. Definitions only.
use Rattle.std.specs.Prelude.{ℕ, zero, suc, ◌≡◌, Bool, true, false, not, cond, List, [], ◌∷◌, ◌++◌, ℤ, pos, Float, Option, Some, None}
use Rattle.std.specs.Float.{nan}
use Rattle.float64.specs.Notation.{◌⊕◌, ◌⊗◌, ◌⊘◌, ◌≈◌, float, 0F, 3F, 4F}
use Rattle.float64.specs.Value.{finite_of}
use Rattle.float64.specs.Root.{root_of}
use Rattle.geometry.specs.declared.Triangle.{Triangle}
use Rattle.hypergeometric.specs.Steps.{y_of, eta_of, c1_of, next_c, s4_of, series_of}
use Rattle.hypergeometric.specs.declared.reasons.Reason.{Reason}
use Rattle.hypergeometric.specs.declared.reasons.Reason.TheVariants.{OutsideRange, RefusedRoot, ZeroDivisor, NotFinite}
use Rattle.hypergeometric.specs.declared.Angles.{Angles}
use Rattle.flight_time.specs.Steps.{outside_range, x_of, u_of, direct_of, πF}
use Rattle.flight_time.specs.declared.Place.{Place}
use Rattle.flight_time.specs.declared.Place.TheVariants.{Timed, Void}

-- ---- tests in an order
-- A test that makes a place void if it applies, and the reason that it then gives.
pub record Test : Type 0 where
  pub reason : Reason
  pub applies : Bool

-- Void for the reason of the first test of the list that applies. If none applies, the place has the given time.
unfoldable pub place_after : List Test → Float → Place
place_after [] time = Timed time
place_after (test ∷ others) time = cond test.applies (Void test.reason) (place_after others time)

-- The first test of the list that applies has the given reason.
pub data FirstApplies : List Test → Reason → Type 0 where
  here : {test : Test} {others : List Test} {reason : Reason} → test.applies ≡ true → test.reason ≡ reason →
      FirstApplies (test ∷ others) reason
  later : {test : Test} {others : List Test} {reason : Reason} → test.applies ≡ false → FirstApplies others reason →
      FirstApplies (test ∷ others) reason

-- No test of the list applies.
pub data NoneApplies : List Test → Type 0 where
  empty : NoneApplies []
  nor : {test : Test} {others : List Test} → test.applies ≡ false → NoneApplies others → NoneApplies (test ∷ others)

-- ---- the numbers of the steps
-- Whether a root is refused.
unfoldable pub root_refused : Option Float → Bool
root_refused (Some r) = false
root_refused None = true

-- The number of a root. A refused root counts as a NaN.
unfoldable pub root_number : Option Float → Float
root_number (Some r) = r
root_number None = nan

-- Steps 2 and 3: η, and C_n and w_n for n = 1, 2, 3.
unfoldable pub angle_numbers : Float → Float → Float → Angles
angle_numbers L x u =
    let η = eta_of L x (root_number (y_of L u)) in
    let c1 = c1_of L x η in
    let w1 = root_number (root_of c1) in
    let c2 = next_c w1 in
    let w2 = root_number (root_of c2) in
    let c3 = next_c w2 in
    let w3 = root_number (root_of c3) in
    record { eta = η; c1 = c1; w1 = w1; c2 = c2; w2 = w2; c3 = c3; w3 = w3 }

-- Step 5 for one n: (3 + G/w_n)/(4·C_n).
unfoldable pub back_number : Float → Float → Float → Float
back_number g w c = (3F ⊕ g ⊘ w) ⊘ (4F ⊗ c)

-- Steps 4 and 5: the series at S4, then back through n = 3, 2, 1.
unfoldable pub g_number : Angles → Float
g_number a =
    let g3 = back_number (series_of (s4_of a.w3)) a.w3 a.c3 in
    let g2 = back_number g3 a.w2 a.c2 in
    back_number g2 a.w1 a.c1

-- Step 7: the divisor u·√u.
unfoldable pub revolving_divisor : Float → Float
revolving_divisor u = u ⊗ root_number (root_of u)

-- Step 7: the time with M whole revolutions.
unfoldable pub revolved_number : Float → Float → ℕ → Float
revolved_number direct u zero = direct
revolved_number direct u (suc m) = direct ⊕ (float (pos (suc m)) ⊗ πF) ⊘ revolving_divisor u

-- The time at the place k by all the steps.
unfoldable pub time_number : Triangle → ℤ → ℕ → Float
time_number t k revolutions =
    let L = t.lambda in
    let x = x_of k in
    let u = u_of x in
    let a = angle_numbers L x u in
    revolved_number (direct_of L a.eta (g_number a)) u revolutions

-- ---- the tests of the steps
-- Step 1.
unfoldable pub range_test : Float → ℤ → ℕ → Test
range_test L k revolutions = record { reason = OutsideRange; applies = outside_range L k revolutions }

-- A root that can be refused.
unfoldable pub root_test : Option Float → Test
root_test root = record { reason = RefusedRoot; applies = root_refused root }

-- A divisor that can be zero.
unfoldable pub divisor_test : Float → Test
divisor_test d = record { reason = ZeroDivisor; applies = d ≈ 0F }

-- A result that can be an infinity or a NaN.
unfoldable pub finite_test : Float → Test
finite_test time = record { reason = NotFinite; applies = not (finite_of time) }

-- Step 7: the root and the divisor for M ≥ 1. For M = 0 it asks nothing.
unfoldable pub revolving_tests : Float → ℕ → List Test
revolving_tests u zero = []
revolving_tests u (suc m) = root_test (root_of u) ∷ divisor_test (revolving_divisor u) ∷ []

-- All tests at the place k, in the order of 01. Steps 4 and 6 ask nothing.
unfoldable pub tests_of : Triangle → ℤ → ℕ → List Test
tests_of t k revolutions =
    let L = t.lambda in
    let x = x_of k in
    let u = u_of x in
    let a = angle_numbers L x u in
    -- Steps 1 and 2: the range, then the root y.
    range_test L k revolutions ∷ root_test (y_of L u)
    -- Step 3: the roots w1, w2, w3.
    ∷ root_test (root_of a.c1) ∷ root_test (root_of a.c2) ∷ root_test (root_of a.c3)
    -- Step 5 for n = 3, 2, 1: the divisors w_n and 4·C_n.
    ∷ divisor_test a.w3 ∷ divisor_test (4F ⊗ a.c3)
    ∷ divisor_test a.w2 ∷ divisor_test (4F ⊗ a.c2)
    ∷ divisor_test a.w1 ∷ divisor_test (4F ⊗ a.c1)
    -- Step 7, and last whether the result is finite.
    ∷ revolving_tests u revolutions ++ (finite_test (time_number t k revolutions) ∷ [])
