-- `time_of` gives the same place as the list of tests (`first_reason`), because the steps give the same result as the list
-- (`steps_result`). So a place is void for a reason exactly if the first test that
-- applies has that reason (`void_first`), and it has a time exactly if no test applies (`timed_none`).
-- The steps are followed from the last to the first. The invariant is that the steps that remain give the same result as the tests that
-- remain. The lemma of a step takes this for what follows the step, and shows it with the test of the step in front.
use Prim.Native.Nat.{ℕ, zero, suc}
use mathlib.Core.Path.{◌≡◌, refl, sym, ap, ◌∙◌}
use mathlib.Core.Bool.{Bool, true, false, not, cond}
use mathlib.Core.List.{List, [], ◌∷◌, ◌++◌}
use mathlib.Core.Logic.{◌↔◌}
use native.Mathlib.Omega.{arith}
use lib.Dec.{eqb-suc-zero}
use lib.IntN.{ℤ, pos}
use lib.Ieee.{Float}
use Rattle.float64.specs.Notation.{◌⊕◌, ◌⊗◌, ◌⊘◌, ◌≈◌, float, 0F, 4F}
use Rattle.float64.specs.Value.{finite_of}
use Rattle.float64.specs.Root.{root_of}
use Rattle.std.specs.Prelude.{Option, Some, None, Result, Ok, Err}
use Rattle.geometry.specs.declared.Triangle.{Triangle}
use Rattle.hypergeometric.specs.Steps.{
  after_root,
  dividing,
  then,
  y_of,
  eta_of,
  c1_of,
  next_c,
  half_angles_of,
  s4_of,
  series_of,
  back_of,
  g_of,
}
use Rattle.hypergeometric.specs.declared.reasons.Reason.{Reason}
use Rattle.hypergeometric.specs.declared.reasons.Reason.TheVariants.{ZeroDivisor, NotFinite}
use Rattle.hypergeometric.specs.declared.Angles.{Angles}
use Rattle.flight_time.specs.Steps.{x_of, u_of, direct_of, πF, with_revolutions}
use Rattle.flight_time.specs.Time.{void_if, if_finite, steps_of, as_place, time_of}
use Rattle.flight_time.specs.declared.Place.{Place}
use Rattle.flight_time.specs.declared.Place.TheVariants.{Timed, Void}
use Rattle.crossing_laws.specs.StepTests.{
  Test,
  place_after,
  FirstApplies,
  here,
  later,
  NoneApplies,
  empty,
  nor,
  root_refused,
  root_number,
  angle_numbers,
  back_number,
  g_number,
  revolving_divisor,
  revolved_number,
  time_number,
  range_test,
  root_test,
  divisor_test,
  finite_test,
  revolving_tests,
  tests_of,
}

-- ---- one step
-- The result of the steps.
abbrev Steps : Type 0
Steps = Result Float Reason

-- The result that a test gives if `rest` is the result that the tests after it give.
abbrev before : Test → Steps → Steps
before test rest = cond test.applies (Err test.reason) rest

-- Step 1, and the last test.
test_step : (test : Test) {left right : Steps} → left ≡ right → void_if test.applies test.reason left ≡ before test right
test_step test {left} {right} e = by test.applies
  where
    by : (b : Bool) → void_if b test.reason left ≡ cond b (Err test.reason) right
    by true = refl
    by false = e

-- A root of step 2, 3 or 7.
root_step : {A : Type 0} (root : Option Float) (next : Float → Result A Reason) (rest : A → Steps) {result : Steps} →
    then (next (root_number root)) rest ≡ result →
    then (after_root root next) rest ≡ before (root_test root) result
unfolding root_test root_number root_refused
root_step (Some r) next rest e = e
root_step None next rest e = refl

-- A divisor of steps 5 and 7.
dividing_step : (d : Float) (next : Steps) (rest : Float → Steps) {result : Steps} →
    then next rest ≡ result → then (dividing d next) rest ≡ before (divisor_test d) result
unfolding divisor_test
dividing_step d next rest {result} e = by (d ≈ 0F)
  where
    by : (b : Bool) → then (cond b (Err ZeroDivisor) next) rest ≡ cond b (Err ZeroDivisor) result
    by true = refl
    by false = e

-- Two steps in sequence. They add no test.
then_step : (s : Steps) (next : Float → Steps) (rest : Float → Steps) {result : Steps} →
    then s (λ x. then (next x) rest) ≡ result → then (then s next) rest ≡ result
then_step (Ok x) next rest e = e
then_step (Err reason) next rest e = e

-- ---- steps 2 and 3
-- The roots w1, w2 and w3.
abbrev before_roots : Angles → Steps → Steps
before_roots a result = before (root_test (root_of a.c1)) (before (root_test (root_of a.c2)) (before (root_test (root_of a.c3)) result))

angles_step : (L x u : Float) (rest : Angles → Steps) {result : Steps} → rest (angle_numbers L x u) ≡ result →
    then (half_angles_of L x u) rest ≡ before (root_test (y_of L u)) (before_roots (angle_numbers L x u) result)
unfolding half_angles_of angle_numbers
angles_step L x u rest e =
    let a = angle_numbers L x u in
    let from-w3 = root_step (root_of a.c3) (known a.eta a.w1 a.w2) rest e in
    let from-w2 = root_step (root_of a.c2) (after_w2 a.eta a.w1) rest from-w3 in
    let from-w1 = root_step (root_of a.c1) (after_w1 a.eta) rest from-w2 in
    root_step (y_of L u) after_y rest from-w1
  where
    -- The steps after the root w3, and those after w2, w1 and y.
    known : Float → Float → Float → Float → Result Angles Reason
    known η w1 w2 w3 = Ok (record { eta = η; c1 = c1_of L x η; w1 = w1; c2 = next_c w1; w2 = w2; c3 = next_c w2; w3 = w3 })

    after_w2 : Float → Float → Float → Result Angles Reason
    after_w2 η w1 w2 = after_root (root_of (next_c w2)) (known η w1 w2)

    after_w1 : Float → Float → Result Angles Reason
    after_w1 η w1 = after_root (root_of (next_c w1)) (after_w2 η w1)

    after_y : Float → Result Angles Reason
    after_y y = let η = eta_of L x y in after_root (root_of (c1_of L x η)) (after_w1 η)

-- ---- step 5
-- The two divisors of one n.
abbrev before_divisors : Float → Float → Steps → Steps
before_divisors w c result = before (divisor_test w) (before (divisor_test (4F ⊗ c)) result)

back_step : (g w c : Float) (rest : Float → Steps) {result : Steps} →
    rest (back_number g w c) ≡ result → then (back_of g w c) rest ≡ before_divisors w c result
unfolding back_of back_number
back_step g w c rest e =
    let quotient : Steps = Ok (back_number g w c) in
    dividing_step w (dividing (4F ⊗ c) quotient) rest (dividing_step (4F ⊗ c) quotient rest e)

g_step : (a : Angles) (rest : Float → Steps) {result : Steps} → rest (g_number a) ≡ result →
    then (g_of a) rest ≡ before_divisors a.w3 a.c3 (before_divisors a.w2 a.c2 (before_divisors a.w1 a.c1 result))
unfolding g_of g_number
g_step a rest e =
    let g4 = series_of (s4_of a.w3) in
    let g3 = back_number g4 a.w3 a.c3 in
    let g2 = back_number g3 a.w2 a.c2 in
    let back1 = back_step g2 a.w1 a.c1 rest e in
    let back2 = back_step g3 a.w2 a.c2 (λ g. then (after_g2 g) rest) back1 in
    let from-g3 = then_step (back_of g3 a.w2 a.c2) after_g2 rest back2 in
    let back3 = back_step g4 a.w3 a.c3 (λ g. then (after_g3 g) rest) from-g3 in
    then_step (back_of g4 a.w3 a.c3) after_g3 rest back3
  where
    -- The steps after n = 2, and those after n = 3.
    after_g2 : Float → Steps
    after_g2 g2 = back_of g2 a.w1 a.c1

    after_g3 : Float → Steps
    after_g3 g3 = then (back_of g3 a.w2 a.c2) after_g2

-- ---- step 7
-- The result of the first test of the list that applies, or the given time if none applies.
unfoldable result_after : List Test → Float → Steps
result_after [] time = Ok time
result_after (test ∷ others) time = before test (result_after others time)

revolving_step : (direct u : Float) (m : ℕ) (rest : Float → Steps) (tests : List Test) (time : Float) →
    rest (revolved_number direct u m) ≡ result_after tests time →
    then (with_revolutions direct u m) rest ≡ result_after (revolving_tests u m ++ tests) time
unfolding with_revolutions revolved_number revolving_divisor revolving_tests result_after
revolving_step direct u zero rest tests time e = e
revolving_step direct u (suc m) rest tests time e =
    let divided = dividing_step (revolving_divisor u) (Ok (revolved_number direct u (suc m))) rest e in
    rw (eqb-suc-zero m) (root_step (root_of u) divided_by rest divided)
  where
    -- The division that follows the root.
    divided_by : Float → Steps
    divided_by root = dividing (u ⊗ root) (Ok (direct ⊕ (float (pos (suc m)) ⊗ πF) ⊘ (u ⊗ root)))

-- ---- all steps
steps_result : (t : Triangle) (k : ℤ) (revolutions : ℕ) →
    steps_of t.lambda k revolutions ≡ result_after (tests_of t k revolutions) (time_number t k revolutions)
unfolding steps_of result_after tests_of range_test finite_test time_number
steps_result t k revolutions =
    let L = t.lambda in
    let x = x_of k in
    let u = u_of x in
    let a = angle_numbers L x u in
    let direct = direct_of L a.eta (g_number a) in
    let time = time_number t k revolutions in
    let finite = test_step (finite_test time) refl in
    let revolved = revolving_step direct u revolutions if_finite (finite_test time ∷ []) time finite in
    let undone = g_step a (after_g a) revolved in
    let angles = angles_step L x u after_angles undone in
    test_step (range_test L k revolutions) angles
  where
    -- The steps after G and those after the angles.
    after_g : Angles → Float → Steps
    after_g a g = then (with_revolutions (direct_of t.lambda a.eta g) (u_of (x_of k)) revolutions) if_finite

    after_angles : Angles → Steps
    after_angles a = then (g_of a) (after_g a)

-- The place of a list of tests is the place for its result.
place_is : (tests : List Test) (time : Float) → as_place (result_after tests time) ≡ place_after tests time
unfolding result_after place_after
place_is [] time = refl
place_is (test ∷ others) time = by (place_is others time) test.applies
  where
    by : as_place (result_after others time) ≡ place_after others time → (b : Bool) →
        as_place (cond b (Err test.reason) (result_after others time)) ≡ cond b (Void test.reason) (place_after others time)
    by rest true = refl
    by rest false = rest

pub first_reason : (t : Triangle) (k : ℤ) (revolutions : ℕ) →
    time_of t k revolutions ≡ place_after (tests_of t k revolutions) (time_number t k revolutions)
unfolding time_of
first_reason t k revolutions =
    let tests = tests_of t k revolutions in
    let time = time_number t k revolutions in
    ap as_place (steps_result t k revolutions) ∙ place_is tests time

-- ---- the first test that applies, for any list of tests
module _ (time : Float) where
  first_by : (tests : List Test) (reason : Reason) → place_after tests time ≡ Void reason → FirstApplies tests reason
  unfolding place_after
  first_by [] reason e = absurd (let z : ◌≡◌ {A = ℕ} 0 1 = cc e in omega (arith, z))
  first_by (test ∷ others) reason e = by (first_by others reason) test.applies refl e
    where
      by : (place_after others time ≡ Void reason → FirstApplies others reason) →
          (b : Bool) → test.applies ≡ b → cond b (Void test.reason) (place_after others time) ≡ Void reason →
          FirstApplies (test ∷ others) reason
      by rest true a v = let same : test.reason ≡ reason = cc v in here a same
      by rest false a v = later a (rest v)

  void_by : {tests : List Test} {reason : Reason} → FirstApplies tests reason → place_after tests time ≡ Void reason
  unfolding place_after
  void_by (here a e) = rw a (ap Void e)
  void_by (later a f) = rw a (void_by f)

  none_by : (tests : List Test) (other : Float) → place_after tests time ≡ Timed other → NoneApplies tests
  unfolding place_after
  none_by [] other e = empty
  none_by (test ∷ others) other e = by (none_by others other) test.applies refl e
    where
      by : (place_after others time ≡ Timed other → NoneApplies others) →
          (b : Bool) → test.applies ≡ b → cond b (Void test.reason) (place_after others time) ≡ Timed other →
          NoneApplies (test ∷ others)
      by rest true a v = absurd (let z : ◌≡◌ {A = ℕ} 0 1 = cc v in omega (arith, z))
      by rest false a v = nor a (rest v)

  timed_by : {tests : List Test} → NoneApplies tests → place_after tests time ≡ Timed time
  unfolding place_after
  timed_by empty = refl
  timed_by (nor a n) = rw a (timed_by n)

-- ---- what this says about a place
-- A place is void for a reason exactly if the first test that applies has this reason.
pub void_first : (t : Triangle) (k : ℤ) (revolutions : ℕ) (reason : Reason) →
    (time_of t k revolutions ≡ Void reason) ↔ FirstApplies (tests_of t k revolutions) reason
void_first t k revolutions reason =
    let tests = tests_of t k revolutions in
    let time = time_number t k revolutions in
    let same = first_reason t k revolutions in
    (λ e. first_by time tests reason (sym same ∙ e), λ f. same ∙ void_by time f)

-- A place has a time exactly if no test applies.
pub timed_none : (t : Triangle) (k : ℤ) (revolutions : ℕ) →
    ((time : Float) × (time_of t k revolutions ≡ Timed time)) ↔ NoneApplies (tests_of t k revolutions)
timed_none t k revolutions =
    let tests = tests_of t k revolutions in
    let time = time_number t k revolutions in
    let same = first_reason t k revolutions in
    (λ timed. none_by time tests timed.0 (sym same ∙ timed.1), λ n. (time, same ∙ timed_by time n))
