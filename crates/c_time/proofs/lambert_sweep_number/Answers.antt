-- `lambert_sweep_number` meets its contract. This follows from the contracts of the functions that it calls. The sum
-- does not overflow, because a sweep lists at most eight crossings, and `walk_number` leaves room for them.
use Prim.Native.Nat.{ℕ, ◌≤◌, ◌+◌}
use mathlib.Core.Path.{◌≡◌, sym, ap, subst, ◌∙◌}
use native.Mathlib.Omega.{arith}
use lib.IntN.{ℤ}
use Rattle.stations.specs.Grid.{Grid}
use Rattle.sweep.specs.Crossings.{reported, sweep_of, sweep_for}
use Rattle.sweep.specs.declared.Crossings.{Crossings}
use Rattle.stations.specs.declared.side.Side.{Side}
use Rattle.c_time.specs.SweepNumber.{found_number, search_for, sweep_number_of}
use Rattle.c_time.proofs.lambert_sweep_number.Goals as goal
use Rattle.c_time.proofs.lambert_sweep_number.Goals.{After-find_crossings-found}

count_small : (σ : ℤ → Side) (g : Grid) (last : ℕ) → (sweep_of σ g last).count ≤ 8
unfolding sweep_of reported
count_small σ g last = omega arith

-- The contract of `find_crossings`, restated for the bits that the caller passes in.
found_is :
    (c : After-find_crossings-found) →
    let a = c.args in
    c.find_crossings-found.result ≡ sweep_for (search_for a.b a.revolutions a.w)
found_is c = simp (c.with_lambda.ensures, c.from_bits.ensures) at c.find_crossings-found.ensures

pub overflow_add-result : goal.overflow_add-result
overflow_add-result c =
    let found = c.find_crossings-found.result in
    let count : found.count ≤ 8 = subst (λ (r : Crossings). r.count ≤ 8) (sym (found_is
    (goal.at.overflow_add-result c).After-find_crossings-found)) (count_small _ _ _) in
    omega (arith, c.walk_number.ensures.room)

pub returns : goal.returns
unfolding sweep_number_of found_number
returns c =
    let found = c.find_crossings-found.result in
    ap (λ (n : ℕ). n + found.count) c.walk_number.ensures.number ∙ ap found_number (found_is (goal.at.returns c).After-find_crossings-found)
