-- The three sides as 01 defines them (`below_exactly`, `not_below_exactly`, `unknown_exactly`), and 01's corner cases of crossings. They
-- hold for any time or void at each k, any wanted time and any grid.
use mathlib.Core.Path.{◌≡◌, refl, sym, ap}
use mathlib.Core.Bool.{Bool, true, false, cond}
use mathlib.Core.Logic.{◌↔◌}
use Prim.Native.Nat.{ℕ, ◌+◌, ◌≤◌}
use native.Mathlib.Omega.{arith}
use lib.IntN.{ℤ}
use lib.Ieee.{Float}
use Rattle.float64.specs.Notation.{◌≺◌, ◌≈◌}
use Rattle.float64.proofs.Comparisons.{above_not_below, equal_not_below}
use Rattle.hypergeometric.specs.declared.reasons.Reason.{Reason}
use Rattle.flight_time.specs.declared.Place.{Place}
use Rattle.flight_time.specs.declared.Place.TheVariants.{Timed, Void}
use Rattle.stations.specs.declared.side.Side.{Side}
use Rattle.stations.specs.declared.side.Side.TheVariants.{Below, NotBelow, Unknown}
use Rattle.stations.specs.Sides.{side_of, opposite, is_unknown}
use Rattle.stations.specs.Grid.{Grid}
use Rattle.bisection.specs.Pairs.{crosses}
use Rattle.sweep.specs.Crossings.{sweep_of}
use Rattle.crossing_laws.proofs.Theorems.{none_exactly}

-- ---- sides

-- The place has a time T, and T < T*.
abbrev pub TimedBelow : Place → Float → Type 0
TimedBelow p w = (t : Float) × ((p ≡ Timed t) × ((t ≺ w) ≡ true))

-- The place has a time T, and T < T* is false.
abbrev pub TimedNotBelow : Place → Float → Type 0
TimedNotBelow p w = (t : Float) × ((p ≡ Timed t) × ((t ≺ w) ≡ false))

no_side : {P : Type 0} {a b : Side} → a ≡ b → is_unknown a ≡ true → is_unknown b ≡ false → P
no_side e p q = absurd (let z : ◌≡◌ {A = ℕ} 0 1 = cc (e, p, q) in omega (arith, z))

other_side : {P : Type 0} → Below ≡ NotBelow → P
other_side e = absurd (let z : ◌≡◌ {A = ℕ} 0 1 = cc e in omega (arith, z))

pub no_place : {P : Type 0} {reason : Reason} {t : Float} → Void reason ≡ Timed t → P
no_place e = absurd (let z : ◌≡◌ {A = ℕ} 0 1 = cc e in omega (arith, z))

below_by : (t w : Float) (b : Bool) → (t ≺ w) ≡ b → cond b Below NotBelow ≡ Below → TimedBelow (Timed t) w
below_by t w true e h = (t, (refl, e))
below_by t w false e h = other_side (sym h)

not_below_by : (t w : Float) (b : Bool) → (t ≺ w) ≡ b → cond b Below NotBelow ≡ NotBelow → TimedNotBelow (Timed t) w
not_below_by t w true e h = other_side h
not_below_by t w false e h = (t, (refl, e))

known_by : (b : Bool) → is_unknown (cond b Below NotBelow) ≡ false
known_by true = refl
known_by false = refl

pub below_exactly : (p : Place) (w : Float) → (side_of p w ≡ Below) ↔ TimedBelow p w
unfolding side_of
below_exactly (Timed t) w = (below_by t w (t ≺ w) refl, λ h. cc (h.1.0, h.1.1))
below_exactly (Void reason) w = (λ e. no_side e refl refl, λ h. no_place h.1.0)

pub not_below_exactly : (p : Place) (w : Float) → (side_of p w ≡ NotBelow) ↔ TimedNotBelow p w
unfolding side_of
not_below_exactly (Timed t) w = (not_below_by t w (t ≺ w) refl, λ h. cc (h.1.0, h.1.1))
not_below_exactly (Void reason) w = (λ e. no_side e refl refl, λ h. no_place h.1.0)

pub unknown_exactly : (p : Place) (w : Float) (reason : Reason) → (side_of p w ≡ Unknown reason) ↔ (p ≡ Void reason)
unfolding side_of
unknown_exactly (Timed t) w reason = (λ e. no_side (sym e) refl (known_by (t ≺ w)), λ h. no_place (sym h))
unknown_exactly (Void other) w reason =
    (λ e. let same : other ≡ reason = cc e in ap Void same, λ h. let same : other ≡ reason = cc h in ap Unknown same)

-- Two sides are not opposite if neither is below.
pub none_below : (a b : Side) → (a ≡ Below → ⊥) → (b ≡ Below → ⊥) → opposite a b ≡ false
none_below Below b f g = absurd (f refl)
none_below NotBelow Below f g = absurd (g refl)
none_below NotBelow NotBelow f g = refl
none_below NotBelow (Unknown reason) f g = refl
none_below (Unknown reason) b f g = refl

-- ---- corner cases

-- The side of each place, given the time or void at each k and the wanted time.
abbrev pub sides : (ℤ → Place) → Float → ℤ → Side
sides τ w k = side_of (τ k) w

module _ (τ : ℤ → Place) (w : Float) (g : Grid) where
  -- Place i has a time below the wanted time.
  abbrev pub IsBelow : ℕ → Type 0
  IsBelow i = TimedBelow (τ (g.place i)) w

  -- Place i has a time above the wanted time.
  abbrev pub IsAbove : ℕ → Type 0
  IsAbove i = (t : Float) × ((τ (g.place i) ≡ Timed t) × ((w ≺ t) ≡ true))

  -- Place i has a time equal to the wanted time.
  abbrev pub IsEqual : ℕ → Type 0
  IsEqual i = (t : Float) × ((τ (g.place i) ≡ Timed t) × ((t ≈ w) ≡ true))

  on_below : (i : ℕ) → IsBelow i → sides τ w (g.place i) ≡ Below
  on_below i h = (below_exactly (τ (g.place i)) w).1 h

  on_above : (i : ℕ) → IsAbove i → sides τ w (g.place i) ≡ NotBelow
  on_above i h = (not_below_exactly (τ (g.place i)) w).1 (h.0, (h.1.0, above_not_below h.0 w h.1.1))

  on_equal : (i : ℕ) → IsEqual i → sides τ w (g.place i) ≡ NotBelow
  on_equal i h = (not_below_exactly (τ (g.place i)) w).1 (h.0, (h.1.0, equal_not_below h.0 w h.1.1))

  -- On a slope, a station with the time T* makes one crossing, not two.
  pub rising_slope : (i : ℕ) → IsBelow i → IsEqual (i + 1) → IsAbove (i + 1 + 1) →
      (crosses (sides τ w) g i ≡ true) × (crosses (sides τ w) g (i + 1) ≡ false)
  unfolding crosses
  rising_slope i a b c = (rw (on_below i a, on_equal (i + 1) b), rw (on_equal (i + 1) b, on_above (i + 1 + 1) c))

  pub falling_slope : (i : ℕ) → IsAbove i → IsEqual (i + 1) → IsBelow (i + 1 + 1) →
      (crosses (sides τ w) g i ≡ false) × (crosses (sides τ w) g (i + 1) ≡ true)
  unfolding crosses
  falling_slope i a b c = (rw (on_above i a, on_equal (i + 1) b), rw (on_equal (i + 1) b, on_below (i + 1 + 1) c))

  -- A dip that reaches T* but does not go below it makes no crossing.
  pub touching_dip : (i : ℕ) → IsAbove i → IsEqual (i + 1) → IsAbove (i + 1 + 1) →
      (crosses (sides τ w) g i ≡ false) × (crosses (sides τ w) g (i + 1) ≡ false)
  unfolding crosses
  touching_dip i a b c = (rw (on_above i a, on_equal (i + 1) b), rw (on_equal (i + 1) b, on_above (i + 1 + 1) c))

  -- A single station with the time T* between two stations below makes two crossings.
  pub equal_between : (i : ℕ) → IsBelow i → IsEqual (i + 1) → IsBelow (i + 1 + 1) →
      (crosses (sides τ w) g i ≡ true) × (crosses (sides τ w) g (i + 1) ≡ true)
  unfolding crosses
  equal_between i a b c = (rw (on_below i a, on_equal (i + 1) b), rw (on_equal (i + 1) b, on_below (i + 1 + 1) c))

  -- If the last station has the time T* and no station is below, there is no crossing.
  pub equal_last : (last : ℕ) → IsEqual last → ((i : ℕ) → i ≤ last → IsBelow i → ⊥) → (sweep_of (sides τ w) g last).count ≡ 0
  unfolding crosses
  equal_last last e f =
      (none_exactly (sides τ w) g last).1 (λ i h.
      none_below (sides τ w (g.place i)) (sides τ w (g.place (i + 1)))
      (λ a. f i (omega (arith, h)) ((below_exactly (τ (g.place i)) w).0 a))
      (λ b. f (i + 1) (omega (arith, h)) ((below_exactly (τ (g.place (i + 1))) w).0 b)))
