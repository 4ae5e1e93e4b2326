-- One step of the definition (`step`): in an interval of width 2^(n+1) the middle is 2^n above the lower end and is neither end. So the
-- step stops if the middle is void, and otherwise it chooses one of the two halves.
use mathlib.Core.Path.{◌≡◌, refl, sym, ap, ◌∙◌}
use mathlib.Core.Bool.{true, false, cond, or-false}
use Prim.Native.Nat.{ℕ, suc, ◌+◌, ◌/◌, ◌^◌, ◌≤◌}
use native.Mathlib.Nat.{pow-suc}
use native.Mathlib.Omega.{arith}
use borrow.Author.Tests.{ne_eqb}
use lib.Pow.{pow_pos}
use lib.IntN.{ℤ, pos, negsuc, neg_ℤ, ◌+ℤ◌, ◌-ℤ◌, +ℤ_assoc, +ℤ_comm, +ℤ_invl, +ℤ_idl, +ℤ-neg_ℤ_cancel}
use lib.Signed.{mag, quot_z}
use Rattle.stations.specs.declared.side.Side.{Side}
use Rattle.stations.specs.declared.side.Side.TheVariants.{Below, NotBelow, Unknown}
use Rattle.stations.specs.Sides.{opposite, is_unknown}
use Rattle.bisection.specs.Halving.{same, middle_of, stops, bisect_of}

pub double : (n : ℕ) → 2 ^ suc n ≡ 2 ^ n + 2 ^ n
double n = omega (arith, pow-suc 2 n)

-- ---- sides

-- Two known sides that are not opposite are equal.
pub same_side : (a b : Side) → is_unknown a ≡ false → is_unknown b ≡ false → opposite a b ≡ false → a ≡ b
same_side Below Below p q r = refl
same_side NotBelow NotBelow p q r = refl
same_side Below NotBelow p q r = cc
same_side NotBelow Below p q r = cc
same_side (Unknown reason) b p q r = cc
same_side Below (Unknown reason) p q r = cc
same_side NotBelow (Unknown reason) p q r = cc

-- Opposite sides are both known: both ends of a crossing have times.
pub lower_known : (a b : Side) → opposite a b ≡ true → is_unknown a ≡ false
lower_known Below b e = refl
lower_known NotBelow b e = refl
lower_known (Unknown reason) b e = cc

pub upper_known : (a b : Side) → opposite a b ≡ true → is_unknown b ≡ false
upper_known a Below e = refl
upper_known a NotBelow e = refl
upper_known Below (Unknown reason) e = cc
upper_known NotBelow (Unknown reason) e = cc
upper_known (Unknown reason) (Unknown other) e = cc

-- ---- whole numbers

quot_twice : (z : ℤ) → quot_z (z +ℤ z) (pos 2) ≡ z
quot_twice (pos x) = let e : (x + x) / 2 ≡ x = omega arith in ap pos e
quot_twice (negsuc x) = let e : suc (suc (x + x)) / 2 ≡ suc x = omega arith in rw e

pub mag_twice : (z : ℤ) → mag (z +ℤ z) ≤ mag z + mag z + 1
mag_twice (pos x) = omega arith
mag_twice (negsuc x) = omega arith

-- The sum of a and a + 2k is twice a + k.
sum_twice : (a : ℤ) (k : ℕ) → a +ℤ (a +ℤ pos (k + k)) ≡ (a +ℤ pos k) +ℤ (a +ℤ pos k)
sum_twice a k =
    ap (λ (z : ℤ). a +ℤ z) (sym (+ℤ_assoc a (pos k) (pos k)) ∙ +ℤ_comm (a +ℤ pos k) (pos k))
    ∙ sym (+ℤ_assoc a (pos k) (a +ℤ pos k))

pub up_same : (a : ℤ) (k : ℕ) → a +ℤ pos k ≡ a → k ≡ 0
up_same a k e =
    let there_and_back : pos k ≡ neg_ℤ a +ℤ (a +ℤ pos k) =
    sym (+ℤ_idl (pos k)) ∙ ap (λ (z : ℤ). z +ℤ pos k) (sym (+ℤ_invl a)) ∙ +ℤ_assoc (neg_ℤ a) a (pos k) in
    let f : pos k ≡ pos 0 = there_and_back ∙ ap (λ (z : ℤ). neg_ℤ a +ℤ z) e ∙ +ℤ_invl a in
    cc

pub up_less : (a : ℤ) (k : ℕ) → (a +ℤ pos k) -ℤ a ≡ pos k
up_less a k = ap (λ (z : ℤ). z -ℤ a) (+ℤ_comm a (pos k)) ∙ +ℤ-neg_ℤ_cancel (pos k) a

pub same_no : (x y : ℤ) → (x ≡ y → ⊥) → same x y ≡ false
same_no (pos x) (pos y) f = ne_eqb x y (λ e. f (ap pos e))
same_no (negsuc x) (negsuc y) f = ne_eqb x y (λ e. f (ap negsuc e))
same_no (pos x) (negsuc y) f = refl
same_no (negsuc x) (pos y) f = refl

-- ---- one step in an interval of width 2^(n+1)

module _ (a : ℤ) (n : ℕ) where
  abbrev pub middle : ℤ
  middle = a +ℤ pos (2 ^ n)

  abbrev pub top : ℤ
  top = a +ℤ pos (2 ^ suc n)

  twice : top ≡ a +ℤ pos (2 ^ n + 2 ^ n)
  twice = ap (λ (k : ℕ). a +ℤ pos k) (double n)

  pub up_twice : middle +ℤ pos (2 ^ n) ≡ top
  up_twice = +ℤ_assoc a (pos (2 ^ n)) (pos (2 ^ n)) ∙ sym twice

  pub sum_is : a +ℤ top ≡ middle +ℤ middle
  sum_is = ap (λ (z : ℤ). a +ℤ z) twice ∙ sum_twice a (2 ^ n)

  pub middle_is : middle_of a top ≡ middle
  middle_is = ap (λ (z : ℤ). quot_z z (pos 2)) sum_is ∙ quot_twice middle

  not_low : middle ≡ a → ⊥
  not_low e = omega (arith, up_same a (2 ^ n) e, pow_pos n)

  not_high : middle ≡ top → ⊥
  not_high e = omega (arith, up_same middle (2 ^ n) (up_twice ∙ sym e), pow_pos n)

  wide : same (top -ℤ a) (pos 1) ≡ false
  wide = rw (up_less a (2 ^ suc n)) (ne_eqb (2 ^ suc n) 1 (λ e. omega (arith, e, double n, pow_pos n)))

  module _ (σ : ℤ → Side) where
    -- Halving stops exactly if the middle is void.
    pub stops_is : stops σ a top ≡ is_unknown (σ middle)
    stops_is = rw (wide, middle_is, same_no middle a not_low, same_no middle top not_high) (or-false (is_unknown (σ middle)))

    pub step : (h : ℕ) → bisect_of σ (suc n) h a top
        ≡ cond (is_unknown (σ middle)) (record { lower = a; upper = top; halvings = h })
        (cond (opposite (σ a) (σ middle)) (bisect_of σ n (h + 1) a middle) (bisect_of σ n (h + 1) middle top))
    unfolding bisect_of
    step h = rw (stops_is, middle_is)
