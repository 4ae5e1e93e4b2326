-- The ends between which a root is estimated. A number between them is positive, finite and normal (`inside_positive`, `inside_normal`),
-- and the clamp leaves it as it is (`clamped_inside`). Every clamped number is positive, finite and normal (`clamped_positive`,
-- `clamped_normal`). What is at most `high_end` is not a NaN (`not_nan`).
use Rattle.std.proofs.Common.{◌≡◌, ℕ, zero, suc, ◌-◌, ◌*◌, ◌/◌, ◌%◌, ◌^◌, ◌<◌, ◌≤◌, Bool, true, false, cond, not, ◌&&◌, T, ℤ, sym, refl}
use Rattle.std.proofs.Common.{ap, ◌∙◌, subst, lt_of_not-le, zero-mul, le_of_mul-le-mul_right, arith, lit<, lit≤, pow_pos, ltb-true}
use mathlib.Core.Bool.{false≢true}
use lib.Ieee.{Float, nan, inf, fin, binary64, fits, is_nan, up, lt, le, of_bits, to_bits}
use lib.Ieee.Exact.{HasValue}
use lib.Ieee.Positive.{positive, positive_of_value, values_of_le}
use Rattle.float64.specs.Notation.{◌≺◌}
use Rattle.float64.specs.Value.{finite_of}
use Rattle.float64.specs.Internals.{units_at, units_of_bits, Positive, Inside, low_end, high_end, at_most_high_end, clamped_of, outside_of}
use Rattle.float64.proofs.Comparisons.{some_above, both}
use Rattle.float64.proofs.Patterns.{has_units, units_of_bits_pos}
use Rattle.float64.proofs.Bits.{read_back, written_back}
use Rattle.float64.proofs.Cases.{positive_bits}

-- ---- at most `high_end`
pub not_nan : (x : Float) → T (not (is_nan (at_most_high_end x)))
unfolding at_most_high_end is_nan lt of_bits
not_nan nan = tt
not_nan (inf true) = tt
not_nan (inf false) = tt
not_nan (fin s m e) = by (fin s m e ≺ high_end)
  where
    by : (b : Bool) → T (not (is_nan (cond b (fin s m e) high_end)))
    by true = tt
    by false = tt

pub below_not_nan : (x : Float) → (x ≺ high_end) ≡ true → T (not (is_nan x))
unfolding is_nan lt
below_not_nan nan h = absurd (false≢true h)
below_not_nan (inf s) h = tt
below_not_nan (fin s m e) h = tt

-- ---- above `low_end`
above_low : (s : Bool) (m : ℕ) (e : ℤ) → (low_end ≺ fin s m e) ≡ true → Positive (fin s m e)
unfolding lt of_bits finite_of
above_low true m e h = absurd (false≢true h)
above_low false zero e h = absurd (none _ (up e) _ (ltb-true _ _ h))
  where
    none : (a u d : ℕ) → a < 0 * u * d → ⊥
    none a u d g = omega (arith, zero-mul u, zero-mul d)
above_low false (suc m) e h = ap (λ (b : Bool). b && true) (some_above false m e)

-- ---- between the ends
pub inside_positive : (x : Float) → Inside x → Positive x
unfolding lt of_bits
inside_positive nan h = absurd (false≢true h)
inside_positive (inf true) h = absurd (false≢true h)
inside_positive (inf false) h = absurd (false≢true h)
inside_positive (fin s m e) h = above_low s m e (both (low_end ≺ fin s m e) (fin s m e ≺ high_end) h).0

pub inside : (x : Float) → outside_of x ≡ 0 → Inside x
unfolding outside_of
inside x h = by ((low_end ≺ x) && (x ≺ high_end)) h
  where
    one : (n : ℕ) → n ≡ 1 → n ≡ 0 → ⊥
    one n f g = omega arith

    by : (b : Bool) → ◌≡◌ {A = ℕ} (cond b 0 1) 0 → b ≡ true
    by true g = refl
    by false g = absurd (one 1 refl g)

-- A subnormal number is below `low_end`: it has fewer than 2 ^ 52 units, and `low_end` has 2 ^ 114.
low_units : HasValue low_end false (2 ^ 114) (2 ^ 1074)
unfolding units_of_bits
low_units = has_units 0x03F0_0000_0000_0000 (lit< tt)

low_positive : T (positive low_end)
low_positive = positive_of_value low_end (2 ^ 114) (2 ^ 1074) low_units (lit< tt)

le_of_lt : (x y : Float) → (x ≺ y) ≡ true → T (le x y)
unfolding le
le_of_lt x y h = rw h tt

subnormal_units : (b : ℕ) → b < 2 ^ 52 → units_of_bits b < 2 ^ 52
unfolding units_of_bits
subnormal_units b h = subst (λ (x : ℕ). units_at x (b % 2 ^ 52) < 2 ^ 52) (sym (no_field b h)) (small b)
  where
    no_field : (x : ℕ) → x < 2 ^ 52 → x / 2 ^ 52 ≡ 0
    no_field x g = omega arith

    small : (x : ℕ) → x % 2 ^ 52 * 2 ^ 0 < 2 ^ 52
    small x = omega arith

above_low_normal : (x : Float) → Positive x → T (fits binary64 x) → (low_end ≺ x) ≡ true → 2 ^ 52 ≤ to_bits binary64 x
above_low_normal x p h l = lt_of_not-le (λ (g : to_bits binary64 x ≤ 2 ^ 52 - 1). subnormal g)
  where
    subnormal : to_bits binary64 x ≤ 2 ^ 52 - 1 → ⊥
    subnormal g =
        let b = to_bits binary64 x in
        let limits = positive_bits x p h in
        let units = subst (λ (y : Float). HasValue y false (units_of_bits b) (2 ^ 1074)) (read_back x h) (has_units b limits.1) in
        let x-positive = positive_of_value x (units_of_bits b) (2 ^ 1074) units (units_of_bits_pos b limits.0) in
        let at_least_lem = le_of_lt low_end x l in
        let scaled =
        values_of_le low_end x (2 ^ 114) (2 ^ 1074) (units_of_bits b) (2 ^ 1074) low_positive x-positive low_units units at_least_lem in
        clash (units_of_bits b) (le_of_mul-le-mul_right scaled (pow_pos 1074)) (subnormal_units b (less b g))
      where
        less : (y : ℕ) → y ≤ 2 ^ 52 - 1 → y < 2 ^ 52
        less y k = omega arith

        clash : (u : ℕ) → 2 ^ 114 ≤ u → u < 2 ^ 52 → ⊥
        clash u k m = omega arith

pub inside_normal : (x : Float) → Inside x → T (fits binary64 x) → 2 ^ 52 ≤ to_bits binary64 x
inside_normal x i h = above_low_normal x (inside_positive x i) h (both (low_end ≺ x) (x ≺ high_end) i).0

-- ---- the clamp
pub clamped_positive : (x : Float) → Positive (clamped_of x)
unfolding clamped_of at_most_high_end lt of_bits finite_of
clamped_positive nan = refl
clamped_positive (inf true) = refl
clamped_positive (inf false) = refl
clamped_positive (fin s m e) = by (fin s m e ≺ high_end)
  where
    inner : (b : Bool) → (low_end ≺ fin s m e) ≡ b → Positive (cond b (fin s m e) low_end)
    inner true h = above_low s m e h
    inner false h = refl

    by : (b : Bool) → Positive (cond (low_end ≺ cond b (fin s m e) high_end) (cond b (fin s m e) high_end) low_end)
    by true = inner (low_end ≺ fin s m e) refl
    by false = refl

pub clamped_inside : (x : Float) → Inside x → clamped_of x ≡ x
unfolding clamped_of at_most_high_end
clamped_inside x h =
    let b = both (low_end ≺ x) (x ≺ high_end) h in
    ap (λ (t : Bool). cond (low_end ≺ cond t x high_end) (cond t x high_end) low_end) b.1 ∙ ap (λ (t : Bool). cond t x low_end) b.0

clamped_as : (x : Float) (b : Bool) → (low_end ≺ at_most_high_end x) ≡ b → clamped_of x ≡ cond b (at_most_high_end x) low_end
unfolding clamped_of
clamped_as x b e = ap (λ (t : Bool). cond t (at_most_high_end x) low_end) e

low_normal : 2 ^ 52 ≤ to_bits binary64 low_end
unfolding is_nan of_bits
low_normal = subst (λ (b : ℕ). 2 ^ 52 ≤ b) (sym (written_back 0x03F0_0000_0000_0000 (lit< tt) tt)) (lit≤ tt)

pub clamped_normal : (x : Float) → T (fits binary64 (clamped_of x)) → 2 ^ 52 ≤ to_bits binary64 (clamped_of x)
clamped_normal x h = by (low_end ≺ at_most_high_end x) refl
  where
    by : (b : Bool) → (low_end ≺ at_most_high_end x) ≡ b → 2 ^ 52 ≤ to_bits binary64 (clamped_of x)
    by true e =
        let q = clamped_as x true e in
        let fit = subst (λ (y : Float). T (fits binary64 y)) q h in
        subst (λ (y : Float). 2 ^ 52 ≤ to_bits binary64 y) (sym q)
        (above_low_normal (at_most_high_end x) (subst Positive q (clamped_positive x)) fit e)
    by false e = subst (λ (y : Float). 2 ^ 52 ≤ to_bits binary64 y) (sym (clamped_as x false e)) low_normal
