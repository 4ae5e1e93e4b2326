-- Bounds that follow from comparisons. For example, a finite number that is not below p / q is at least p / q. The file
-- also gives the constants of the entrance checks as fractions, and the bounds of a number that passes each of these
-- checks.
use mathlib.Core.Path.{◌≡◌, refl, sym, ap, ◌∙◌, subst}
use mathlib.Core.Bool.{Bool, true, false, not, ◌||◌, ◌&&◌, cond, true≢false, false≢true}
use Prim.Native.Nat.{ℕ, zero, suc, ◌+◌, ◌*◌, ◌^◌, ◌≤◌, ◌<◌, zero-le}
use native.Mathlib.Nat.{le_trans, le_of_eq, le_of_lt, lt_of_lt_of_le, lt_of_le_of_lt, lt_irrefl, mul-pos, mul-le-mul, zero-mul}
use native.Mathlib.Omega.{arith}
use borrow.Author.Tests.{ltb-false, eqb-false, eq-eqb, not-false}
use lib.IntN.{ℤ}
use lib.Dec.{T, ltb, eqb, lit<}
use lib.Arith.{lt_of_le-ne}
use lib.Ieee.{Float, nan, inf, fin, binary64, up, down, fits, level, lt, le, of_bits}
use lib.Ieee.Bits.{of_bits-fits}
use lib.Ieee.Fits.{down_pos}
use lib.Ieee.Exact.{HasValue}
use lib.Ieee.Positive.{num, den, first_pos, through}
use Rattle.float64.specs.Notation.{◌≺◌, ◌≼◌, bits, 0F, 1F, 2F}
use Rattle.float64.specs.Value.{finite_of, magnitude_of}
use Rattle.float64.specs.Nearness.{negative}
use Rattle.float64.proofs.Grid.{fits_says}
use Rattle.float64.proofs.Comparisons.{some_below}
use Rattle.geometry.specs.Conditions.{outside_of, 2^40F}
use Rattle.geometry.specs.Triangles.{at_least_zero}
use Rattle.entrance.specs.Conditions.{far_off, 2^60F}
use Rattle.bound_laws.specs.Bounds.{AtMost, AtLeast, NotAbove, Within}
use Rattle.bound_laws.proofs.Fractions.{zero_product}
use Rattle.bound_laws.proofs.Operations.{most_weaker}
use Rattle.bound_laws.proofs.Roots.{least_not_below}

-- ---- bounds of a number whose value is known
pub value_most : (x : Float) (p q : ℕ) → 0 < q → T (fits binary64 x) → HasValue x false p q → AtMost x p q
unfolding finite_of
value_most nan p q Q t v = absurd v
value_most (inf s) p q Q t v = absurd v
value_most (fin s m e) p q Q t v = record { divisor = Q; is_f64 = t; is_finite = refl; at_most = le_of_eq v.1 }

pub value_least : (x : Float) (p q : ℕ) → 0 < q → HasValue x false p q → AtLeast x p q
unfolding finite_of
value_least nan p q Q v = absurd v
value_least (inf s) p q Q v = absurd v
value_least (fin s m e) p q Q v = record { divisor = Q; is_finite = refl; not_negative = v.0; at_least = le_of_eq (sym v.1) }

-- ---- the constants in the checks, as fractions
zero_is : HasValue 0F false 0 1
unfolding of_bits
zero_is = (refl, refl)

one_is : HasValue 1F false 1 1
unfolding of_bits
one_is = (refl, refl)

two_is : HasValue 2F false 2 1
unfolding of_bits
two_is = (refl, refl)

two_to_40_is : HasValue 2^40F false (2 ^ 40) 1
unfolding of_bits
two_to_40_is = (refl, refl)

two_to_60_is : HasValue 2^60F false (2 ^ 60) 1
unfolding of_bits
two_to_60_is = (refl, refl)

chord_limit_is : HasValue (bits 0x3F50_0000_0000_0000) false 1 (2 ^ 10)
unfolding of_bits
chord_limit_is = (refl, refl)

plane_factor_is : HasValue (bits 0x3D70_0000_0000_0000) false 1 (2 ^ 40)
unfolding of_bits
plane_factor_is = (refl, refl)

pub zero_most : AtMost 0F 0 1
zero_most = value_most 0F 0 1 (lit< tt) (of_bits-fits binary64 0) zero_is

pub zero_least : AtLeast 0F 0 1
zero_least = value_least 0F 0 1 (lit< tt) zero_is

pub one_most : AtMost 1F 1 1
one_most = value_most 1F 1 1 (lit< tt) (of_bits-fits binary64 0x3FF0_0000_0000_0000) one_is

pub one_least : AtLeast 1F 1 1
one_least = value_least 1F 1 1 (lit< tt) one_is

pub two_most : AtMost 2F 2 1
two_most = value_most 2F 2 1 (lit< tt) (of_bits-fits binary64 0x4000_0000_0000_0000) two_is

pub two_least : AtLeast 2F 2 1
two_least = value_least 2F 2 1 (lit< tt) two_is

pub plane_factor_most : AtMost (bits 0x3D70_0000_0000_0000) 1 (2 ^ 40)
plane_factor_most =
    value_most (bits 0x3D70_0000_0000_0000) 1 (2 ^ 40) (lit< tt) (of_bits-fits binary64 0x3D70_0000_0000_0000) plane_factor_is

pub plane_factor_least : AtLeast (bits 0x3D70_0000_0000_0000) 1 (2 ^ 40)
plane_factor_least = value_least (bits 0x3D70_0000_0000_0000) 1 (2 ^ 40) (lit< tt) plane_factor_is

-- ---- bounds that follow if `y ≺ x` or `x ≺ y` is false
some_value : (n p q e : ℕ) → 0 < p → 0 < e → n * q ≡ p * e → 0 < n
some_value n p q e P E h = first_pos n q (subst (λ (z : ℕ). 0 < z) (sym h) (mul-pos P E))

pub not_over : (x y : Float) (p q : ℕ) → 0 < q → T (fits binary64 x) → finite_of x ≡ true → HasValue y false p q → (y ≺ x) ≡ false
    → NotAbove x p q
unfolding lt finite_of
not_over nan y p q Q t f v h = absurd (false≢true f)
not_over (inf s) y p q Q t f v h = absurd (false≢true f)
not_over (fin s m e) nan p q Q t f v h = absurd v
not_over (fin s m e) (inf u) p q Q t f v h = absurd v
not_over (fin true m e) (fin u n d) p q Q t f v h =
    record { divisor = Q; is_f64 = t; is_finite = refl; not_above = λ n. absurd (true≢false n) }
not_over (fin false m e) (fin true n d) p q Q t f v h = absurd (true≢false v.0)
not_over (fin false m e) (fin false n d) p q Q t f v h =
    let l = ltb-false (n * up d * down e) (m * up e * down d) h in
    let k = through (m * up e) (n * up d) p (down e) (down d) q (down_pos d) l (le_of_eq v.1) in
    record { divisor = Q; is_f64 = t; is_finite = refl; not_above = λ _. k }

pub not_under : (x y : Float) (p q : ℕ) → 0 < p → 0 < q → finite_of x ≡ true → HasValue y false p q → (x ≺ y) ≡ false → AtLeast x p q
unfolding lt finite_of
not_under nan y p q P Q f v h = absurd (false≢true f)
not_under (inf s) y p q P Q f v h = absurd (false≢true f)
not_under (fin s m e) nan p q P Q f v h = absurd v
not_under (fin s m e) (inf u) p q P Q f v h = absurd v
not_under (fin s m e) (fin true n d) p q P Q f v h = absurd (true≢false v.0)
not_under (fin true m e) (fin false n d) p q P Q f v h =
    let some = some_value (n * up d) p q (down d) P (down_pos d) v.1 in
    let l = ltb-false 0 (m * up e * down d + n * up d * down e) h in
    absurd (clash (m * up e * down d) (n * up d * down e) l (mul-pos some (down_pos e)))
  where
    clash : (a b : ℕ) → a + b ≤ 0 → 0 < b → ⊥
    clash a b g k = omega arith
not_under (fin false m e) (fin false n d) p q P Q f v h =
    let l = ltb-false (m * up e * down d) (n * up d * down e) h in
    let k = through p (n * up d) (m * up e) q (down d) (down e) (down_pos d) (le_of_eq (sym v.1)) l in
    record { divisor = Q; is_finite = refl; not_negative = refl; at_least = k }

pub not_above_most : {x : Float} {p q : ℕ} → NotAbove x p q → negative x ≡ false → AtMost x p q
not_above_most h n = record { divisor = h.divisor; is_f64 = h.is_f64; is_finite = h.is_finite; at_most = h.not_above n }

pub both_false : (a b : Bool) → a || b ≡ false → (a ≡ false) × (b ≡ false)
both_false true b h = absurd (true≢false h)
both_false false b h = (refl, h)

-- If `outside_of` is false, x is between the two limits.
within : (low high x : Float) (p P : ℕ) → 0 < p → T (fits binary64 x) → HasValue low false p 1 → HasValue high false P 1
    → outside_of low high x ≡ false → Within x p 1 P 1
unfolding outside_of
within low high x p P L t v w h =
    let a = both_false (not (finite_of x)) ((x ≺ low) || (high ≺ x)) h in
    let b = both_false (x ≺ low) (high ≺ x) a.1 in
    let f = not-false (finite_of x) a.0 in
    let l = not_under x low p 1 L (lit< tt) f v b.0 in
    record { least = l; most = not_above_most (not_over x high P 1 (lit< tt) t f w b.1) l.not_negative }

pub within_40 : (x : Float) → T (fits binary64 x) → outside_of 1F 2^40F x ≡ false → Within x 1 1 (2 ^ 40) 1
within_40 x t h = within 1F 2^40F x 1 (2 ^ 40) (lit< tt) t one_is two_to_40_is h

pub within_60 : (x : Float) → T (fits binary64 x) → outside_of 1F 2^60F x ≡ false → Within x 1 1 (2 ^ 60) 1
within_60 x t h = within 1F 2^60F x 1 (2 ^ 60) (lit< tt) t one_is two_to_60_is h

pub chord_limit_least : (x : Float) → finite_of x ≡ true → (x ≺ bits 0x3F50_0000_0000_0000) ≡ false → AtLeast x 1 (2 ^ 10)
chord_limit_least x f h = not_under x (bits 0x3F50_0000_0000_0000) 1 (2 ^ 10) (lit< tt) (lit< tt) f chord_limit_is h

pub one_not_under : (x : Float) → finite_of x ≡ true → (x ≺ 1F) ≡ false → AtLeast x 1 1
one_not_under x f h = not_under x 1F 1 1 (lit< tt) (lit< tt) f one_is h

pub one_not_over : (x : Float) → T (fits binary64 x) → finite_of x ≡ true → (1F ≺ x) ≡ false → NotAbove x 1 1
one_not_over x t f h = not_over x 1F 1 1 (lit< tt) t f one_is h

-- A component that passes check 2 is at most 2^40 in magnitude (`component_most`).
magnitude_most : (x : Float) → T (fits binary64 x) → finite_of x ≡ true → NotAbove (magnitude_of x) (2 ^ 40) 1 → AtMost x (2 ^ 40) 1
unfolding magnitude_of finite_of
magnitude_most nan t f h = absurd (false≢true f)
magnitude_most (inf s) t f h = absurd (false≢true f)
magnitude_most (fin s m e) t f h = record { divisor = lit< tt; is_f64 = t; is_finite = f; at_most = h.not_above refl }

magnitude_fits : (x : Float) → T (fits binary64 x) → T (fits binary64 (magnitude_of x))
unfolding magnitude_of fits
magnitude_fits nan t = tt
magnitude_fits (inf s) t = tt
magnitude_fits (fin s zero e) t = t
magnitude_fits (fin s (suc m) e) t = t

magnitude_finite : (x : Float) → finite_of (magnitude_of x) ≡ finite_of x
unfolding magnitude_of finite_of
magnitude_finite nan = refl
magnitude_finite (inf s) = refl
magnitude_finite (fin s m e) = refl

pub component_most : (x : Float) → T (fits binary64 x) → far_off x ≡ false → AtMost x (2 ^ 40) 1
unfolding far_off
component_most x t h =
    let a = both_false (not (finite_of x)) (2^40F ≺ magnitude_of x) h in
    let f = not-false (finite_of x) a.0 in
    let g = magnitude_finite x ∙ f in
    magnitude_most x t f (not_over (magnitude_of x) 2^40F (2 ^ 40) 1 (lit< tt) (magnitude_fits x t) g two_to_40_is a.1)

-- ---- bounds that follow if `x ≼ y` is false
-- If x ≼ y is false and y is not negative, x is above 0 and at least any lower bound of y (`not_at_most`).
is_above : (m : ℕ) (e : ℤ) (n : ℕ) (d : ℤ) → le (fin false m e) (fin false n d) ≡ false → n * up d * down e < m * up e * down d
unfolding le
is_above m e n d h =
    let a = both_false (ltb (m * up e * down d) (n * up d * down e)) (eqb (m * up e * down d) (n * up d * down e) && true) h in
    strict (m * up e * down d) (n * up d * down e) (ltb-false (m * up e * down d) (n * up d * down e) a.0) a.1
  where
    drop : (b : Bool) → b && true ≡ false → b ≡ false
    drop true g = g
    drop false g = refl

    strict : (a b : ℕ) → b ≤ a → eqb a b && true ≡ false → b < a
    strict a b l g = distinct a b l (eqb-false a b (drop (eqb a b) g))
      where
        distinct : (a b : ℕ) → b ≤ a → (a ≡ b → ⊥) → b < a
        distinct a b l n = lt_of_le-ne l (λ (e : b ≡ a). n (sym e))

never_below : (m : ℕ) (e : ℤ) (n : ℕ) (d : ℤ) → le (fin true m e) (fin false n d) ≡ true
unfolding le
never_below m e n d = by (ltb 0 (m * up e * down d + n * up d * down e)) refl
  where
    zeros : (a b : ℕ) → a + b ≤ 0 → level true a false b ≡ true
    zeros a b g = rw (eq-eqb a b (omega arith), eq-eqb a 0 (omega arith))

    by : (t : Bool) → ltb 0 (m * up e * down d + n * up d * down e) ≡ t
        → t || level true (m * up e * down d) false (n * up d * down e) ≡ true
    by true g = refl
    by false g = zeros (m * up e * down d) (n * up d * down e) (ltb-false 0 (m * up e * down d + n * up d * down e) g)

pub not_at_most : (x y : Float) (p q : ℕ) → finite_of x ≡ true → AtLeast y p q → (x ≼ y) ≡ false → AtLeast x p q × (0 < num x)
unfolding finite_of
not_at_most nan y p q f a h = absurd (false≢true f)
not_at_most (inf s) y p q f a h = absurd (false≢true f)
not_at_most (fin s m e) nan p q f a h = absurd (false≢true a.is_finite)
not_at_most (fin s m e) (inf u) p q f a h = absurd (false≢true a.is_finite)
not_at_most (fin s m e) (fin true n d) p q f a h = absurd (true≢false a.not_negative)
not_at_most (fin true m e) (fin false n d) p q f a h = absurd (true≢false (sym (never_below m e n d) ∙ h))
not_at_most (fin false m e) (fin false n d) p q f a h =
    let l = is_above m e n d h in (
      record {
        divisor = a.divisor;
        is_finite = refl;
        not_negative = refl;
        at_least = through p (n * up d) (m * up e) q (down d) (down e) (down_pos d) a.at_least (le_of_lt l);
      },
      first_pos (m * up e) (down d) (lt_of_le_of_lt zero-le l),
    )

-- ---- the least positive f64
-- An f64 above 0 is at least 2^-1074.
pub least_positive : (x : Float) → T (fits binary64 x) → finite_of x ≡ true → negative x ≡ false → 0 < num x → AtLeast x 1 (2 ^ 1074)
unfolding finite_of
least_positive nan t f n h = absurd (false≢true f)
least_positive (inf s) t f n h = absurd (false≢true f)
least_positive (fin s zero e) t f n h = absurd (lt_irrefl 0 (lt_of_lt_of_le h (le_of_eq (zero-mul (up e)))))
least_positive (fin s (suc m) e) t f n h = record {
  divisor = lit< tt;
  is_finite = refl;
  not_negative = n;
  at_least = le_trans (mul-le-mul h (fits_says s m e t).1) (le_of_eq refl);
}

-- ---- numbers that are replaced by 0 if they are below 0
not_below_most : (x : Float) (p q : ℕ) → NotAbove x p q → (x ≺ 0F) ≡ false → num x * q ≤ p * den x
not_below_most nan p q u h = zero_product q (p * 1)
not_below_most (inf s) p q u h = zero_product q (p * 1)
not_below_most (fin s zero e) p q u h = le_trans (le_of_eq (ap (λ (z : ℕ). z * q) (zero-mul (up e)) ∙ zero-mul q)) zero-le
not_below_most (fin s (suc m) e) p q u h = u.not_above (sym (some_below s m e) ∙ h)

pub at_least_zero_most : (x : Float) (p q : ℕ) → NotAbove x p q → AtMost (at_least_zero x) p q × ((at_least_zero x ≺ 0F) ≡ false)
unfolding at_least_zero
at_least_zero_most x p q u = by (x ≺ 0F) refl
  where
    by : (b : Bool) → (x ≺ 0F) ≡ b → AtMost (cond b 0F x) p q × ((cond b 0F x ≺ 0F) ≡ false)
    by true e = (most_weaker p q zero_most u.divisor (zero_product q (p * 1)), least_not_below zero_least)
    by false e = (record { divisor = u.divisor; is_f64 = u.is_f64; is_finite = u.is_finite; at_most = not_below_most x p q u e }, e)
