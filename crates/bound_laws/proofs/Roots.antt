-- Bounds of a square root. If x is finite and not below 0, its root is not refused (`root_value`). Let c / d be an f64.
-- If x is at most the square of c / d, the root is at most c / d (`root_most`). If x is above 0 and at least the square
-- of c / d, the root is at least c / d (`root_least`). The reason is that every other f64 is farther from √x than the
-- root is (`nearest_root`), so c / d cannot be between √x and the root.
use mathlib.Core.Path.{◌≡◌, refl, sym, ap, ◌∙◌, subst}
use mathlib.Core.Logic.{inl, inr}
use mathlib.Core.Bool.{Bool, true, false, not, true≢false, false≢true}
use Prim.Native.Nat.{ℕ, zero, suc, ◌+◌, ◌*◌, ◌^◌, ◌≤◌, ◌<◌, zero-le}
use native.Mathlib.Nat.{le_trans, le_of_eq, lt_of_lt_of_le, lt_irrefl, zero-lt-suc, mul-pos, mul_right_comm, mul-le-mul}
use native.Mathlib.Nat.{mul-le-mul_right, le_of_mul-le-mul_right, eq_of_mul-eq-mul_right, zero-mul}
use native.Mathlib.Omega.{arith}
use lib.Dec.{T, ltb, ltb→lt, nltb→le}
use lib.Pow.{pow_pos}
use lib.Ieee.{Float, nan, inf, fin, binary64, up, down, round, is_nan, fits}
use lib.Ieee.Fits.{round-fits}
use lib.Ieee.Exact.{HasValue}
use lib.Ieee.Positive.{num, den, den_pos, through}
use Rattle.float64.specs.Notation.{◌≺◌, 0F}
use Rattle.float64.specs.Value.{finite_of}
use Rattle.float64.specs.Nearness.{Farther, negative, NearestRoot}
use Rattle.float64.specs.Root.{units_of, root_of, root_of_units}
use Rattle.std.specs.Prelude.{Some}
use Rattle.float64.proofs.Comparisons.{zero_not_below, some_below}
use Rattle.float64.proofs.Grid.{units_exact}
use Rattle.float64.proofs.Law.{nearest_root}
use Rattle.vectors.specs.Vectors.{or_nan, root_or_nan}
use Rattle.bound_laws.specs.Bounds.{Representable, AtMost, AtLeast}
use Rattle.bound_laws.proofs.Fractions.{zero_product}

-- ---- values as fractions, for either sign
size_of : (x : Float) (s : Bool) (a c : ℕ) → HasValue x s a c → num x * c ≡ a * den x
size_of nan s a c v = absurd v
size_of (inf t) s a c v = absurd v
size_of (fin t m e) s a c v = v.1

value_is : (x : Float) (s : Bool) (a c : ℕ) → HasValue x s a c → (finite_of x ≡ true) × (is_nan x ≡ false) × (negative x ≡ s)
unfolding finite_of is_nan
value_is nan s a c v = absurd v
value_is (inf t) s a c v = absurd v
value_is (fin t m e) s a c v = (refl, refl, v.0)

units_size : (x : Float) → T (fits binary64 x) → finite_of x ≡ true → num x * 2 ^ 1074 ≡ units_of x * den x
units_size x h f = size_of x (negative x) (units_of x) (2 ^ 1074) (units_exact x h f)

-- If n / e is equal to both a / c and b / d, then a * d and b * c are equal.
crossed : (n e a c b d : ℕ) → 0 < e → n * c ≡ a * e → n * d ≡ b * e → a * d ≡ b * c
crossed n e a c b d E h k =
    eq_of_mul-eq-mul_right e E (a * d) (b * c)
    (mul_right_comm a d e ∙ ap (λ (z : ℕ). z * d) (sym h) ∙ mul_right_comm n c d ∙ ap (λ (z : ℕ). z * c) k ∙ mul_right_comm b e c)

-- ---- squares in units of 2 ^ -1074
-- Here u is 2 ^ 1074, the operand has X units, and the bound c / d has Y units.
below_square : (X Y p q c d u : ℕ) → 0 < q → 0 < d → X * q ≤ p * u → Y * d ≡ c * u → p * (d * d) ≤ c * c * q → X * u ≤ Y * Y
below_square X Y p q c d u A B h e k = le_of_mul-le-mul_right {k = q * (d * d)} whole (mul-pos A (mul-pos B B))
  where
    whole : X * u * (q * (d * d)) ≤ Y * Y * (q * (d * d))
    whole =
        let a : X * q * (u * (d * d)) ≤ p * u * (u * (d * d)) = mul-le-mul_right (u * (d * d)) h in
        let b : p * (d * d) * (u * u) ≤ c * c * q * (u * u) = mul-le-mul_right (u * u) k in
        let f : Y * d * (Y * d) * q ≡ c * u * (c * u) * q = ap (λ (z : ℕ). z * z * q) e in
        omega arith

above_square : (X Y p q c d u : ℕ) → 0 < q → 0 < d → p * u ≤ X * q → Y * d ≡ c * u → c * c * q ≤ p * (d * d) → Y * Y ≤ X * u
above_square X Y p q c d u A B h e k = le_of_mul-le-mul_right {k = q * (d * d)} whole (mul-pos A (mul-pos B B))
  where
    whole : Y * Y * (q * (d * d)) ≤ X * u * (q * (d * d))
    whole =
        let a : p * u * (u * (d * d)) ≤ X * q * (u * (d * d)) = mul-le-mul_right (u * (d * d)) h in
        let b : c * c * q * (u * u) ≤ p * (d * d) * (u * u) = mul-le-mul_right (u * u) k in
        let f : Y * d * (Y * d) * q ≡ c * u * (c * u) * q = ap (λ (z : ℕ). z * z * q) e in
        omega arith

-- If R is nearer to √N than Y is, Y is not between √N and R.
bound_not_below : (N R Y : ℕ) → N ≤ Y * Y → Y < R → Farther N R false Y → ⊥
bound_not_below N R Y h l (inl f) = clash (mul-le-mul (twice Y R l) (twice Y R l)) f.1
  where
    twice : (a b : ℕ) → a < b → 2 * a ≤ a + b
    twice a b g = omega arith

    clash : 2 * Y * (2 * Y) ≤ (Y + R) * (Y + R) → (Y + R) * (Y + R) < 4 * N → ⊥
    clash g k = omega arith
bound_not_below N R Y h l (inr f) = omega (arith, f.0)

bound_not_above : (N R Y : ℕ) → Y * Y ≤ N → R < Y → Farther N R false Y → ⊥
bound_not_above N R Y h l (inl f) = omega (arith, f.0)
bound_not_above N R Y h l (inr f) = clash (mul-le-mul (twice Y R l) (twice Y R l)) f.1
  where
    twice : (a b : ℕ) → b < a → a + b ≤ 2 * a
    twice a b g = omega arith

    clash : (Y + R) * (Y + R) ≤ 2 * Y * (2 * Y) → 4 * N < (Y + R) * (Y + R) → ⊥
    clash g k = omega arith

-- ---- a positive operand
module _ (x r : Float) (fits-x : T (fits binary64 x)) (finite : finite_of x ≡ true) (N : NearestRoot x r) (c d : ℕ)
    (H : Representable c d) where
  abbrev bound : Float
  bound = round binary64 false c d

  farther : (bound ≡ r → ⊥) → Farther (units_of x * 2 ^ 1074) (units_of r) false (units_of bound)
  farther n =
      let v = value_is bound false c d H.exact in
      let f = N.nearest bound (round-fits binary64 false c d) v.1 n in
      subst (λ (s : Bool). Farther (units_of x * 2 ^ 1074) (units_of r) s (units_of bound)) v.2 f

  bound_units : units_of bound * d ≡ c * 2 ^ 1074
  bound_units =
      let u = units_size bound (round-fits binary64 false c d) (value_is bound false c d H.exact).0 in
      crossed (num bound) (den bound) (units_of bound) (2 ^ 1074) c d (den_pos bound) u (size_of bound false c d H.exact)

  root_units : num r * 2 ^ 1074 ≡ units_of r * den r
  root_units = units_size r N.is_f64 N.is_finite

  differ : (l : units_of bound ≡ units_of r → ⊥) → bound ≡ r → ⊥
  differ l e = l (ap units_of e)

  is_most : (p q : ℕ) → 0 < q → num x * q ≤ p * den x → p * (d * d) ≤ c * c * q → AtMost r c d
  is_most p q Q h k = record {
    divisor = H.divisor;
    is_f64 = N.is_f64;
    is_finite = N.is_finite;
    at_most = back (num r) (den r) (units_of r) (units_of bound) (2 ^ 1074) (pow_pos 1074) root_units bound_units in_units;
  }
    where
      X : units_of x * q ≤ p * 2 ^ 1074
      X = through (units_of x) (num x) p (2 ^ 1074) (den x) q (den_pos x) (le_of_eq (sym (units_size x fits-x finite))) h

      square : units_of x * 2 ^ 1074 ≤ units_of bound * units_of bound
      square = below_square (units_of x) (units_of bound) p q c d (2 ^ 1074) Q H.divisor X bound_units k

      by : (b : Bool) → (T b → units_of bound < units_of r) → (T (not b) → units_of r ≤ units_of bound) → units_of r ≤ units_of bound
      by true f g =
          absurd
          (bound_not_below (units_of x * 2 ^ 1074) (units_of r) (units_of bound) square (f tt)
          (farther (differ (λ (e : units_of bound ≡ units_of r). lt_irrefl (units_of r) (subst (λ (z : ℕ). z < units_of r) e (f tt))))))
      by false f g = g tt

      in_units : units_of r ≤ units_of bound
      in_units =
          by (ltb (units_of bound) (units_of r)) (ltb→lt (units_of bound) (units_of r)) (nltb→le (units_of bound) (units_of r))

      back : (n e R Y u : ℕ) → 0 < u → n * u ≡ R * e → Y * d ≡ c * u → R ≤ Y → n * d ≤ c * e
      back n e R Y u U a b l = le_of_mul-le-mul_right {k = u} whole U
        where
          whole : n * d * u ≤ c * e * u
          whole =
              let f : R * (d * e) ≤ Y * (d * e) = mul-le-mul_right (d * e) l in
              let g : n * u * d ≡ R * e * d = ap (λ (z : ℕ). z * d) a in
              let h : Y * d * e ≡ c * u * e = ap (λ (z : ℕ). z * e) b in
              omega arith

  is_least : (p q : ℕ) → 0 < q → p * den x ≤ num x * q → c * c * q ≤ p * (d * d) → AtLeast r c d
  is_least p q Q h k = record {
    divisor = H.divisor;
    is_finite = N.is_finite;
    not_negative = N.is_positive;
    at_least = back (num r) (den r) (units_of r) (units_of bound) (2 ^ 1074) (pow_pos 1074) root_units bound_units in_units;
  }
    where
      X : p * 2 ^ 1074 ≤ units_of x * q
      X = through p (num x) (units_of x) q (den x) (2 ^ 1074) (den_pos x) h (le_of_eq (units_size x fits-x finite))

      square : units_of bound * units_of bound ≤ units_of x * 2 ^ 1074
      square = above_square (units_of x) (units_of bound) p q c d (2 ^ 1074) Q H.divisor X bound_units k

      by : (b : Bool) → (T b → units_of r < units_of bound) → (T (not b) → units_of bound ≤ units_of r) → units_of bound ≤ units_of r
      by true f g =
          absurd
          (bound_not_above (units_of x * 2 ^ 1074) (units_of r) (units_of bound) square (f tt)
          (farther (differ (λ (e : units_of bound ≡ units_of r). lt_irrefl (units_of r) (subst (λ (z : ℕ). units_of r < z) e (f tt))))))
      by false f g = g tt

      in_units : units_of bound ≤ units_of r
      in_units =
          by (ltb (units_of r) (units_of bound)) (ltb→lt (units_of r) (units_of bound)) (nltb→le (units_of r) (units_of bound))

      back : (n e R Y u : ℕ) → 0 < u → n * u ≡ R * e → Y * d ≡ c * u → Y ≤ R → c * e ≤ n * d
      back n e R Y u U a b l = le_of_mul-le-mul_right {k = u} whole U
        where
          whole : c * e * u ≤ n * d * u
          whole =
              let f : Y * (d * e) ≤ R * (d * e) = mul-le-mul_right (d * e) l in
              let g : n * u * d ≡ R * e * d = ap (λ (z : ℕ). z * d) a in
              let h : Y * d * e ≡ c * u * e = ap (λ (z : ℕ). z * e) b in
              omega arith

-- ---- the laws of the root
-- The root is not refused, and `root_or_nan`, which 01's steps use, is its value.
pub root_value : (x : Float) → finite_of x ≡ true → (x ≺ 0F) ≡ false → root_of x ≡ Some (root_or_nan x)
unfolding root_of root_or_nan finite_of or_nan
root_value nan f n = absurd (false≢true f)
root_value (inf s) f n = absurd (false≢true f)
root_value (fin s zero e) f n = refl
root_value (fin true (suc m) e) f n = absurd (true≢false (sym (some_below true m e) ∙ n))
root_value (fin false (suc m) e) f n = refl

most_of : (x : Float) (p q c d : ℕ) → AtMost x p q → (x ≺ 0F) ≡ false → Representable c d → p * (d * d) ≤ c * c * q
    → AtMost (root_or_nan x) c d
unfolding root_of root_or_nan finite_of or_nan
most_of nan p q c d a n H h = absurd (false≢true a.is_finite)
most_of (inf s) p q c d a n H h = absurd (false≢true a.is_finite)
most_of (fin s zero e) p q c d a n H h =
    record { divisor = H.divisor; is_f64 = a.is_f64; is_finite = refl; at_most = none (up e) (c * down e) }
  where
    none : (u z : ℕ) → 0 * u * d ≤ z
    none u z = le_trans (le_of_eq (ap (λ (y : ℕ). y * d) (zero-mul u) ∙ zero-mul d)) zero-le
most_of (fin true (suc m) e) p q c d a n H h = absurd (true≢false (sym (some_below true m e) ∙ n))
most_of (fin false (suc m) e) p q c d a n H h =
    let x = fin false (suc m) e in
    is_most x (root_of_units (units_of x)) a.is_f64 refl (nearest_root m e a.is_f64) c d H p q a.divisor a.at_most h

pub root_most : {x : Float} {p q c d : ℕ} → AtMost x p q → (x ≺ 0F) ≡ false → Representable c d → p * (d * d) ≤ c * c * q
    → AtMost (root_or_nan x) c d
root_most {x} {p} {q} {c} {d} a n H h = most_of x p q c d a n H h

least_of : (x : Float) (p q c d : ℕ) → T (fits binary64 x) → AtLeast x p q → 0 < p → Representable c d → c * c * q ≤ p * (d * d)
    → AtLeast (root_or_nan x) c d
unfolding root_of root_or_nan finite_of or_nan
least_of nan p q c d t a P H h = absurd (false≢true a.is_finite)
least_of (inf s) p q c d t a P H h = absurd (false≢true a.is_finite)
least_of (fin s zero e) p q c d t a P H h =
    let zero-num = le_of_eq (ap (λ (y : ℕ). y * q) (zero-mul (up e)) ∙ zero-mul q) in
    absurd (lt_irrefl 0 (lt_of_lt_of_le (mul-pos P (den_pos (fin s zero e))) (le_trans a.at_least zero-num)))
least_of (fin true (suc m) e) p q c d t a P H h = absurd (true≢false a.not_negative)
least_of (fin false (suc m) e) p q c d t a P H h =
    let x = fin false (suc m) e in
    is_least x (root_of_units (units_of x)) t refl (nearest_root m e t) c d H p q a.divisor a.at_least h

pub root_least : {x : Float} {p q c d : ℕ} → T (fits binary64 x) → AtLeast x p q → 0 < p → Representable c d → c * c * q ≤ p * (d * d)
    → AtLeast (root_or_nan x) c d
root_least {x} {p} {q} {c} {d} t a P H h = least_of x p q c d t a P H h

-- A finite number with the sign + is not below 0.
nonnegative_not_below : (x : Float) → finite_of x ≡ true → negative x ≡ false → (x ≺ 0F) ≡ false
unfolding finite_of
nonnegative_not_below nan f n = absurd (false≢true f)
nonnegative_not_below (inf s) f n = absurd (false≢true f)
nonnegative_not_below (fin s zero e) f n = zero_not_below s e
nonnegative_not_below (fin s (suc m) e) f n = some_below s m e ∙ n

pub least_not_below : {x : Float} {p q : ℕ} → AtLeast x p q → (x ≺ 0F) ≡ false
least_not_below {x} a = nonnegative_not_below x a.is_finite a.not_negative

-- The root of a finite f64 with the sign + is finite and has the sign +.
zero_or_more : (x : Float) → T (fits binary64 x) → finite_of x ≡ true → negative x ≡ false → AtLeast (root_or_nan x) 0 1
unfolding root_of root_or_nan finite_of or_nan
zero_or_more nan t f n = absurd (false≢true f)
zero_or_more (inf s) t f n = absurd (false≢true f)
zero_or_more (fin s zero e) t f n =
    record { divisor = zero-lt-suc 0; is_finite = refl; not_negative = n; at_least = zero_product (down e) (0 * up e * 1) }
zero_or_more (fin true (suc m) e) t f n = absurd (true≢false n)
zero_or_more (fin false (suc m) e) t f n =
    let r = root_of_units (units_of (fin false (suc m) e)) in
    let N = nearest_root m e t in
    record {
      divisor = zero-lt-suc 0;
      is_finite = N.is_finite;
      not_negative = N.is_positive;
      at_least = zero_product (den r) (num r * 1);
    }

pub root_not_negative : {x : Float} {p q : ℕ} → T (fits binary64 x) → AtLeast x p q → AtLeast (root_or_nan x) 0 1
root_not_negative {x} t a = zero_or_more x t a.is_finite a.not_negative
