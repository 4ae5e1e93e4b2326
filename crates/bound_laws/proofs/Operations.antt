-- Bounds of x ⊕ y, x ⊖ y, x ⊗ y and x ⊘ y that follow from bounds of x and y. An operation on finite numbers rounds the
-- exact result once. So an f64 that bounds the exact result also bounds the rounded result (Rounding.antt). Lemmas
-- whose names end in `_most` bound the magnitude of the result and show that it is finite. Lemmas whose names end in
-- `_least` bound the result from below by a number that is not negative. `sub_not_above` bounds a difference from
-- above.
use mathlib.Core.Path.{◌≡◌, refl, sym, ap, ◌∙◌, subst}
use mathlib.Core.Bool.{Bool, true, false, not, ◌&&◌, beq, cond, true≢false, false≢true}
use Prim.Native.Nat.{ℕ, ◌+◌, ◌-◌, ◌*◌, ◌≤◌, ◌<◌}
use native.Mathlib.Nat.{le_trans, lt_of_lt_of_le, not-le_of_lt, mul-pos, mul-le-mul_right}
use native.Mathlib.Omega.{arith}
use borrow.Author.Tests.{ne_eqb}
use lib.Dec.{T, ltb, eqb, ltb→lt}
use lib.Ieee.{Float, nan, inf, fin, binary64, unlike, up, down, round, neg, sum, add, sub, mul, div, fits}
use lib.Ieee.Fits.{neg-fits}
use lib.Ieee.Positive.{num, den, den_pos, first_pos, through}
use Rattle.float64.specs.Notation.{◌⊕◌, ◌⊖◌, ◌⊗◌, ◌⊘◌}
use Rattle.float64.specs.Value.{finite_of}
use Rattle.float64.specs.Nearness.{negative}
use Rattle.bound_laws.specs.Bounds.{Representable, AtMost, AtLeast, NotAbove}
use Rattle.bound_laws.proofs.Rounding.{round_most, round_least, round_negative}
use Rattle.bound_laws.proofs.Fractions.{zero_product, products, quotients, least_quotients, sums, least_sums, differences}
use Rattle.bound_laws.proofs.Fractions.{least_differences}
use Rattle.bound_laws.proofs.Fractions.{first_larger}

-- ---- operations on finite numbers
-- Each operation is the exact result, rounded once. The divisor of a quotient must not be zero.
pub mul_is : (x y : Float) → finite_of x ≡ true → finite_of y ≡ true
    → x ⊗ y ≡ round binary64 (unlike (negative x) (negative y)) (num x * num y) (den x * den y)
unfolding mul finite_of
mul_is nan y f g = absurd (false≢true f)
mul_is (inf s) y f g = absurd (false≢true f)
mul_is (fin s m e) nan f g = absurd (false≢true g)
mul_is (fin s m e) (inf t) f g = absurd (false≢true g)
mul_is (fin s m e) (fin t n d) f g = refl

pub div_is : (x y : Float) → finite_of x ≡ true → finite_of y ≡ true → 0 < num y
    → x ⊘ y ≡ round binary64 (unlike (negative x) (negative y)) (num x * den y) (num y * den x)
unfolding div finite_of
div_is nan y f g h = absurd (false≢true f)
div_is (inf s) y f g h = absurd (false≢true f)
div_is (fin s m e) nan f g h = absurd (false≢true g)
div_is (fin s m e) (inf t) f g h = absurd (false≢true g)
div_is (fin s m e) (fin t n d) f g h =
    ap (λ (b : Bool). cond b (cond (eqb m 0) nan (inf (unlike s t))) (round binary64 (unlike s t) (m * up e * down d) (n * up d * down e)))
    (ne_eqb n 0 (λ (z : n ≡ 0). some n z (first_pos n (up d) h)))
  where
    some : (k : ℕ) → k ≡ 0 → 0 < k → ⊥
    some k z l = omega arith

pub add_is : (x y : Float) → finite_of x ≡ true → finite_of y ≡ true
    → x ⊕ y ≡ sum binary64 (negative x) (num x * den y) (negative y) (num y * den x) (den x * den y)
unfolding add finite_of
add_is nan y f g = absurd (false≢true f)
add_is (inf s) y f g = absurd (false≢true f)
add_is (fin s m e) nan f g = absurd (false≢true g)
add_is (fin s m e) (inf t) f g = absurd (false≢true g)
add_is (fin s m e) (fin t n d) f g = refl

pub sub_is : (x y : Float) → x ⊖ y ≡ x ⊕ neg y
unfolding sub
sub_is x y = refl

-- ---- negation
-- A negated number has the same magnitude and the other sign.
pub neg_finite : (x : Float) → finite_of (neg x) ≡ finite_of x
unfolding neg finite_of
neg_finite nan = refl
neg_finite (inf s) = refl
neg_finite (fin s m e) = refl

pub neg_num : (x : Float) → num (neg x) ≡ num x
unfolding neg
neg_num nan = refl
neg_num (inf s) = refl
neg_num (fin s m e) = refl

pub neg_den : (x : Float) → den (neg x) ≡ den x
unfolding neg
neg_den nan = refl
neg_den (inf s) = refl
neg_den (fin s m e) = refl

pub neg_sign : (x : Float) → finite_of x ≡ true → negative (neg x) ≡ not (negative x)
unfolding neg finite_of
neg_sign nan f = absurd (false≢true f)
neg_sign (inf s) f = refl
neg_sign (fin s m e) f = refl

pub neg_most : {x : Float} {p q : ℕ} → AtMost x p q → AtMost (neg x) p q
neg_most {x} {p} {q} h = record {
  divisor = h.divisor;
  is_f64 = neg-fits binary64 x h.is_f64;
  is_finite = neg_finite x ∙ h.is_finite;
  at_most = rw (neg_num x, neg_den x) h.at_most;
}

-- ---- wider bounds
pub most_weaker : {x : Float} {p q : ℕ} (P Q : ℕ) → AtMost x p q → 0 < Q → p * Q ≤ P * q → AtMost x P Q
most_weaker {x} {p} {q} P Q h C k = record {
  divisor = C;
  is_f64 = h.is_f64;
  is_finite = h.is_finite;
  at_most = through (num x) p P (den x) q Q h.divisor h.at_most k;
}

pub least_weaker : {x : Float} {p q : ℕ} (P Q : ℕ) → AtLeast x p q → 0 < Q → P * q ≤ p * Q → AtLeast x P Q
least_weaker {x} {p} {q} P Q h C k = record {
  divisor = C;
  is_finite = h.is_finite;
  not_negative = h.not_negative;
  at_least = through P p (num x) Q q (den x) h.divisor k h.at_least;
}

-- A number that is at least p / q, with p above 0, is not zero.
pub above_zero : {x : Float} {p q : ℕ} → AtLeast x p q → 0 < p → 0 < num x
above_zero {x} {p} {q} h P = first_pos (num x) q (lt_of_lt_of_le (mul-pos P (den_pos x)) h.at_least)

-- ---- products
plus : (s t : Bool) → s ≡ false → t ≡ false → unlike s t ≡ false
plus false false e f = refl
plus false true e f = f
plus true t e f = absurd (true≢false e)

alike : (s : Bool) → unlike s s ≡ false
alike true = refl
alike false = refl

pub mul_most : {x y : Float} {p q p' q' P Q : ℕ} → AtMost x p q → AtMost y p' q' → Representable P Q → p * p' * Q ≤ P * (q * q')
    → AtMost (x ⊗ y) P Q
mul_most {x} {y} {p} {q} {p'} {q'} {P} {Q} a b H h =
    subst (λ (z : Float). AtMost z P Q) (sym (mul_is x y a.is_finite b.is_finite))
    (round_most (unlike (negative x) (negative y)) (num x * num y) (den x * den y) (mul-pos (den_pos x) (den_pos y)) H
    (through (num x * num y) (p * p') P (den x * den y) (q * q') Q (mul-pos a.divisor b.divisor)
    (products (num x) (num y) q q' p p' (den x) (den y) a.at_most b.at_most) h))

pub mul_least : {x y : Float} {p q p' q' P Q : ℕ} → AtLeast x p q → AtLeast y p' q' → Representable P Q → finite_of (x ⊗ y) ≡ true
    → P * (q * q') ≤ p * p' * Q → AtLeast (x ⊗ y) P Q
mul_least {x} {y} {p} {q} {p'} {q'} {P} {Q} a b H f h =
    let e : x ⊗ y ≡ round binary64 false (num x * num y) (den x * den y) =
    mul_is x y a.is_finite b.is_finite
    ∙ ap (λ (s : Bool). round binary64 s (num x * num y) (den x * den y))
    (plus (negative x) (negative y) a.not_negative b.not_negative) in
    subst (λ (z : Float). AtLeast z P Q) (sym e)
    (round_least (num x * num y) (den x * den y) (mul-pos (den_pos x) (den_pos y)) H (subst (λ (z : Float). finite_of z ≡ true) e f)
    (through P (p * p') (num x * num y) Q (q * q') (den x * den y) (mul-pos a.divisor b.divisor) h
    (products p p' (den x) (den y) (num x) (num y) q q' a.at_least b.at_least)))

-- If x and its square are finite, the square is not negative.
pub square_least : (x : Float) → finite_of x ≡ true → Representable 0 1 → finite_of (x ⊗ x) ≡ true → AtLeast (x ⊗ x) 0 1
square_least x g H f =
    let e : x ⊗ x ≡ round binary64 false (num x * num x) (den x * den x) =
    mul_is x x g g ∙ ap (λ (s : Bool). round binary64 s (num x * num x) (den x * den x)) (alike (negative x)) in
    subst (λ (z : Float). AtLeast z 0 1) (sym e)
    (round_least (num x * num x) (den x * den x) (mul-pos (den_pos x) (den_pos x)) H (subst (λ (z : Float). finite_of z ≡ true) e f)
    (zero_product (den x * den x) (num x * num x * 1)))

-- ---- quotients
pub div_most : {x y : Float} {p q p' q' P Q : ℕ} → AtMost x p q → AtLeast y p' q' → 0 < p' → Representable P Q
    → p * q' * Q ≤ P * (q * p') → AtMost (x ⊘ y) P Q
div_most {x} {y} {p} {q} {p'} {q'} {P} {Q} a b Y H h =
    let N = above_zero b Y in
    subst (λ (z : Float). AtMost z P Q) (sym (div_is x y a.is_finite b.is_finite N))
    (round_most (unlike (negative x) (negative y)) (num x * den y) (num y * den x) (mul-pos N (den_pos x)) H
    (through (num x * den y) (p * q') P (num y * den x) (q * p') Q (mul-pos a.divisor Y)
    (quotients (num x) (den y) q p' p q' (num y) (den x) a.at_most b.at_least) h))

pub div_least : {x y : Float} {p q p' q' l m P Q : ℕ} → AtLeast x p q → AtMost y p' q' → AtLeast y l m → 0 < l → 0 < p'
    → Representable P Q → finite_of (x ⊘ y) ≡ true → P * (q * p') ≤ p * q' * Q
    → AtLeast (x ⊘ y) P Q
div_least {x} {y} {p} {q} {p'} {q'} {l} {m} {P} {Q} a b b' L R H f h =
    let N = above_zero b' L in
    let e : x ⊘ y ≡ round binary64 false (num x * den y) (num y * den x) =
    div_is x y a.is_finite b.is_finite N
    ∙ ap (λ (s : Bool). round binary64 s (num x * den y) (num y * den x))
    (plus (negative x) (negative y) a.not_negative b'.not_negative) in
    subst (λ (z : Float). AtLeast z P Q) (sym e)
    (round_least (num x * den y) (num y * den x) (mul-pos N (den_pos x)) H (subst (λ (z : Float). finite_of z ≡ true) e f)
    (through P (p * q') (num x * den y) Q (q * p') (num y * den x) (mul-pos a.divisor R) h
    (least_quotients (num x) (den y) q p' p q' (num y) (den x) a.at_least b.at_most)))

-- ---- sums
sum_most : {P Q : ℕ} (s t : Bool) (a b c : ℕ) → 0 < c → Representable P Q → (a + b) * Q ≤ P * c → AtMost (sum binary64 s a t b c) P Q
unfolding sum
sum_most {P} {Q} s t a b c C H h = by (beq s t) (ltb a b)
  where
    under : (d : ℕ) → d ≤ a + b → d * Q ≤ P * c
    under d k = le_trans (mul-le-mul_right Q k) h

    by : (u v : Bool)
        → AtMost (cond u (round binary64 s (a + b) c) (cond v (round binary64 t (b - a) c) (round binary64 (s && ltb b a) (a - b) c))) P Q
    by true v = round_most s (a + b) c C H h
    by false true = round_most t (b - a) c C H (under (b - a) (omega arith))
    by false false = round_most (s && ltb b a) (a - b) c C H (under (a - b) (omega arith))

pub add_most : {x y : Float} {p q p' q' P Q : ℕ} → AtMost x p q → AtMost y p' q' → Representable P Q
    → (p * q' + p' * q) * Q ≤ P * (q * q') → AtMost (x ⊕ y) P Q
add_most {x} {y} {p} {q} {p'} {q'} {P} {Q} a b H h =
    subst (λ (z : Float). AtMost z P Q) (sym (add_is x y a.is_finite b.is_finite))
    (sum_most (negative x) (negative y) (num x * den y) (num y * den x) (den x * den y) (mul-pos (den_pos x) (den_pos y)) H
    (through (num x * den y + num y * den x) (p * q' + p' * q) P (den x * den y) (q * q') Q (mul-pos a.divisor b.divisor)
    (sums (num x) (den x) (num y) (den y) p q p' q' a.at_most b.at_most) h))

pub sub_most : {x y : Float} {p q p' q' P Q : ℕ} → AtMost x p q → AtMost y p' q' → Representable P Q
    → (p * q' + p' * q) * Q ≤ P * (q * q') → AtMost (x ⊖ y) P Q
sub_most {x} {y} {P = P} {Q = Q} a b H h = subst (λ (z : Float). AtMost z P Q) (sym (sub_is x y)) (add_most a (neg_most b) H h)

-- If both signs are +, `sum` rounds the sum of the two magnitudes.
sum_plus : (s t : Bool) (a b c : ℕ) → s ≡ false → t ≡ false → sum binary64 s a t b c ≡ round binary64 false (a + b) c
unfolding sum
sum_plus false false a b c e f = refl
sum_plus false true a b c e f = absurd (true≢false f)
sum_plus true t a b c e f = absurd (true≢false e)

pub add_least : {x y : Float} {p q p' q' P Q : ℕ} → AtLeast x p q → AtLeast y p' q' → Representable P Q → finite_of (x ⊕ y) ≡ true
    → P * (q * q') ≤ (p * q' + p' * q) * Q → AtLeast (x ⊕ y) P Q
add_least {x} {y} {p} {q} {p'} {q'} {P} {Q} a b H f h =
    let e : x ⊕ y ≡ round binary64 false (num x * den y + num y * den x) (den x * den y) =
    add_is x y a.is_finite b.is_finite
    ∙ sum_plus (negative x) (negative y) (num x * den y) (num y * den x) (den x * den y) a.not_negative b.not_negative in
    subst (λ (z : Float). AtLeast z P Q) (sym e)
    (round_least (num x * den y + num y * den x) (den x * den y) (mul-pos (den_pos x) (den_pos y)) H
    (subst (λ (z : Float). finite_of z ≡ true) e f)
    (through P (p * q' + p' * q) (num x * den y + num y * den x) Q (q * q') (den x * den y) (mul-pos a.divisor b.divisor) h
    (least_sums (num x) (den x) (num y) (den y) p q p' q' a.at_least b.at_least)))

-- ---- differences
-- Let P / Q be an f64, and let x and y be numbers that are not negative, with x ≤ p / q and p' / q' ≤ y. If
-- p / q ≤ P / Q + p' / q', then x ⊖ y is at most P / Q (`sub_not_above`).
sum_not_above : {P Q : ℕ} (s t : Bool) (a b c : ℕ) → 0 < c → Representable P Q → s ≡ false → t ≡ true → (a - b) * Q ≤ P * c
    → finite_of (sum binary64 s a t b c) ≡ true → T (fits binary64 (sum binary64 s a t b c)) → NotAbove (sum binary64 s a t b c) P Q
unfolding sum
sum_not_above true t a b c C H e f h g i = absurd (true≢false e)
sum_not_above false false a b c C H e f h g i = absurd (false≢true f)
sum_not_above {P} {Q} false true a b c C H e f h g i = by (ltb a b) g i
  where
    by : (v : Bool) → finite_of (cond v (round binary64 true (b - a) c) (round binary64 false (a - b) c)) ≡ true
        → T (fits binary64 (cond v (round binary64 true (b - a) c) (round binary64 false (a - b) c)))
        → NotAbove (cond v (round binary64 true (b - a) c) (round binary64 false (a - b) c)) P Q
    by true g i =
        let r = round_negative (b - a) c in
        record { divisor = H.divisor; is_f64 = i; is_finite = g; not_above = λ n. absurd (true≢false (sym r ∙ n)) }
    by false g i = record { divisor = H.divisor; is_f64 = i; is_finite = g; not_above = λ n. (round_most false (a - b) c C H h).at_most }

pub sub_not_above : {x y : Float} {p q p' q' l m P Q : ℕ} → AtMost x p q → negative x ≡ false → AtLeast y p' q' → AtMost (x ⊖ y) l m
    → Representable P Q → p * (Q * q') ≤ (P * q' + p' * Q) * q → NotAbove (x ⊖ y) P Q
sub_not_above {x} {y} {p} {q} {p'} {q'} {l} {m} {P} {Q} a s b r H h =
    let e : x ⊖ y ≡ sum binary64 (negative x) (num x * den y) (negative (neg y)) (num y * den x) (den x * den y) =
    sub_is x y ∙ add_is x (neg y) a.is_finite (neg_finite y ∙ b.is_finite)
    ∙ ap (λ (d : ℕ). sum binary64 (negative x) (num x * d) (negative (neg y)) (num (neg y) * den x) (den x * d)) (neg_den y)
    ∙ ap (λ (n : ℕ). sum binary64 (negative x) (num x * den y) (negative (neg y)) (n * den x) (den x * den y)) (neg_num y) in
    subst (λ (z : Float). NotAbove z P Q) (sym e)
    (sum_not_above (negative x) (negative (neg y)) (num x * den y) (num y * den x) (den x * den y) (mul-pos (den_pos x) (den_pos y)) H
    s (neg_sign y b.is_finite ∙ ap not b.not_negative)
    (differences (num x) (den x) (num y) (den y) p q p' q' P Q a.divisor b.divisor a.at_most b.at_least h)
    (subst (λ (z : Float). finite_of z ≡ true) e r.is_finite) (subst (λ (z : Float). T (fits binary64 z)) e r.is_f64))

-- Let P / Q be an f64, p / q ≤ x and |y| ≤ p' / q'. If P / Q + p' / q' ≤ p / q and x ⊕ y is finite, then x ⊕ y is at
-- least P / Q (`add_any_least`).
sum_any_least : {P Q : ℕ} (s t : Bool) (a b c : ℕ) → 0 < c → Representable P Q → s ≡ false → b ≤ a → P * c ≤ (a - b) * Q
    → finite_of (sum binary64 s a t b c) ≡ true → AtLeast (sum binary64 s a t b c) P Q
unfolding sum
sum_any_least true t a b c C H e l h g = absurd (true≢false e)
sum_any_least {P} {Q} false false a b c C H e l h g = round_least (a + b) c C H g (le_trans h (mul-le-mul_right Q (wider a b)))
  where
    wider : (a b : ℕ) → a - b ≤ a + b
    wider a b = omega arith
sum_any_least {P} {Q} false true a b c C H e l h g = by (ltb a b) (ltb→lt a b) g
  where
    by : (v : Bool) → (T v → a < b) → finite_of (cond v (round binary64 true (b - a) c) (round binary64 false (a - b) c)) ≡ true
        → AtLeast (cond v (round binary64 true (b - a) c) (round binary64 false (a - b) c)) P Q
    by true k g = absurd (not-le_of_lt (k tt) l)
    by false k g = round_least (a - b) c C H g h

pub add_any_least : {x y : Float} {p q p' q' P Q : ℕ} → AtLeast x p q → AtMost y p' q' → Representable P Q → finite_of (x ⊕ y) ≡ true
    → (P * q' + p' * Q) * q ≤ p * (Q * q') → AtLeast (x ⊕ y) P Q
add_any_least {x} {y} {p} {q} {p'} {q'} {P} {Q} a b H f h =
    let e = add_is x y a.is_finite b.is_finite in
    subst (λ (z : Float). AtLeast z P Q) (sym e)
    (sum_any_least (negative x) (negative y) (num x * den y) (num y * den x) (den x * den y) (mul-pos (den_pos x) (den_pos y)) H
    a.not_negative
    (first_larger (num x) (den x) (num y) (den y) p q p' q' P Q a.divisor b.divisor H.divisor a.at_least b.at_most h)
    (least_differences (num x) (den x) (num y) (den y) p q p' q' P Q a.divisor b.divisor a.at_least b.at_most h)
    (subst (λ (z : Float). finite_of z ≡ true) e f))

pub sub_least : {x y : Float} {p q p' q' P Q : ℕ} → AtLeast x p q → AtMost y p' q' → Representable P Q → finite_of (x ⊖ y) ≡ true
    → (P * q' + p' * Q) * q ≤ p * (Q * q') → AtLeast (x ⊖ y) P Q
sub_least {x} {y} {P = P} {Q = Q} a b H f h =
    let g = subst (λ (z : Float). finite_of z ≡ true) (sub_is x y) f in
    subst (λ (z : Float). AtLeast z P Q) (sym (sub_is x y)) (add_any_least a (neg_most b) H g h)
