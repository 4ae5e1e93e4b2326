-- Bounds that follow from checks 3, 8, 9 and 10: those of c and c/s, of L, ρ and σ, of hh, and of the frame. Some
-- checks test only the result of a later operation. The lower bound of the operand is then shown by contradiction
-- (`least_unless`): if the operand were smaller, the result would be too small as well.
use mathlib.Core.Path.{◌≡◌, ap, ◌∙◌}
use mathlib.Core.Bool.{Bool, true, false, not, cond, false≢true}
use Prim.Native.Nat.{ℕ, zero, suc, ◌*◌, ◌^◌, ◌≤◌, ◌<◌}
use native.Mathlib.Nat.{le_of_lt, le_of_eq, lt_irrefl, lt_of_lt_of_le, zero-mul, mul-le-mul_left}
use native.Mathlib.Omega.{arith}
use lib.Dec.{T, ltb, ltb→lt, nltb→le, lit<, lit≤}
use lib.Ieee.{Float, nan, inf, fin, neg, lt, up, down, of_bits}
use lib.Ieee.Positive.{num, den, den_pos}
use borrow.Author.Tests.{lt-ltb}
use Rattle.float64.specs.Notation.{◌⊖◌, ◌⊗◌, ◌⊘◌, ◌≺◌, ◌≼◌, bits, 0F, 1F}
use Rattle.float64.specs.Value.{finite_of, magnitude_of}
use Rattle.float64.specs.Nearness.{negative}
use Rattle.float64.specs.declared.Vector.{Vector}
use Rattle.float64.proofs.Comparisons.{some_above}
use Rattle.vectors.specs.Vectors.{divided_by, opposite, root_or_nan}
use Rattle.geometry.specs.Triangles.{at_least_zero, lambda_of}
use Rattle.bound_laws.specs.Bounds.{Representable, AtMost, AtLeast, NotAbove, Within, VectorAtMost}
use Rattle.bound_laws.proofs.Representable.{power_of_two, dyadic}
use Rattle.bound_laws.proofs.Operations.{mul_most, mul_least, square_least, div_most, sub_most, sub_not_above, neg_most, above_zero}
use Rattle.bound_laws.proofs.Roots.{root_most, root_least, least_not_below}
use Rattle.bound_laws.proofs.Comparisons.{zero_least, one_most, one_least, plane_factor_most, plane_factor_least}
use Rattle.bound_laws.proofs.Comparisons.{not_above_most, chord_limit_least, not_at_most, least_positive, at_least_zero_most}

-- ---- a lower bound by contradiction
-- If x cannot be at most L / M, then x is at least L / M.
least_unless : {x : Float} {p q l m : ℕ} (L M : ℕ) → 0 < M → AtMost x p q → AtLeast x l m → (AtMost x L M → ⊥) → AtLeast x L M
least_unless {x} L M C a b never = by (ltb (num x * M) (L * den x)) (ltb→lt (num x * M) (L * den x)) (nltb→le (num x * M) (L * den x))
  where
    by : (t : Bool) → (T t → num x * M < L * den x) → (T (not t) → L * den x ≤ num x * M) → AtLeast x L M
    by true f g = absurd (never (record { divisor = C; is_f64 = a.is_f64; is_finite = a.is_finite; at_most = le_of_lt (f tt) }))
    by false f g = record { divisor = C; is_finite = b.is_finite; not_negative = b.not_negative; at_least = g tt }

-- If q is at least twice m, no number is both at most 1 / q and at least 1 / m.
exclusive : {x : Float} (q m : ℕ) → AtMost x 1 q → AtLeast x 1 m → 0 < m → m * 2 ≤ q → ⊥
exclusive {x} q m a b M h = clash (num x) (den x) (den_pos x) a.at_most b.at_least
  where
    clash : (n d : ℕ) → 0 < d → n * q ≤ 1 * d → 1 * d ≤ n * m → ⊥
    clash n d D f g = halves (n * m) d D double g
      where
        double : n * m * 2 ≤ d
        double = omega (arith, mul-le-mul_left n h, f)

        halves : (z d : ℕ) → 0 < d → z * 2 ≤ d → 1 * d ≤ z → ⊥
        halves z d D f g = omega arith

-- ---- c and c/s
pub ratio_within : (c s : Float) → Within c 0 1 (2 ^ 42) 1 → Within s 1 1 (2 ^ 42) 1 → (c ⊘ s ≺ bits 0x3F50_0000_0000_0000) ≡ false
    → Within (c ⊘ s) 1 (2 ^ 10) (2 ^ 42) 1
ratio_within c s C S h =
    let m = div_most C.most S.least (lit< tt) (power_of_two 42 (lit≤ tt)) (lit≤ tt) in
    record { least = chord_limit_least (c ⊘ s) m.is_finite h; most = m }

pub chord_within : (c s : Float) → Within c 0 1 (2 ^ 42) 1 → Within s 1 1 (2 ^ 42) 1 → Within (c ⊘ s) 1 (2 ^ 10) (2 ^ 42) 1
    → Within c 1 (2 ^ 11) (2 ^ 42) 1
chord_within c s C S R = record {
  least = least_unless 1 (2 ^ 11) (lit< tt) C.most C.least (λ a.
      let short = div_most a S.least (lit< tt) (dyadic 1 11 (lit< tt) (lit≤ tt)) (lit≤ tt) in
      exclusive (2 ^ 11) (2 ^ 10) short R.least (lit< tt) (lit≤ tt));
  most = C.most;
}

-- ---- L
pub lambda_operand_lem : (v : Float) → Within v 1 (2 ^ 10) (2 ^ 42) 1 → NotAbove (1F ⊖ v) 1023 1024
lambda_operand_lem v W =
    let d = sub_most one_most W.most (power_of_two 43 (lit≤ tt)) (lit≤ tt) in
    sub_not_above one_most one_least.not_negative W.least d (dyadic 1023 10 (lit< tt) (lit≤ tt)) (lit≤ tt)

pub lambda_most : (c s : Float) (long : Bool) → Within (c ⊘ s) 1 (2 ^ 10) (2 ^ 42) 1 → AtMost (lambda_of c s long) 2047 2048
unfolding lambda_of
lambda_most c s long R =
    let k = at_least_zero_most (1F ⊖ c ⊘ s) 1023 1024 (lambda_operand_lem (c ⊘ s) R) in
    let r = root_most k.0 k.1 (dyadic 2047 11 (lit< tt) (lit≤ tt)) (lit≤ tt) in
    by long r
  where
    by : (b : Bool) → AtMost (root_or_nan (at_least_zero (1F ⊖ c ⊘ s))) 2047 2048
        → AtMost (cond b (neg (root_or_nan (at_least_zero (1F ⊖ c ⊘ s)))) (root_or_nan (at_least_zero (1F ⊖ c ⊘ s)))) 2047 2048
    by true r = neg_most r
    by false r = r

-- |L| < 1, in the form that step 1 of the time tests.
pub below_one : (x : Float) → AtMost x 2047 2048 → (magnitude_of x ≺ 1F) ≡ true
unfolding magnitude_of lt of_bits finite_of
below_one nan a = absurd (false≢true a.is_finite)
below_one (inf s) a = absurd (false≢true a.is_finite)
below_one (fin s m e) a = lt-ltb (m * up e * 1) (1 * 1 * down e) (strict (m * up e) (down e) (den_pos (fin s m e)) a.at_most)
  where
    strict : (n d : ℕ) → 0 < d → n * 2048 ≤ 2047 * d → n * 1 < 1 * 1 * d
    strict n d D h = omega arith

positive_above : (x : Float) → finite_of x ≡ true → negative x ≡ false → 0 < num x → (0F ≺ x) ≡ true
unfolding finite_of
positive_above nan f n h = absurd (false≢true f)
positive_above (inf s) f n h = absurd (false≢true f)
positive_above (fin s zero e) f n h = absurd (lt_irrefl 0 (lt_of_lt_of_le h (le_of_eq (zero-mul (up e)))))
positive_above (fin s (suc m) e) f n h = some_above s m e ∙ ap not n

pub is_above_zero : {x : Float} {p q : ℕ} → AtLeast x p q → 0 < p → (0F ≺ x) ≡ true
is_above_zero {x} a P = positive_above x a.is_finite a.not_negative (above_zero a P)

-- ---- ρ and σ
pub rho_most : (r1 r2 c : Float) → Within r1 1 1 (2 ^ 40) 1 → Within r2 1 1 (2 ^ 40) 1 → Within c 1 (2 ^ 11) (2 ^ 42) 1
    → AtMost ((r1 ⊖ r2) ⊘ c) (2 ^ 52) 1
rho_most r1 r2 c R1 R2 C =
    let d = sub_most R1.most R2.most (power_of_two 41 (lit≤ tt)) (lit≤ tt) in
    div_most d C.least (lit< tt) (power_of_two 52 (lit≤ tt)) (lit≤ tt)

pub sigma_operand : (ρ : Float) → AtMost ρ (2 ^ 52) 1 → (1F ⊖ ρ ⊗ ρ ≼ 0F) ≡ false → Within (1F ⊖ ρ ⊗ ρ) 1 (2 ^ 1074) 1 1
sigma_operand ρ R h =
    let rr = mul_most R R (power_of_two 104 (lit≤ tt)) (lit≤ tt) in
    let rr' = square_least ρ R.is_finite (dyadic 0 0 (lit< tt) (lit≤ tt)) rr.is_finite in
    let d = sub_most one_most rr (power_of_two 105 (lit≤ tt)) (lit≤ tt) in
    let up = sub_not_above one_most one_least.not_negative rr' d (dyadic 1 0 (lit< tt) (lit≤ tt)) (lit≤ tt) in
    let l = not_at_most (1F ⊖ ρ ⊗ ρ) 0F 0 1 d.is_finite zero_least h in
    record {
      least = least_positive (1F ⊖ ρ ⊗ ρ) d.is_f64 d.is_finite l.0.not_negative l.1;
      most = not_above_most up l.0.not_negative;
    }

pub sigma_within : (ρ : Float) → Within (1F ⊖ ρ ⊗ ρ) 1 (2 ^ 1074) 1 1 → Within (root_or_nan (1F ⊖ ρ ⊗ ρ)) 1 (2 ^ 537) 1 1
sigma_within ρ O = record {
  least = root_least O.most.is_f64 O.least (lit< tt) (dyadic 1 537 (lit< tt) (lit≤ tt)) (lit≤ tt);
  most = root_most O.most (least_not_below O.least) (dyadic 1 0 (lit< tt) (lit≤ tt)) (lit≤ tt);
}

-- ---- q of a position whose radius is at least 1
pub norm_least : (q : Float) → Within q 0 1 (2 ^ 82) 1 → AtLeast (root_or_nan q) 1 1 → AtLeast q 1 4
norm_least q Q R = least_unless 1 4 (lit< tt) Q.most Q.least (λ a.
    let small = root_most a (least_not_below Q.least) (dyadic 1 1 (lit< tt) (lit≤ tt)) (lit≤ tt) in
    exclusive 2 1 small R (lit< tt) (lit≤ tt))

-- ---- hh and its root
pub plane_within : (q1 q2 hh : Float) → Within q1 1 4 (2 ^ 82) 1 → Within q2 1 4 (2 ^ 82) 1 → AtMost hh (2 ^ 164) 1
    → (hh ≼ (q1 ⊗ q2) ⊗ bits 0x3D70_0000_0000_0000) ≡ false → Within hh 1 (2 ^ 44) (2 ^ 164) 1
plane_within q1 q2 hh Q1 Q2 H h =
    let a = mul_most Q1.most Q2.most (power_of_two 164 (lit≤ tt)) (lit≤ tt) in
    let a' = mul_least Q1.least Q2.least (dyadic 1 4 (lit< tt) (lit≤ tt)) a.is_finite (lit≤ tt) in
    let b = mul_most a plane_factor_most (power_of_two 124 (lit≤ tt)) (lit≤ tt) in
    let b' = mul_least a' plane_factor_least (dyadic 1 44 (lit< tt) (lit≤ tt)) b.is_finite (lit≤ tt) in
    record { least = (not_at_most hh ((q1 ⊗ q2) ⊗ bits 0x3D70_0000_0000_0000) 1 (2 ^ 44) H.is_finite b' h).0; most = H }

pub plane_root_lem : (hh : Float) → Within hh 1 (2 ^ 44) (2 ^ 164) 1 → Within (root_or_nan hh) 1 (2 ^ 22) (2 ^ 82) 1
plane_root_lem hh H = record {
  least = root_least H.most.is_f64 H.least (lit< tt) (dyadic 1 22 (lit< tt) (lit≤ tt)) (lit≤ tt);
  most = root_most H.most (least_not_below H.least) (power_of_two 82 (lit≤ tt)) (lit≤ tt);
}

-- ---- the vectors of the frame
pub divided_most : (v : Vector) (d : Float) (p P m : ℕ) → VectorAtMost v p 1 → AtLeast d 1 m → Representable P 1 → p * m ≤ P
    → VectorAtMost (divided_by v d) P 1
unfolding divided_by
divided_most v d p P m W D H h = record {
  x = div_most W.x D (lit< tt) H (side p m P h);
  y = div_most W.y D (lit< tt) H (side p m P h);
  z = div_most W.z D (lit< tt) H (side p m P h);
}
  where
    side : (a b c : ℕ) → a * b ≤ c → a * b * 1 ≤ c * (1 * 1)
    side a b c k = omega arith

pub opposite_most : (v : Vector) (p q : ℕ) → VectorAtMost v p q → VectorAtMost (opposite v) p q
unfolding opposite
opposite_most v p q W = record { x = neg_most W.x; y = neg_most W.y; z = neg_most W.z }
