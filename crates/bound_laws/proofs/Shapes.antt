-- Bounds of q, h and hh, if the components of both positions are at most 2^40 in magnitude. Bounds of s, from those of
-- the radii and the chord. Bounds of the wanted time, from those of mu, s and the time. There is one lemma for each
-- step of 01, and it follows from the bounds of the operations.
use Prim.Native.Nat.{ℕ, ◌+◌, ◌*◌, ◌^◌, ◌≤◌}
use native.Mathlib.Omega.{arith}
use lib.Dec.{lit<, lit≤}
use lib.Ieee.{Float}
use Rattle.float64.specs.declared.Vector.{Vector}
use Rattle.vectors.specs.Vectors.{norm_squared, difference, cross}
use Rattle.geometry.specs.Triangles.{semiperimeter_of, wanted_of}
use Rattle.bound_laws.specs.Bounds.{Representable, Within, VectorAtMost}
use Rattle.bound_laws.specs.QuestionBounds.{wanted_operand}
use Rattle.bound_laws.proofs.Representable.{power_of_two, dyadic}
use Rattle.bound_laws.proofs.Operations.{mul_most, mul_least, square_least, div_most, div_least, add_most, add_least, sub_most}
use Rattle.bound_laws.proofs.Roots.{root_most, root_least, least_not_below}
use Rattle.bound_laws.proofs.Comparisons.{two_most, two_least}

zero_representable : Representable 0 1
zero_representable = dyadic 0 0 (lit< tt) (lit≤ tt)

-- ---- q of a vector whose components are at most a in magnitude
pub norm_within : (v : Vector) (a : ℕ) → VectorAtMost v a 1 → Representable (a * a) 1 → Representable (2 * (a * a)) 1
    → Representable (4 * (a * a)) 1 → Within (norm_squared v) 0 1 (4 * (a * a)) 1
unfolding norm_squared
norm_within v a C H H2 H4 =
    let x = mul_most C.x C.x H (one (a * a)) in
    let y = mul_most C.y C.y H (one (a * a)) in
    let z = mul_most C.z C.z H (one (a * a)) in
    let xy = add_most x y H2 (two (a * a)) in
    let xyz = add_most xy z H4 (three (a * a)) in
    let x' = square_least v.x C.x.is_finite zero_representable x.is_finite in
    let y' = square_least v.y C.y.is_finite zero_representable y.is_finite in
    let z' = square_least v.z C.z.is_finite zero_representable z.is_finite in
    let xy' = add_least x' y' zero_representable xy.is_finite (lit≤ tt) in
    record { least = add_least xy' z' zero_representable xyz.is_finite (lit≤ tt); most = xyz }
  where
    one : (b : ℕ) → b * 1 ≤ b * (1 * 1)
    one b = omega arith

    two : (b : ℕ) → (b * 1 + b * 1) * 1 ≤ 2 * b * (1 * 1)
    two b = omega arith

    three : (b : ℕ) → (2 * b * 1 + b * 1) * 1 ≤ 4 * b * (1 * 1)
    three b = omega arith

pub position_norm : (v : Vector) → VectorAtMost v (2 ^ 40) 1 → Within (norm_squared v) 0 1 (2 ^ 82) 1
position_norm v C = norm_within v (2 ^ 40) C (power_of_two 80 (lit≤ tt)) (power_of_two 81 (lit≤ tt)) (power_of_two 82 (lit≤ tt))

pub difference_vector_most : (a b : Vector) → VectorAtMost a (2 ^ 40) 1 → VectorAtMost b (2 ^ 40) 1
    → VectorAtMost (difference a b) (2 ^ 41) 1
unfolding difference
difference_vector_most a b A B = let H = power_of_two 41 (lit≤ tt) in record {
  x = sub_most A.x B.x H (lit≤ tt);
  y = sub_most A.y B.y H (lit≤ tt);
  z = sub_most A.z B.z H (lit≤ tt);
}

pub difference_norm : (v : Vector) → VectorAtMost v (2 ^ 41) 1 → Within (norm_squared v) 0 1 (2 ^ 84) 1
difference_norm v C = norm_within v (2 ^ 41) C (power_of_two 82 (lit≤ tt)) (power_of_two 83 (lit≤ tt)) (power_of_two 84 (lit≤ tt))

pub cross_most : (a b : Vector) → VectorAtMost a (2 ^ 40) 1 → VectorAtMost b (2 ^ 40) 1 → VectorAtMost (cross a b) (2 ^ 81) 1
unfolding cross
cross_most a b A B =
    let P = power_of_two 80 (lit≤ tt) in
    let H = power_of_two 81 (lit≤ tt) in
    record {
      x = sub_most (mul_most A.y B.z P (lit≤ tt)) (mul_most A.z B.y P (lit≤ tt)) H (lit≤ tt);
      y = sub_most (mul_most A.z B.x P (lit≤ tt)) (mul_most A.x B.z P (lit≤ tt)) H (lit≤ tt);
      z = sub_most (mul_most A.x B.y P (lit≤ tt)) (mul_most A.y B.x P (lit≤ tt)) H (lit≤ tt);
    }

pub cross_norm : (v : Vector) → VectorAtMost v (2 ^ 81) 1 → Within (norm_squared v) 0 1 (2 ^ 164) 1
cross_norm v C = norm_within v (2 ^ 81) C (power_of_two 162 (lit≤ tt)) (power_of_two 163 (lit≤ tt)) (power_of_two 164 (lit≤ tt))

-- ---- s, from the radii and the chord
pub semiperimeter_within : (r1 r2 c : Float) → Within r1 1 1 (2 ^ 40) 1 → Within r2 1 1 (2 ^ 40) 1 → Within c 0 1 (2 ^ 42) 1
    → Within (semiperimeter_of r1 r2 c) 1 1 (2 ^ 42) 1
unfolding semiperimeter_of
semiperimeter_within r1 r2 c R1 R2 C =
    let a = add_most R1.most R2.most (power_of_two 41 (lit≤ tt)) (lit≤ tt) in
    let a' = add_least R1.least R2.least (dyadic 2 0 (lit< tt) (lit≤ tt)) a.is_finite (lit≤ tt) in
    let b = add_most a C.most (power_of_two 43 (lit≤ tt)) (lit≤ tt) in
    let b' = add_least a' C.least (dyadic 2 0 (lit< tt) (lit≤ tt)) b.is_finite (lit≤ tt) in
    let m = div_most b two_least (lit< tt) (power_of_two 42 (lit≤ tt)) (lit≤ tt) in
    let m' = div_least b' two_most two_least (lit< tt) (lit< tt) (dyadic 1 0 (lit< tt) (lit≤ tt)) m.is_finite (lit≤ tt) in
    record { least = m'; most = m }

-- ---- the wanted time T*
pub operand_within : (mu s : Float) → Within mu 1 1 (2 ^ 60) 1 → Within s 1 1 (2 ^ 42) 1
    → Within (wanted_operand mu s) 1 (2 ^ 125) (2 ^ 61) 1
operand_within mu s M S =
    let n = mul_most two_most M.most (power_of_two 61 (lit≤ tt)) (lit≤ tt) in
    let n' = mul_least two_least M.least (dyadic 2 0 (lit< tt) (lit≤ tt)) n.is_finite (lit≤ tt) in
    let s2 = mul_most S.most S.most (power_of_two 84 (lit≤ tt)) (lit≤ tt) in
    let s2' = mul_least S.least S.least (dyadic 1 0 (lit< tt) (lit≤ tt)) s2.is_finite (lit≤ tt) in
    let s3 = mul_most s2 S.most (power_of_two 126 (lit≤ tt)) (lit≤ tt) in
    let s3' = mul_least s2' S.least (dyadic 1 0 (lit< tt) (lit≤ tt)) s3.is_finite (lit≤ tt) in
    let d = div_most n s3' (lit< tt) (power_of_two 61 (lit≤ tt)) (lit≤ tt) in
    record { least = div_least n' s3 s3' (lit< tt) (lit< tt) (dyadic 1 125 (lit< tt) (lit≤ tt)) d.is_finite (lit≤ tt); most = d }

pub wanted_within : (mu s time : Float) → Within mu 1 1 (2 ^ 60) 1 → Within s 1 1 (2 ^ 42) 1 → Within time 1 1 (2 ^ 40) 1
    → Within (wanted_of mu s time) 1 (2 ^ 63) (2 ^ 71) 1
unfolding wanted_of
wanted_within mu s time M S D =
    let o = operand_within mu s M S in
    let r = root_most o.most (least_not_below o.least) (power_of_two 31 (lit≤ tt)) (lit≤ tt) in
    let r' = root_least o.most.is_f64 o.least (lit< tt) (dyadic 1 63 (lit< tt) (lit≤ tt)) (lit≤ tt) in
    let w = mul_most r D.most (power_of_two 71 (lit≤ tt)) (lit≤ tt) in
    record { least = mul_least r' D.least (dyadic 1 63 (lit< tt) (lit≤ tt)) w.is_finite (lit≤ tt); most = w }
