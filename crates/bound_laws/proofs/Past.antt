-- The bounds of every question that no entrance check refuses (`past_bounds`). No square root in its triangle, wanted
-- time or frame is refused, every number is finite, |L| is below 1, and the wanted time is finite and above 0. The
-- proof follows 01's steps, starting from the components of the positions. The bounds of each step follow from those of
-- the earlier steps and from the check on the step's result, if there is one.
use mathlib.Core.Path.{◌≡◌}
use mathlib.Core.Bool.{Bool, true, false, ◌||◌, cond}
use mathlib.Core.List.{List}
use Prim.Native.Nat.{ℕ, ◌^◌}
use lib.Dec.{T, lit<, lit≤}
use lib.Ieee.{Float, binary64, fits}
use lib.Ieee.Bits.{of_bits-fits}
use Rattle.float64.specs.Notation.{◌⊖◌, ◌⊗◌, ◌⊘◌, 1F}
use Rattle.float64.specs.declared.Vector.{Vector}
use Rattle.vectors.specs.Vectors.{norm_squared, difference, cross, divided_by, opposite, root_or_nan}
use Rattle.geometry.specs.Triangles.{shape_of, triangle_of, semiperimeter_of, at_least_zero, frame_of}
use Rattle.geometry.specs.Conditions.{outside_of, 2^40F, radius_outside, no_plane, short_chord, flat_triangle}
use Rattle.geometry.specs.declared.Shape.{Shape}
use Rattle.records.specs.Records.{question_of}
use Rattle.records.specs.declared.Question.{Question}
use Rattle.entrance.specs.Conditions.{far_off, position_far, positions_far, mu_outside, time_outside}
use Rattle.entrance.specs.Judge.{checks, is_long_way, problem_of}
use Rattle.entrance.specs.Table.{applies_in, condition_of}
use Rattle.bound_laws.specs.Bounds.{AtMost, Within, VectorAtMost}
use Rattle.bound_laws.specs.QuestionBounds.{wanted_operand, ShapeBounds, ProblemBounds, QuestionBounds}
use Rattle.bound_laws.proofs.Representable.{power_of_two}
use Rattle.bound_laws.proofs.Operations.{most_weaker, least_weaker}
use Rattle.bound_laws.proofs.Roots.{root_value, root_most, root_not_negative, least_not_below}
use Rattle.bound_laws.proofs.Comparisons.{both_false, component_most, within_40, within_60, at_least_zero_most}
use Rattle.bound_laws.proofs.Shapes.{position_norm, difference_vector_most, difference_norm, cross_most, cross_norm}
use Rattle.bound_laws.proofs.Shapes.{semiperimeter_within, operand_within, wanted_within}
use Rattle.bound_laws.proofs.Checks.{ratio_within, chord_within, lambda_operand_lem, lambda_most, below_one, is_above_zero}
use Rattle.bound_laws.proofs.Checks.{rho_most, sigma_operand, sigma_within, norm_least, plane_within, plane_root_lem}
use Rattle.bound_laws.proofs.Checks.{divided_most, opposite_most}

-- ---- the numbers of a question
-- Every number that is read from bytes is an f64 (`question_f64`).
record F64Vector (v : Vector) : Type 0 where
  x : T (fits binary64 v.x)
  y : T (fits binary64 v.y)
  z : T (fits binary64 v.z)

record F64Question (q : Question) : Type 0 where
  r1 : F64Vector q.r1
  r2 : F64Vector q.r2
  mu : T (fits binary64 q.mu)
  time : T (fits binary64 q.time)

question_f64 : (s : List ℕ) → F64Question (question_of s)
unfolding question_of
question_f64 s = record {
  r1 = record { x = of_bits-fits binary64 _; y = of_bits-fits binary64 _; z = of_bits-fits binary64 _ };
  r2 = record { x = of_bits-fits binary64 _; y = of_bits-fits binary64 _; z = of_bits-fits binary64 _ };
  mu = of_bits-fits binary64 _;
  time = of_bits-fits binary64 _;
}

position_most : (v : Vector) → F64Vector v → position_far v ≡ false → VectorAtMost v (2 ^ 40) 1
unfolding position_far
position_most v H h =
    let a = both_false (far_off v.x) (far_off v.y || far_off v.z) h in
    let b = both_false (far_off v.y) (far_off v.z) a.1 in
    record { x = component_most v.x H.x a.0; y = component_most v.y H.y b.0; z = component_most v.z H.z b.1 }

-- ---- the shape of two positions
module _ (p1 p2 : Vector) (long : Bool) (P1 : VectorAtMost p1 (2 ^ 40) 1) (P2 : VectorAtMost p2 (2 ^ 40) 1) where
  abbrev q1 : Float
  q1 = norm_squared p1

  abbrev q2 : Float
  q2 = norm_squared p2

  abbrev r1 : Float
  r1 = root_or_nan q1

  abbrev r2 : Float
  r2 = root_or_nan q2

  abbrev qc : Float
  qc = norm_squared (difference p2 p1)

  abbrev c : Float
  c = root_or_nan qc

  abbrev s : Float
  s = semiperimeter_of r1 r2 c

  abbrev hh : Float
  hh = norm_squared (cross p1 p2)

  abbrev ρ : Float
  ρ = (r1 ⊖ r2) ⊘ c

  Q1 : Within q1 0 1 (2 ^ 82) 1
  Q1 = position_norm p1 P1

  Q2 : Within q2 0 1 (2 ^ 82) 1
  Q2 = position_norm p2 P2

  QC : Within qc 0 1 (2 ^ 84) 1
  QC = difference_norm (difference p2 p1) (difference_vector_most p2 p1 P2 P1)

  first_radius : AtMost r1 (2 ^ 41) 1
  first_radius = root_most Q1.most (least_not_below Q1.least) (power_of_two 41 (lit≤ tt)) (lit≤ tt)

  second_radius : AtMost r2 (2 ^ 41) 1
  second_radius = root_most Q2.most (least_not_below Q2.least) (power_of_two 41 (lit≤ tt)) (lit≤ tt)

  C : Within c 0 1 (2 ^ 42) 1
  C = record {
    least = root_not_negative QC.most.is_f64 QC.least;
    most = root_most QC.most (least_not_below QC.least) (power_of_two 42 (lit≤ tt)) (lit≤ tt);
  }

  shape_bounds : radius_outside (shape_of p1 p2 long) ≡ false → no_plane (shape_of p1 p2 long) ≡ false
      → short_chord (shape_of p1 p2 long).triangle ≡ false → flat_triangle (shape_of p1 p2 long).triangle ≡ false
      → ShapeBounds p1 p2 (shape_of p1 p2 long)
  unfolding radius_outside no_plane short_chord flat_triangle shape_of triangle_of
  shape_bounds radii plane short flat =
      let rr = both_false (outside_of 1F 2^40F r1) (outside_of 1F 2^40F r2) radii in
      let R1 = within_40 r1 first_radius.is_f64 rr.0 in
      let R2 = within_40 r2 second_radius.is_f64 rr.1 in
      let S = semiperimeter_within r1 r2 c R1 R2 C in
      let K = ratio_within c s C S short in
      let C' = chord_within c s C S K in
      let R = rho_most r1 r2 c R1 R2 C' in
      let O = sigma_operand ρ R flat in
      let L = at_least_zero_most (1F ⊖ c ⊘ s) 1023 1024 (lambda_operand_lem (c ⊘ s) K) in
      let q1-within : Within q1 1 4 (2 ^ 82) 1 = record { least = norm_least q1 Q1 R1.least; most = Q1.most } in
      let q2-within : Within q2 1 4 (2 ^ 82) 1 = record { least = norm_least q2 Q2 R2.least; most = Q2.most } in
      let H = plane_within q1 q2 hh q1-within q2-within (cross_norm (cross p1 p2) (cross_most p1 p2 P1 P2)).most plane in
      record {
        root1 = root_value q1 Q1.most.is_finite (least_not_below Q1.least);
        root2 = root_value q2 Q2.most.is_finite (least_not_below Q2.least);
        chord_root = root_value qc QC.most.is_finite (least_not_below QC.least);
        lambda_root = root_value (at_least_zero (1F ⊖ c ⊘ s)) L.0.is_finite L.1;
        sigma_root = root_value (1F ⊖ ρ ⊗ ρ) O.most.is_finite (least_not_below O.least);
        plane_root = root_value hh H.most.is_finite (least_not_below H.least);
        radius1 = record { least = least_weaker _ _ R1.least (lit< tt) (lit≤ tt); most = R1.most };
        radius2 = R2;
        chord = C';
        semiperimeter = S;
        ratio = K;
        lambda = most_weaker _ _ (lambda_most c s long K) (lit< tt) (lit≤ tt);
        rho = R;
        sigma = sigma_within ρ O;
        h = cross_most p1 p2 P1 P2;
        hh = H;
        hh_root = plane_root_lem hh H;
      }

-- ---- the problem of a question
normal_most : (v : Vector) (p q : ℕ) (b : Bool) → VectorAtMost v p q → VectorAtMost (cond b (opposite v) v) p q
normal_most v p q true h = opposite_most v p q h
normal_most v p q false h = h

problem_bounds : (q : Question) (g : Shape) → VectorAtMost q.r1 (2 ^ 40) 1 → VectorAtMost q.r2 (2 ^ 40) 1
    → ShapeBounds q.r1 q.r2 g → Within q.mu 1 1 (2 ^ 60) 1 → Within q.time 1 1 (2 ^ 40) 1
    → ProblemBounds (problem_of q g)
unfolding problem_of frame_of
problem_bounds q g P1 P2 G M D =
    let s = g.triangle.semiperimeter in
    let root = root_or_nan g.hh in
    let n = divided_most g.h root (2 ^ 81) (2 ^ 103) (2 ^ 22) G.h G.hh_root.least (power_of_two 103 (lit≤ tt)) (lit≤ tt) in
    let o = operand_within q.mu s M G.semiperimeter in
    let w = wanted_within q.mu s q.time M G.semiperimeter D in
    record {
      operand = o;
      operand_root = root_value (wanted_operand q.mu s) o.most.is_finite (least_not_below o.least);
      wanted = record { least = least_weaker _ _ w.least (lit< tt) (lit≤ tt); most = w.most };
      wanted_finite = w.most.is_finite;
      wanted_above = is_above_zero w.least (lit< tt);
      lambda_below = below_one g.triangle.lambda G.lambda;
      mu = M;
      normal = normal_most (divided_by g.h root) (2 ^ 103) 1 (is_long_way q) n;
      unit1 = divided_most q.r1 g.radius1 (2 ^ 40) (2 ^ 40) 1 P1 G.radius1.least (power_of_two 40 (lit≤ tt)) (lit≤ tt);
      unit2 = divided_most q.r2 g.radius2 (2 ^ 40) (2 ^ 40) 1 P2 G.radius2.least (power_of_two 40 (lit≤ tt)) (lit≤ tt);
    }

-- ---- the theorem
-- What checks 2 to 5 and 8 to 10 say about a question that passes them.
record NoFault (q : Question) (g : Shape) : Type 0 where
  positions : positions_far q ≡ false
  radii : radius_outside g ≡ false
  mu : mu_outside q ≡ false
  time : time_outside q ≡ false
  plane : no_plane g ≡ false
  chord : short_chord g.triangle ≡ false
  flat : flat_triangle g.triangle ≡ false

no_fault : (s : List ℕ) (room : ℕ) → ((n : ℕ) → condition_of s room n ≡ false)
    → let q = question_of s in NoFault q (shape_of q.r1 q.r2 (is_long_way q))
unfolding condition_of applies_in checks
no_fault s room past = record {
  positions = past 2;
  radii = past 3;
  mu = past 4;
  time = past 5;
  plane = past 8;
  chord = past 9;
  flat = past 10;
}

question_bounds : (s : List ℕ) → let q = question_of s in NoFault q (shape_of q.r1 q.r2 (is_long_way q)) → QuestionBounds s
unfolding positions_far mu_outside time_outside
question_bounds s P =
    let q = question_of s in
    let R = question_f64 s in
    let far = both_false (position_far q.r1) (position_far q.r2) P.positions in
    let P1 = position_most q.r1 R.r1 far.0 in
    let P2 = position_most q.r2 R.r2 far.1 in
    let G = shape_bounds q.r1 q.r2 (is_long_way q) P1 P2 P.radii P.plane P.chord P.flat in
    let M = within_60 q.mu R.mu P.mu in
    let D = within_40 q.time R.time P.time in
    record {
      time = D;
      shape = G;
      problem = problem_bounds q (shape_of q.r1 q.r2 (is_long_way q)) P1 P2 G M D;
    }

pub past_bounds : (s : List ℕ) (room : ℕ) → ((n : ℕ) → condition_of s room n ≡ false) → QuestionBounds s
past_bounds s room past = question_bounds s (no_fault s room past)
