-- The bounds of every f64 in the problem of a question that no entrance check refuses: none of its square roots is
-- refused, every f64 is finite, |L| is below 1, and the wanted time is above 0. Definitions only; proofs/Past.antt
-- shows that the bounds hold (`past_bounds`).
use Rattle.std.specs.Prelude.{◌≡◌, true, List, ℕ, ◌^◌, Float, Some}
use Rattle.float64.specs.Notation.{◌⊖◌, ◌⊗◌, ◌⊘◌, ◌≺◌, 0F, 1F, 2F}
use Rattle.float64.specs.Value.{finite_of, magnitude_of}
use Rattle.float64.specs.Root.{root_of}
use Rattle.float64.specs.declared.Vector.{Vector}
use Rattle.vectors.specs.Vectors.{norm_squared, difference, root_or_nan}
use Rattle.geometry.specs.Triangles.{shape_of, at_least_zero}
use Rattle.geometry.specs.declared.Shape.{Shape}
use Rattle.records.specs.Records.{question_of}
use Rattle.entrance.specs.Judge.{is_long_way, problem_of}
use Rattle.entrance.specs.declared.Problem.{Problem}
use Rattle.bound_laws.specs.Bounds.{AtMost, Within, VectorAtMost}

-- The operand of the root in L: 1 − c/s, or 0 if that is below 0.
abbrev pub lambda_operand : Float → Float → Float
lambda_operand c s = at_least_zero (1F ⊖ c ⊘ s)

-- The operand of the root in the wanted time: 2·mu / s³.
abbrev pub wanted_operand : Float → Float → Float
wanted_operand mu s = (2F ⊗ mu) ⊘ ((s ⊗ s) ⊗ s)

-- The bounds of g, the shape of the positions p1 and p2.
pub record ShapeBounds (p1 p2 : Vector) (g : Shape) : Type 0 where
  -- No root is refused: not those of q1 and q2, nor those in the chord, L and σ, nor that of hh.
  pub root1 : root_of g.q1 ≡ Some g.radius1
  pub root2 : root_of g.q2 ≡ Some g.radius2
  pub chord_root : root_of (norm_squared (difference p2 p1)) ≡ Some g.triangle.chord
  pub lambda_root : let x = lambda_operand g.triangle.chord g.triangle.semiperimeter in root_of x ≡ Some (root_or_nan x)
  pub sigma_root : root_of (1F ⊖ g.triangle.rho ⊗ g.triangle.rho) ≡ Some g.triangle.sigma
  pub plane_root : root_of g.hh ≡ Some (root_or_nan g.hh)
  -- Both radii are from 1 to 2^40, c is from 2^-11 to 2^42, s is from 1 to 2^42, and c/s is from 2^-10 to 2^42.
  pub radius1 : Within g.radius1 1 1 (2 ^ 40) 1
  pub radius2 : Within g.radius2 1 1 (2 ^ 40) 1
  pub chord : Within g.triangle.chord 1 (2 ^ 11) (2 ^ 42) 1
  pub semiperimeter : Within g.triangle.semiperimeter 1 1 (2 ^ 42) 1
  pub ratio : Within (g.triangle.chord ⊘ g.triangle.semiperimeter) 1 (2 ^ 10) (2 ^ 42) 1
  -- |L| ≤ 1 − 2^-11, |ρ| ≤ 2^52, and σ is from 2^-537 to 1.
  pub lambda : AtMost g.triangle.lambda 2047 2048
  pub rho : AtMost g.triangle.rho (2 ^ 52) 1
  pub sigma : Within g.triangle.sigma 1 (2 ^ 537) 1 1
  -- Every component of h is at most 2^81 in magnitude, hh is from 2^-44 to 2^164, and the root of hh is from 2^-22 to
  -- 2^82.
  pub h : VectorAtMost g.h (2 ^ 81) 1
  pub hh : Within g.hh 1 (2 ^ 44) (2 ^ 164) 1
  pub hh_root : Within (root_or_nan g.hh) 1 (2 ^ 22) (2 ^ 82) 1

-- The bounds of a problem.
pub record ProblemBounds (p : Problem) : Type 0 where
  -- mu is from 1 to 2^60. The operand of the root in the wanted time is from 2^-125 to 2^61, and that root is not
  -- refused.
  pub mu : Within p.mu 1 1 (2 ^ 60) 1
  pub operand : Within (wanted_operand p.mu p.triangle.semiperimeter) 1 (2 ^ 125) (2 ^ 61) 1
  pub operand_root : let x = wanted_operand p.mu p.triangle.semiperimeter in root_of x ≡ Some (root_or_nan x)
  -- The wanted time is from 2^-63 to 2^71. It is finite and above 0.
  pub wanted : Within p.wanted 1 (2 ^ 63) (2 ^ 71) 1
  pub wanted_finite : finite_of p.wanted ≡ true
  pub wanted_above : (0F ≺ p.wanted) ≡ true
  -- |L| is below 1, by the comparison that step 1 of the time makes.
  pub lambda_below : (magnitude_of p.triangle.lambda ≺ 1F) ≡ true
  -- The normal and the unit vectors are finite: their components are at most 2^103 and 2^40 in magnitude.
  pub normal : VectorAtMost p.frame.normal (2 ^ 103) 1
  pub unit1 : VectorAtMost p.frame.unit1 (2 ^ 40) 1
  pub unit2 : VectorAtMost p.frame.unit2 (2 ^ 40) 1

-- The bounds of a question's bytes: of its time, of the shape of its positions, and of its problem.
pub record QuestionBounds (s : List ℕ) : Type 0 where
  pub time : Within (question_of s).time 1 1 (2 ^ 40) 1
  pub shape : let q = question_of s in ShapeBounds q.r1 q.r2 (shape_of q.r1 q.r2 (is_long_way q))
  pub problem : let q = question_of s in ProblemBounds (problem_of q (shape_of q.r1 q.r2 (is_long_way q)))
