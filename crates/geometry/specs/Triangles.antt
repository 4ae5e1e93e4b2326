-- The triangle of two positions, its plane, and the wanted time (01, Triangle). Definitions only.
use Rattle.std.specs.Prelude.{Bool, cond, Float}
use Rattle.std.specs.Float.Ieee.{neg}
use Rattle.float64.specs.Notation.{◌⊕◌, ◌⊖◌, ◌⊗◌, ◌⊘◌, ◌≺◌, 0F, 1F, 2F}
use Rattle.float64.specs.declared.Vector.{Vector}
use Rattle.vectors.specs.Vectors.{norm_squared, difference, cross, divided_by, opposite, root_or_nan}
use Rattle.geometry.specs.declared.Triangle.{Triangle}
use Rattle.geometry.specs.declared.Shape.{Shape}
use Rattle.geometry.specs.declared.Frame.{Frame}

-- The semiperimeter s of the two radii and the chord.
unfoldable pub semiperimeter_of : Float → Float → Float → Float
semiperimeter_of r1 r2 c = ((r1 ⊕ r2) ⊕ c) ⊘ 2F

-- The number x, or 0 if x is below 0.
unfoldable pub at_least_zero : Float → Float
at_least_zero x = cond (x ≺ 0F) 0F x

-- L for the chord c and the semiperimeter s: the root of 1 − c/s, or of 0 if that is below 0, negated for the long
-- way.
unfoldable pub lambda_of : Float → Float → Bool → Float
lambda_of c s long = let root = root_or_nan (at_least_zero (1F ⊖ c ⊘ s)) in cond long (neg root) root

-- κ for the chord c and the semiperimeter s (02, A5): c/s, or 1 if that rounds above 1. In exact arithmetic it is 1 − L². The time steps
-- do not use it.
unfoldable pub kappa_of : Float → Float → Float
kappa_of c s = cond (1F ≺ c ⊘ s) 1F (c ⊘ s)

-- The five numbers that the time and velocity steps receive, computed from the two radii, the chord and the way.
unfoldable pub triangle_of : Float → Float → Float → Bool → Triangle
triangle_of r1 r2 c long =
    let s = semiperimeter_of r1 r2 c in
    let ρ = (r1 ⊖ r2) ⊘ c in
    record { lambda = lambda_of c s long; semiperimeter = s; chord = c; rho = ρ; sigma = root_or_nan (1F ⊖ ρ ⊗ ρ) }

-- What the entrance checks need from two positions: q and r of each position, h and hh, and the triangle.
unfoldable pub shape_of : Vector → Vector → Bool → Shape
shape_of p1 p2 long =
    let q1 = norm_squared p1 in
    let q2 = norm_squared p2 in
    let r1 = root_or_nan q1 in
    let r2 = root_or_nan q2 in
    let h = cross p1 p2 in
    record {
      q1 = q1;
      q2 = q2;
      radius1 = r1;
      radius2 = r2;
      h = h;
      hh = norm_squared h;
      triangle = triangle_of r1 r2 (root_or_nan (norm_squared (difference p2 p1))) long;
    }

-- The unit vectors (01, Velocities), for the positions and the way that the shape was computed from. The normal is
-- n = h / √hh, negated for the long way. The radial unit vectors are u_i = position / r_i, by component.
unfoldable pub frame_of : Vector → Vector → Shape → Bool → Frame
frame_of p1 p2 g long =
    let n = divided_by g.h (root_or_nan g.hh) in
    record { normal = cond long (opposite n) n; unit1 = divided_by p1 g.radius1; unit2 = divided_by p2 g.radius2 }

-- The wanted time T*.
unfoldable pub wanted_of : Float → Float → Float → Float
wanted_of mu s time = root_or_nan ((2F ⊗ mu) ⊘ ((s ⊗ s) ⊗ s)) ⊗ time
