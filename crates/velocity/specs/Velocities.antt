-- The terminal velocities at a place (01, Velocities; Gooding's report, equations 26 to 30). Definitions only.
use Rattle.std.specs.Prelude.{ℤ, Float}
use Rattle.std.specs.Float.Ieee.{neg}
use Rattle.float64.specs.Notation.{◌⊕◌, ◌⊖◌, ◌⊗◌, ◌⊘◌, 2F}
use Rattle.float64.specs.declared.Vector.{Vector}
use Rattle.vectors.specs.Vectors.{cross, or_nan, root_or_nan}
use Rattle.geometry.specs.declared.Triangle.{Triangle}
use Rattle.geometry.specs.declared.Frame.{Frame}
use Rattle.hypergeometric.specs.Steps.{y_of}
use Rattle.flight_time.specs.Steps.{x_of, u_of}
use Rattle.velocity.specs.declared.Speeds.{Speeds}
use Rattle.velocity.specs.declared.Velocities.{Velocities}

-- γ = √((mu·s)/2), or a NaN if that root is refused.
unfoldable pub gamma_of : Float → Float → Float
gamma_of mu s = root_or_nan ((mu ⊗ s) ⊘ 2F)

-- The y of step 2 of the time, at x, or a NaN if its root is refused. In that case the place has no
-- time.
unfoldable pub y_or_nan : Float → Float → Float
y_or_nan L x = or_nan (y_of L (u_of x))

-- The radial and transverse speeds at departure and at arrival, with a = L·y − x and b = L·y + x.
unfoldable pub speeds_of : Float → Triangle → Float → Float → Float → Float → Speeds
speeds_of γ t r1 r2 x y =
    let a = t.lambda ⊗ y ⊖ x in
    let b = t.lambda ⊗ y ⊕ x in
    let across = (γ ⊗ t.sigma) ⊗ (y ⊕ t.lambda ⊗ x) in
    record {
      radial1 = (γ ⊗ (a ⊖ t.rho ⊗ b)) ⊘ r1;
      radial2 = neg ((γ ⊗ (a ⊕ t.rho ⊗ b)) ⊘ r2);
      transverse1 = across ⊘ r1;
      transverse2 = across ⊘ r2;
    }

-- v = radial·u + transverse·t by component, with t = n × u.
unfoldable pub velocity_of : Float → Float → Vector → Vector → Vector
velocity_of radial transverse n u =
    let t = cross n u in
    record {
      x = radial ⊗ u.x ⊕ transverse ⊗ t.x;
      y = radial ⊗ u.y ⊕ transverse ⊗ t.y;
      z = radial ⊗ u.z ⊕ transverse ⊗ t.z;
    }

-- v1 and v2 at place k.
unfoldable pub velocities_of : Float → Triangle → Float → Float → Frame → ℤ → Velocities
velocities_of mu t r1 r2 f k =
    let x = x_of k in
    let w = speeds_of (gamma_of mu t.semiperimeter) t r1 r2 x (y_or_nan t.lambda x) in
    record {
      v1 = velocity_of w.radial1 w.transverse1 f.normal f.unit1;
      v2 = velocity_of w.radial2 w.transverse2 f.normal f.unit2;
    }
