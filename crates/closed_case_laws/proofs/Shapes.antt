-- Shapes that the prover computes: which positions span a plane (`each_row_holds`), the sides of one triangle
-- (`right_triangle`), and the sign of L if L is zero (`long_way_ends`, `short_way_ends`).
use mathlib.Core.Path.{◌≡◌, refl}
use mathlib.Core.Bool.{Bool, true, false}
use mathlib.Core.List.{List, [], ◌∷◌, map}
use Prim.Native.Nat.{ℕ}
use lib.IntN.{pos}
use lib.Ieee.{Float, add, sub, mul, div, neg, lt, le, of_bits, of_int}
use Rattle.float64.specs.Notation.{bits, float, 0F, 1F, 2F}
use Rattle.float64.specs.Root.{root_of}
use Rattle.float64.specs.declared.Vector.{Vector}
use Rattle.vectors.specs.Vectors.{norm_squared, difference, cross, or_nan, root_or_nan}
use Rattle.geometry.specs.Triangles.{semiperimeter_of, at_least_zero, lambda_of, triangle_of, shape_of}
use Rattle.geometry.specs.Conditions.{no_plane}

abbrev at : ℕ → ℕ → ℕ → Vector
at x y z = record { x = float (pos x); y = float (pos y); z = float (pos z) }

-- Two positions, and whether they define no plane.
pub record Row : Type 0 where
  pub first : Vector
  pub second : Vector
  pub none : Bool

-- The rows are two positions at a right angle, one position and its double, the same position twice, and a position at
-- the origin. In the last row both sides of the comparison are 0.
pub rows : List Row
rows =
    record { first = at 1 0 0; second = at 0 1 0; none = false }
    ∷ record { first = at 1 2 3; second = at 2 4 6; none = true }
    ∷ record { first = at 1 2 3; second = at 1 2 3; none = true }
    ∷ record { first = at 0 0 0; second = at 0 1 0; none = true }
    ∷ []

pub each_row_holds : map (λ (r : Row). no_plane (shape_of r.first r.second false)) rows ≡ map (λ (r : Row). r.none) rows
unfolding rows no_plane shape_of norm_squared cross add sub mul le of_bits of_int
each_row_holds = refl

pub unit_square : norm_squared (at 1 0 0) ≡ 1F
unfolding norm_squared add mul of_bits of_int
unit_square = refl

pub right_handed : cross (at 1 0 0) (at 0 1 0) ≡ at 0 0 1
unfolding cross sub mul of_int
right_handed = refl

-- The radii, the chord and the semiperimeter of a triangle with the sides 3, 4 and 5.
pub sides : List Float
sides = let g = shape_of (at 3 0 0) (at 0 4 0) false in g.radius1 ∷ g.radius2 ∷ g.triangle.chord ∷ g.triangle.semiperimeter ∷ []

pub right_triangle : sides ≡ float (pos 3) ∷ float (pos 4) ∷ float (pos 5) ∷ float (pos 6) ∷ []
unfolding sides shape_of triangle_of semiperimeter_of norm_squared difference or_nan root_or_nan root_of add sub mul div of_bits of_int
right_triangle = refl

-- If c/s is 1 or 2, L is -0 for the long way.
pub long_way_ends : (lambda_of 1F 1F true ≡ bits 0x8000_0000_0000_0000) × (lambda_of 2F 1F true ≡ bits 0x8000_0000_0000_0000)
unfolding lambda_of at_least_zero or_nan root_or_nan root_of sub div neg lt of_bits
long_way_ends = (refl, refl)

-- If c/s is 1 or 2, L is +0 for the short way.
pub short_way_ends : (lambda_of 1F 1F false ≡ 0F) × (lambda_of 2F 1F false ≡ 0F)
unfolding lambda_of at_least_zero or_nan root_or_nan root_of sub div lt of_bits
short_way_ends = (refl, refl)
