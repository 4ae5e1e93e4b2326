-- The conditions of checks 3, 8, 9 and 10 (01, Numbers of refusal). Definitions only.
-- A comparison with a NaN is false. So the conditions of checks 8, 9 and 10 are meaningful only if no earlier check
-- applies.
use Rattle.std.specs.Prelude.{Bool, not, ◌||◌, Float}
use Rattle.float64.specs.Notation.{◌⊖◌, ◌⊗◌, ◌⊘◌, ◌≺◌, ◌≼◌, bits, 0F, 1F}
use Rattle.float64.specs.Value.{finite_of}
use Rattle.geometry.specs.declared.Triangle.{Triangle}
use Rattle.geometry.specs.declared.Shape.{Shape}

-- Whether the last number is not finite, is below the first, or is above the second.
unfoldable pub outside_of : Float → Float → Float → Bool
outside_of low high x = not (finite_of x) || ((x ≺ low) || (high ≺ x))

-- The f64 2^40.
abbrev pub 2^40F : Float
2^40F = bits 0x4270_0000_0000_0000

-- Check 3: a radius is below 1 or above 2^40. If a root is refused, its radius is a NaN and counts as outside too. This
-- does not happen if check 2 passes.
unfoldable pub radius_outside : Shape → Bool
radius_outside g = outside_of 1F 2^40F g.radius1 || outside_of 1F 2^40F g.radius2

-- Check 8: hh ≤ (q1·q2)·2^-40, so the positions define no plane.
unfoldable pub no_plane : Shape → Bool
no_plane g = g.hh ≼ (g.q1 ⊗ g.q2) ⊗ bits 0x3D70_0000_0000_0000

-- Check 9: c/s < 2^-10, so the chord is too short.
unfoldable pub short_chord : Triangle → Bool
short_chord t = t.chord ⊘ t.semiperimeter ≺ bits 0x3F50_0000_0000_0000

-- Check 10: 1 − ρ·ρ ≤ 0, so the triangle is flat.
unfoldable pub flat_triangle : Triangle → Bool
flat_triangle t = 1F ⊖ t.rho ⊗ t.rho ≼ 0F
