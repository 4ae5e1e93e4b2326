-- The chosen end of a bracket (01, Stations, sides, crossings), and whether velocities are finite (01, number 14). Definitions only.
use Rattle.std.specs.Prelude.{Bool, ◌&&◌, Float}
use Rattle.float64.specs.Notation.{◌⊖◌, ◌≺◌}
use Rattle.float64.specs.Value.{magnitude_of, finite_of}
use Rattle.float64.specs.declared.Vector.{Vector}
use Rattle.velocity.specs.declared.Velocities.{Velocities}

-- Whether the upper end is chosen, given the time at the lower end, the time at the upper end, and the wanted time: it is chosen if it
-- has the smaller |T − T*|. On a tie the lower end is chosen, and also if one of the differences is a NaN.
unfoldable pub upper_chosen : Float → Float → Float → Bool
upper_chosen lower upper wanted = magnitude_of (upper ⊖ wanted) ≺ magnitude_of (lower ⊖ wanted)

-- Whether a velocity is finite, that is, whether its three components are.
unfoldable pub vector_finite : Vector → Bool
vector_finite v = finite_of v.x && (finite_of v.y && finite_of v.z)

-- Whether both velocities are finite.
unfoldable pub velocities_finite : Velocities → Bool
velocities_finite w = vector_finite w.v1 && vector_finite w.v2
