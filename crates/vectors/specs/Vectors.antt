-- Vectors, computed component by component in 01's order of operations (01, Triangle): q, differences, cross products
-- and quotients. Definitions only.
use Rattle.std.specs.Prelude.{Float, Option, Some, None}
use Rattle.std.specs.Float.{nan}
use Rattle.std.specs.Float.Ieee.{neg}
use Rattle.float64.specs.Notation.{◌⊕◌, ◌⊖◌, ◌⊗◌, ◌⊘◌}
use Rattle.float64.specs.Root.{root_of}
use Rattle.float64.specs.declared.Vector.{Vector}

-- q of a vector: the square of its length.
unfoldable pub norm_squared : Vector → Float
norm_squared v = (v.x ⊗ v.x ⊕ v.y ⊗ v.y) ⊕ v.z ⊗ v.z

-- The difference a - b, by component.
unfoldable pub difference : Vector → Vector → Vector
difference a b = record { x = a.x ⊖ b.x; y = a.y ⊖ b.y; z = a.z ⊖ b.z }

-- The cross product a × b. Each component is one difference of two products.
unfoldable pub cross : Vector → Vector → Vector
cross a b = record {
  x = a.y ⊗ b.z ⊖ a.z ⊗ b.y;
  y = a.z ⊗ b.x ⊖ a.x ⊗ b.z;
  z = a.x ⊗ b.y ⊖ a.y ⊗ b.x;
}

-- A vector divided by a number, by component.
unfoldable pub divided_by : Vector → Float → Vector
divided_by v d = record { x = v.x ⊘ d; y = v.y ⊘ d; z = v.z ⊘ d }

-- A vector with every component negated.
unfoldable pub opposite : Vector → Vector
opposite v = record { x = neg v.x; y = neg v.y; z = neg v.z }

-- The value of a root, for steps that need a number. A refused root becomes a NaN.
unfoldable pub or_nan : Option Float → Float
or_nan (Some r) = r
or_nan None = nan

-- The root of a number, or a NaN if the root is refused.
unfoldable pub root_or_nan : Float → Float
root_or_nan x = or_nan (root_of x)
