-- The square root, with the operand and the root given as their 64 bits. Definitions only.
use Rattle.std.specs.Prelude.{ℕ, Float, Option, Some, None}
use Rattle.float64.specs.Notation.{bits, bits_of}
use Rattle.float64.specs.Root.{root_of}

-- The bits of a root, or all ones if the root is refused. All ones is our own choice: it is the pattern of a NaN, and
-- no root is a NaN.
unfoldable pub answer_bits : Option Float → ℕ
answer_bits (Some r) = bits_of r
answer_bits None = 0xFFFF_FFFF_FFFF_FFFF

-- The bits of the root of the f64 with the bits b.
unfoldable pub root_bits_of : ℕ → ℕ
root_bits_of b = answer_bits (root_of (bits b))
