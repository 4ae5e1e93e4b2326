-- Roots that the prover computes, in addition to 01's worked cases. One statement covers the whole table
-- (`each_row_holds`).
use mathlib.Core.Path.{◌≡◌, refl}
use mathlib.Core.List.{List, [], ◌∷◌, map}
use Prim.Native.Nat.{ℕ}
use lib.Ieee.{of_bits}
use Rattle.float64.specs.Notation.{bits}
use Rattle.float64.specs.Root.{root_of}
use Rattle.std.specs.Prelude.{Float, Option, Some, None}

-- The bits of an operand, and its root.
pub record Row : Type 0 where
  pub operand : ℕ
  pub root : Option Float

infix 1 ◌⇒◌
pub ◌⇒◌ : ℕ → Option Float → Row
b ⇒ r = record { operand = b; root = r }

-- The operands are the least and the greatest positive finite f64, -0 and +0, both infinities, a NaN, the greatest
-- positive subnormal number and the least positive normal number.
pub rows : List Row
rows =
    (0x0000_0000_0000_0001 ⇒ Some (bits 0x1E60_0000_0000_0000))
    ∷ (0x7FEF_FFFF_FFFF_FFFF ⇒ Some (bits 0x5FEF_FFFF_FFFF_FFFF))
    ∷ (0x8000_0000_0000_0000 ⇒ Some (bits 0x8000_0000_0000_0000))
    ∷ (0x0000_0000_0000_0000 ⇒ Some (bits 0x0000_0000_0000_0000))
    ∷ (0x7FF0_0000_0000_0000 ⇒ None)
    ∷ (0xFFF0_0000_0000_0000 ⇒ None)
    ∷ (0x7FF8_0000_0000_0000 ⇒ None)
    ∷ (0x000F_FFFF_FFFF_FFFF ⇒ Some (bits 0x1FFF_FFFF_FFFF_FFFF))
    ∷ (0x0010_0000_0000_0000 ⇒ Some (bits 0x2000_0000_0000_0000))
    ∷ []

pub each_row_holds : map (λ (r : Row). root_of (bits r.operand)) rows ≡ map (λ (r : Row). r.root) rows
unfolding rows ◌⇒◌ root_of of_bits
each_row_holds = refl
