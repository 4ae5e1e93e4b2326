-- What the bits of `root_bits_of` represent: the root of the f64 with the bits b, which is correct in the sense of
-- `IsRoot` (`root_bits_law`). If the bits are all ones, the root is refused (`ones_refused`). The converse holds by
-- definition.
use mathlib.Core.Path.{◌≡◌, refl, sym, ap, ◌∙◌}
use mathlib.Core.Bool.{true, true≢false}
use Prim.Native.Nat.{ℕ}
use lib.Ieee.{Float, binary64, of_bits}
use lib.Ieee.Bits.{of_bits-fits}
use Rattle.float64.specs.Notation.{bits}
use Rattle.float64.specs.Value.{finite_of}
use Rattle.float64.specs.Root.{root_of}
use Rattle.float64.specs.Nearness.{IsRoot}
use Rattle.std.specs.Prelude.{Option, Some, None}
use Rattle.float64.proofs.Bits.{read_back}
use Rattle.float64.proofs.Law.{square_root_law, root_finite}
use Rattle.c_root.specs.RootBits.{answer_bits, root_bits_of}

pub root_bits_law : (b : ℕ) → IsRoot (bits b) (root_of (bits b))
root_bits_law b = square_root_law (bits b) (of_bits-fits binary64 b) (root_of (bits b)) refl

-- All ones is the pattern of a NaN, and no root is a NaN.
ones_not_finite : true ≡ finite_of (bits 0xFFFF_FFFF_FFFF_FFFF) → ⊥
unfolding of_bits finite_of
ones_not_finite e = true≢false e

answered : (b : ℕ) (o : Option Float) → root_of (bits b) ≡ o → answer_bits o ≡ 0xFFFF_FFFF_FFFF_FFFF → o ≡ None
unfolding answer_bits
answered b None h g = refl
answered b (Some r) h g =
    let f = root_finite (bits b) (of_bits-fits binary64 b) r h in
    absurd (ones_not_finite (sym f.1 ∙ ap finite_of (sym (read_back r f.0) ∙ ap bits g)))

pub ones_refused : (b : ℕ) → root_bits_of b ≡ 0xFFFF_FFFF_FFFF_FFFF → root_of (bits b) ≡ None
unfolding root_bits_of
ones_refused b e = answered b (root_of (bits b)) refl e
