-- Bounds of f64s by fractions of whole numbers. Definitions only; the lemmas in proofs/ give the bounds of the result
-- of each f64 operation.
use Rattle.std.specs.Prelude.{◌≡◌, true, false, ℕ, ◌*◌, ◌≤◌, ◌<◌, T, Float}
use Rattle.std.specs.Float.{binary64}
use Rattle.std.specs.Float.Ieee.{fits, round}
use Rattle.std.specs.Float.Ieee.Exact.{HasValue}
use Rattle.std.specs.Float.Ieee.Positive.{num, den}
use Rattle.float64.specs.Value.{finite_of}
use Rattle.float64.specs.Nearness.{negative}
use Rattle.float64.specs.declared.Vector.{Vector}

-- The fraction p / q is an f64: rounding does not change it.
pub record Representable (p q : ℕ) : Type 0 where
  pub divisor : 0 < q
  pub exact : HasValue (round binary64 false p q) false p q

-- x is a finite f64, and |x| ≤ p / q.
pub record AtMost (x : Float) (p q : ℕ) : Type 0 where
  pub divisor : 0 < q
  pub is_f64 : T (fits binary64 x)
  pub is_finite : finite_of x ≡ true
  pub at_most : num x * q ≤ p * den x

-- x is finite, its sign is +, and p / q ≤ x.
pub record AtLeast (x : Float) (p q : ℕ) : Type 0 where
  pub divisor : 0 < q
  pub is_finite : finite_of x ≡ true
  pub not_negative : negative x ≡ false
  pub at_least : p * den x ≤ num x * q

-- x is a finite f64, and x ≤ p / q. This is true of every finite f64 whose sign is −.
pub record NotAbove (x : Float) (p q : ℕ) : Type 0 where
  pub divisor : 0 < q
  pub is_f64 : T (fits binary64 x)
  pub is_finite : finite_of x ≡ true
  pub not_above : negative x ≡ false → num x * q ≤ p * den x

-- x is a finite f64, and p / q ≤ x ≤ P / Q.
pub record Within (x : Float) (p q P Q : ℕ) : Type 0 where
  pub least : AtLeast x p q
  pub most : AtMost x P Q

-- Every component of v is a finite f64 with a magnitude of at most p / q.
pub record VectorAtMost (v : Vector) (p q : ℕ) : Type 0 where
  pub x : AtMost v.x p q
  pub y : AtMost v.y p q
  pub z : AtMost v.z p q
