-- The exact test of an estimated root, on whole numbers. A significand s with s * s - s < a * 2 ^ 52 ≤ s * s + s is half of the
-- rounded-down root of a * 2 ^ 54, rounded up (`halved`). If every part of the code's sum is 0, the differences that the code computes
-- modulo 2 ^ 64 are the true ones, s satisfies these bounds, and the tested pattern is that of the root (`passed`).
use Rattle.std.proofs.Common.{◌≡◌, ℕ, zero, suc, ◌+◌, ◌-◌, ◌*◌, ◌/◌, ◌%◌, ◌^◌, ◌<◌, ◌≤◌, Bool, true, false, not, T, leb, sym, ap, ◌∙◌}
use Rattle.std.proofs.Common.{mul-le-mul, arith, leb→le}
use lib.Dec.{nleb→lt}
use lib.Ieee.{binary64, of_bits}
use Rattle.float64.specs.Isqrt.{Floor}
use Rattle.float64.specs.Root.{root_of_units}
use Rattle.float64.specs.Internals.{Scaled}
use Rattle.float64.proofs.Assembly.{assembled}

-- ---- the bounds of s
-- A rounded-down root of a * 2 ^ 54 whose half, rounded up, is s.
pub record Halved (a s : ℕ) : Type 0 where
  pub root : ℕ
  pub is_floor : Floor (a * 2 ^ 54) root
  pub half : (root + 1) / 2 ≡ s

-- `over` is a * 2 ^ 52 - (s * s - s).
pub halved : (a s over : ℕ) → a * 2 ^ 52 + s ≡ s * s + over → 1 ≤ over → over ≤ 2 * s → Halved a s
halved a zero over e lo hi = absurd (none over lo hi)
  where
    none : (x : ℕ) → 1 ≤ x → x ≤ 2 * 0 → ⊥
    none x f g = omega arith
halved a (suc p) over e lo hi = by (leb (suc p) over) (leb→le (suc p) over) (nleb→lt (suc p) over)
  where
    by : (b : Bool) → (T b → suc p ≤ over) → (T (not b) → over < suc p) → Halved a (suc p)
    by true f g =
        let h = f tt in
        record { root = 2 * suc p; is_floor = record { low = omega arith; high = omega arith }; half = omega arith }
    by false f g =
        let h = g tt in
        record { root = 2 * p + 1; is_floor = record { low = omega arith; high = omega arith }; half = omega arith }

-- ---- the products of the parts of s
pub square_27 : (h : ℕ) → h < 2 ^ 27 → h * h ≤ (2 ^ 27 - 1) * (2 ^ 27 - 1)
square_27 h g = mul-le-mul {n₂ = 2 ^ 27 - 1} {m₂ = 2 ^ 27 - 1} (omega arith) (omega arith)

pub product_53 : (h l : ℕ) → h < 2 ^ 27 → l < 2 ^ 26 → h * l ≤ (2 ^ 27 - 1) * (2 ^ 26 - 1)
product_53 h l g f = mul-le-mul {n₂ = 2 ^ 27 - 1} {m₂ = 2 ^ 26 - 1} (omega arith) (omega arith)

pub square_26 : (l : ℕ) → l < 2 ^ 26 → l * l ≤ (2 ^ 26 - 1) * (2 ^ 26 - 1)
square_26 l g = mul-le-mul {n₂ = 2 ^ 26 - 1} {m₂ = 2 ^ 26 - 1} (omega arith) (omega arith)

-- `over`, from the parts of s.
over_is : (a h l upper middle over : ℕ) → upper + h * h ≡ a + 4 → middle + 2 * (h * l) ≡ upper * 2 ^ 26
    → over + (l * l + 2 ^ 54) ≡ middle * 2 ^ 26 + (h * 2 ^ 26 + l)
    → a * 2 ^ 52 + (h * 2 ^ 26 + l) ≡ (h * 2 ^ 26 + l) * (h * 2 ^ 26 + l) + over
over_is a h l upper middle over p q r = omega arith

-- ---- what the code computes
-- A sum modulo 2 ^ 64 that is small enough is the sum.
sum_64 : (x y z : ℕ) → (x + y) % 2 ^ 64 ≡ z → x + y < 2 ^ 64 → x + y ≡ z
sum_64 x y z h g = omega arith

module _ (digits upper middle sum over less under : ℕ) where
  abbrev s : ℕ
  s = digits % 2 ^ 53

  abbrev h : ℕ
  h = s / 2 ^ 26

  abbrev l : ℕ
  l = s % 2 ^ 26

  -- Each difference and sum of the code, modulo 2 ^ 64, for the pattern c and the operand a * 2 ^ 54 with the power k.
  pub record Computed (a k c : ℕ) : Type 0 where
    pub digits_are : (digits + (k + 484) * 0x0010_0000_0000_0000) % 2 ^ 64 ≡ c
    pub upper_is : (upper + h * h) % 2 ^ 64 ≡ a + 4
    pub middle_is : (middle + 2 * (h * l)) % 2 ^ 64 ≡ upper * 2 ^ 26 % 2 ^ 64
    pub sum_is : sum ≡ (middle * 2 ^ 26 % 2 ^ 64 + s) % 2 ^ 64
    pub over_is_rest : (over + (l * l + 2 ^ 54)) % 2 ^ 64 ≡ sum
    pub less_is : (less + 1) % 2 ^ 64 ≡ over
    pub under_is : (under + over) % 2 ^ 64 ≡ 2 * s

  abbrev pub parts : ℕ
  parts = digits / 2 ^ 53 + upper / 2 ^ 30 + middle / 2 ^ 30 + (less / 2 ^ 63 + under / 2 ^ 63)

  record Small : Type 0 where
    digits_small : digits < 2 ^ 53
    upper_small : upper < 2 ^ 30
    middle_small : middle < 2 ^ 30
    less_small : less < 2 ^ 63
    under_small : under < 2 ^ 63

  small : parts ≡ 0 → Small
  small z =
      record {
        digits_small = omega arith;
        upper_small = omega arith;
        middle_small = omega arith;
        less_small = omega arith;
        under_small = omega arith;
      }

  pub passed : (n a k c : ℕ) → Computed a k c → Scaled n a k → k ≤ 1049 → parts ≡ 0 → of_bits binary64 c ≡ root_of_units n
  passed n a k c t scaled most z =
      let m = small z in
      let hh = square_27 h (omega arith) in
      let hl = product_53 h l (omega arith) (omega arith) in
      let ll = square_26 l (omega arith) in
      let upper-true = sum_64 upper (h * h) (a + 4) t.upper_is (fits_1 upper (h * h) m.upper_small hh) in
      let middle-true =
      sum_64 middle (2 * (h * l)) _ t.middle_is (fits_2 middle (h * l) m.middle_small hl) ∙ shifted upper m.upper_small in
      let sum-true = t.sum_is ∙ added middle digits m.middle_small in
      let less-true = sum_64 less 1 over t.less_is (fits_3 less m.less_small) in
      let over-true = sum_64 over (l * l + 2 ^ 54) sum t.over_is_rest (fits_4 less over (l * l) m.less_small less-true ll) in
      let under-true = sum_64 under over (2 * s) t.under_is (fits_5 less under over m.less_small m.under_small less-true) in
      let s-is = split digits in
      let over-parts = over-true ∙ sum-true ∙ ap (λ (x : ℕ). middle * 2 ^ 26 + x) s-is in
      let square = over_is a h l upper middle over upper-true middle-true over-parts in
      let most-over = at_most under over s (h * 2 ^ 26 + l) under-true s-is in
      let found = halved a (h * 2 ^ 26 + l) over square (at_least less over less-true) most-over in
      let root = assembled n a k found.root scaled most found.is_floor in
      ap (of_bits binary64) (pattern_is found.root (found.half ∙ sym s-is) m.digits_small) ∙ root.is_root
    where
      split : (x : ℕ) → x % 2 ^ 53 ≡ x % 2 ^ 53 / 2 ^ 26 * 2 ^ 26 + x % 2 ^ 53 % 2 ^ 26
      split x = omega arith

      fits_1 : (x y : ℕ) → x < 2 ^ 30 → y ≤ (2 ^ 27 - 1) * (2 ^ 27 - 1) → x + y < 2 ^ 64
      fits_1 x y f g = omega arith

      fits_2 : (x y : ℕ) → x < 2 ^ 30 → y ≤ (2 ^ 27 - 1) * (2 ^ 26 - 1) → x + 2 * y < 2 ^ 64
      fits_2 x y f g = omega arith

      fits_3 : (x : ℕ) → x < 2 ^ 63 → x + 1 < 2 ^ 64
      fits_3 x f = omega arith

      fits_4 : (x y z : ℕ) → x < 2 ^ 63 → x + 1 ≡ y → z ≤ (2 ^ 26 - 1) * (2 ^ 26 - 1) → y + (z + 2 ^ 54) < 2 ^ 64
      fits_4 x y z f g i = omega arith

      fits_5 : (x y z : ℕ) → x < 2 ^ 63 → y < 2 ^ 63 → x + 1 ≡ z → y + z < 2 ^ 64
      fits_5 x y z f g i = omega arith

      shifted : (x : ℕ) → x < 2 ^ 30 → x * 2 ^ 26 % 2 ^ 64 ≡ x * 2 ^ 26
      shifted x f = omega arith

      added : (x y : ℕ) → x < 2 ^ 30 → (x * 2 ^ 26 % 2 ^ 64 + y % 2 ^ 53) % 2 ^ 64 ≡ x * 2 ^ 26 + y % 2 ^ 53
      added x y f = omega arith

      at_least : (x y : ℕ) → x + 1 ≡ y → 1 ≤ y
      at_least x y f = omega arith

      at_most : (x y z u : ℕ) → x + y ≡ 2 * z → z ≡ u → y ≤ 2 * u
      at_most x y z u f g = omega arith

      pattern_is : (q : ℕ) → (q + 1) / 2 ≡ s → digits < 2 ^ 53 → c ≡ (k + 484) * 0x0010_0000_0000_0000 + (q + 1) / 2
      pattern_is q f g = omega (arith, t.digits_are, most)
