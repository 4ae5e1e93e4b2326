-- What `scaled` and `count_of` hand on, on plain numbers. The product of a significand and 10 ^ 9 in two parts (`in_two_parts`). The
-- quotients below one half (`below_half`). The units of a pattern, as a significand over a smaller power of two (`count_subnormal`,
-- `count_normal`).
use mathlib.Core.Path.{◌≡◌, refl, sym, ap, ◌∙◌}
use Prim.Native.Nat.{ℕ, zero, suc, ◌+◌, ◌-◌, ◌*◌, ◌/◌, ◌%◌, ◌^◌, ◌≤◌, ◌<◌}
use native.Mathlib.Nat.{mod-eq_of_lt, mul-one, one-mul, lt_of_lt_of_le, lt_trans, zero-mul, zero-add}
use native.Mathlib.Omega.{arith}
use lib.Pow.{pow-add, pow_pos, pow-lt, pow_mono}
use lib.Ieee.Nearest.{closest, closest_same}
use Rattle.float64.specs.Internals.{units_at, units_of_bits}
use Rattle.decimal.proofs.Closest.{down, closest_is}

-- ---- `rounded`: the bit 1 shifted by k

pub one_shifted : (k : ℕ) → k < 59 → ((1 * 2 ^ k) % 2 ^ 64 ≡ 2 ^ k) × (2 ^ k < 2 ^ 59) × (0 < 2 ^ k)
one_shifted k h =
    let l : 2 ^ k < 2 ^ 59 = pow-lt h in
    (ap (λ (x : ℕ). x % 2 ^ 64) (one-mul (2 ^ k)) ∙ mod-eq_of_lt (lt_trans l (omega arith)), l, pow_pos k)

-- ---- `scaled`

-- The product of m and 10 ^ 9 without its last 27 binary digits, and these digits.
abbrev high : ℕ → ℕ
high m = m / 2 ^ 27 * 1000000000 + m % 2 ^ 27 * 1000000000 / 2 ^ 27

abbrev low : ℕ → ℕ
low m = m % 2 ^ 27 * 1000000000 % 2 ^ 27

product : (m : ℕ) → high m * 2 ^ 27 + low m ≡ m * 10 ^ 9
product m = omega arith

pub in_two_parts : (m s c : ℕ) → 29 ≤ s → c ≡ closest (high m * 2 ^ 27 + low m) (2 ^ (28 + (s - 28))) → c ≡ closest (m * 10 ^ 9) (2 ^ s)
in_two_parts m s c h e =
    let back : 28 + (s - 28) ≡ s = omega arith in
    e
    ∙ ap (λ (x : ℕ). closest x (2 ^ (28 + (s - 28)))) (product m)
    ∙ ap (λ (x : ℕ). closest (m * 10 ^ 9) (2 ^ x)) back

pub below_half : (m s : ℕ) → m < 2 ^ 53 → 87 ≤ s → 0 ≡ closest (m * 10 ^ 9) (2 ^ s)
below_half m s h l =
    let n = m * 10 ^ 9 in
    let wide : 2 ^ 87 ≤ 2 ^ s = pow_mono l in
    let parts : n ≡ 0 * 2 ^ s + n = sym (zero-add n) ∙ ap (λ (x : ℕ). x + n) (sym (zero-mul (2 ^ s))) in
    closest_is n (2 ^ s) 0 n 0 parts (lt_of_lt_of_le (small m h) wide) (down (lt_of_lt_of_le (small_twice m h) wide))
  where
    small : (x : ℕ) → x < 2 ^ 53 → x * 10 ^ 9 < 2 ^ 87
    small x g = omega arith

    small_twice : (x : ℕ) → x < 2 ^ 53 → x * 10 ^ 9 * 2 < 2 ^ 87
    small_twice x g = omega arith

-- ---- `count_of`

swap : (m g x y : ℕ) → m * g * (x * y) ≡ m * x * g * y
swap m g x y = omega arith

same_count : (x t : ℕ) → x ≤ 1045
    → closest ((2 ^ 52 + t) * 10 ^ 9) (2 ^ (1075 - suc x)) ≡ closest (units_at (suc x) t * 10 ^ 9) (2 ^ 1074)
same_count x t h =
    let m = 2 ^ 52 + t in
    let s : 1075 - suc x ≡ 1074 - x = omega arith in
    let e : 2 ^ 1074 ≡ 2 ^ x * 2 ^ (1074 - x) = ap (λ (y : ℕ). 2 ^ y) (back x h) ∙ pow-add 2 x (1074 - x) in
    let cross : m * 10 ^ 9 * 2 ^ 1074 ≡ m * 2 ^ x * 10 ^ 9 * 2 ^ (1074 - x) =
    ap (λ (y : ℕ). m * 10 ^ 9 * y) e ∙ swap m (10 ^ 9) (2 ^ x) (2 ^ (1074 - x)) in
    ap (λ (y : ℕ). closest (m * 10 ^ 9) (2 ^ y)) s
    ∙ closest_same (m * 10 ^ 9) (2 ^ (1074 - x)) (m * 2 ^ x * 10 ^ 9) (2 ^ 1074) (pow_pos (1074 - x)) (pow_pos 1074) cross
  where
    back : (y : ℕ) → y ≤ 1045 → 1074 ≡ y + (1074 - y)
    back y g = omega arith

-- The exponent field is 0.
pub count_subnormal : (b : ℕ) → b / 2 ^ 52 ≡ 0 → closest (b % 2 ^ 52 * 10 ^ 9) (2 ^ 1074) ≡ closest (units_of_bits b * 10 ^ 9) (2 ^ 1074)
unfolding units_of_bits
count_subnormal b e =
    let units : b % 2 ^ 52 ≡ units_of_bits b = sym (mul-one (b % 2 ^ 52)) ∙ ap (λ (x : ℕ). units_at x (b % 2 ^ 52)) (sym e) in
    ap (λ (n : ℕ). closest (n * 10 ^ 9) (2 ^ 1074)) units

-- The exponent field is not 0, so there is a leading digit.
pub count_normal : (b : ℕ) → b < 0x4163_12D0_0000_0000 → (b / 2 ^ 52 ≡ 0 → ⊥)
    → closest ((2 ^ 52 + b % 2 ^ 52) * 10 ^ 9) (2 ^ (1075 - b / 2 ^ 52)) ≡ closest (units_of_bits b * 10 ^ 9) (2 ^ 1074)
unfolding units_of_bits
count_normal b h some = by (b / 2 ^ 52) refl some
  where
    by : (x : ℕ) → b / 2 ^ 52 ≡ x → (x ≡ 0 → ⊥)
        → closest ((2 ^ 52 + b % 2 ^ 52) * 10 ^ 9) (2 ^ (1075 - x)) ≡ closest (units_at x (b % 2 ^ 52) * 10 ^ 9) (2 ^ 1074)
    by zero e s = absurd (s refl)
    by (suc x) e s = same_count x (b % 2 ^ 52) (omega arith)
