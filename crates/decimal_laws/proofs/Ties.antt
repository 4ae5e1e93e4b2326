-- A number n of units is a tie exactly if it is an odd multiple of 2 ^ 1064 (`tie_exactly`). 10 ^ 9 is 2 ^ 9 * 5 ^ 9, so a tie means that
-- n * 5 ^ 9 is (2 * k + 1) * 2 ^ 1064. Because 5 ^ 9 is odd, each factor 2 of the right side divides n (`divided`, by induction).
use mathlib.Core.Path.{◌≡◌, refl, sym, ap, ◌∙◌}
use Prim.Native.Nat.{ℕ, zero, suc, ◌+◌, ◌*◌, ◌/◌, ◌%◌, ◌^◌, ◌<◌}
use native.Mathlib.Nat.{mul-one, pow-suc, mod-lt, div-add-mod'}
use native.Mathlib.Omega.{arith}
use Rattle.decimal_laws.specs.Ties.{IsTie, IsOddMultiple, TieExactly}

-- A number is twice its half, or one more.
module _ (n : ℕ) where
  even : (y : ℕ) → n * 1953125 ≡ 2 * y → n ≡ n / 2 * 2
  even y e = by (n / 2) (n % 2) (div-add-mod' n 2) (mod-lt n (omega arith))
    where
      by : (h r : ℕ) → h * 2 + r ≡ n → r < 2 → n ≡ h * 2
      by h zero f l = omega arith
      by h (suc zero) f l = absurd (no (h * 1953125 + 976562) (omega arith))
        where
          no : (z : ℕ) → 2 * z + 1 ≡ 2 * y → ⊥
          no z g = omega arith
      by h (suc (suc r)) f l = absurd (omega arith)

  odd : (y : ℕ) → n * 1953125 ≡ 2 * y + 1 → n ≡ 2 * (n / 2) + 1
  odd y e = by (n / 2) (n % 2) (div-add-mod' n 2) (mod-lt n (omega arith))
    where
      by : (h r : ℕ) → h * 2 + r ≡ n → r < 2 → n ≡ 2 * h + 1
      by h zero f l = absurd (no (h * 1953125) (omega arith))
        where
          no : (z : ℕ) → 2 * z ≡ 2 * y + 1 → ⊥
          no z g = omega arith
      by h (suc zero) f l = omega arith
      by h (suc (suc r)) f l = absurd (omega arith)

-- 5 ^ 9 is 1953125.
divided : (a n c : ℕ) → n * 1953125 ≡ c * 2 ^ a → (m : ℕ) × (n ≡ m * 2 ^ a) × (m * 1953125 ≡ c)
divided zero n c e = (n, sym (mul-one n), e ∙ mul-one c)
divided (suc a) n c e =
    let twice = e ∙ two c (2 ^ a) (2 ^ suc a) (pow-suc 2 a) in
    let whole : n ≡ n / 2 * 2 = even n (c * 2 ^ a) twice in
    let rest = divided a (n / 2) c (half (n / 2) (c * 2 ^ a) whole twice) in
    (rest.0, whole ∙ again (n / 2) rest.0 (2 ^ a) (2 ^ suc a) rest.1 (pow-suc 2 a), rest.2)
  where
    two : (x y z : ℕ) → z ≡ y * 2 → x * z ≡ 2 * (x * y)
    two x y z f = rw f (omega arith)

    half : (x y : ℕ) → n ≡ x * 2 → n * 1953125 ≡ 2 * y → x * 1953125 ≡ y
    half x y f g = omega arith

    again : (x m y z : ℕ) → x ≡ m * y → z ≡ y * 2 → x * 2 ≡ m * z
    again x m y z f g = rw (f, g) (omega arith)

-- The same with p for 2 ^ 1064 and q for 2 ^ 1074, because `omega` does not take such numbers.
fives : (n k p q : ℕ) → q ≡ p * 1024 → 2 * n * 10 ^ 9 ≡ (2 * k + 1) * q → n * 1953125 ≡ (2 * k + 1) * p
fives n k p q f e = let g : 2 * n * 10 ^ 9 ≡ (2 * k + 1) * (p * 1024) = rw f at e in omega arith

middle : (n j p q : ℕ) → q ≡ p * 1024 → n ≡ (2 * j + 1) * p → 2 * n * 10 ^ 9 ≡ (2 * (j * 1953125 + 976562) + 1) * q
middle n j p q f e = rw (f, e) (omega arith)

there : (n : ℕ) → IsTie n → IsOddMultiple n
there n (k, e) =
    let m = divided 1064 n (2 * k + 1) (fives n k (2 ^ 1064) (2 ^ 1074) refl e) in
    (m.0 / 2, m.1 ∙ ap (λ (x : ℕ). x * 2 ^ 1064) (odd m.0 k m.2))

back : (n : ℕ) → IsOddMultiple n → IsTie n
back n (j, e) = (j * 1953125 + 976562, middle n j (2 ^ 1064) (2 ^ 1074) refl e)

pub tie_exactly : (n : ℕ) → TieExactly n
tie_exactly n = record { there = there n; back = back n }
