-- Numbers of w bytes: the effect of one more byte at the low end (`more`), and bounds on the number, in the loop of
-- `number_at` (`within`, `more_lt`) and for any bytes (`number_lt`).
use mathlib.Core.Path.{◌≡◌, sym, ap, ◌∙◌, subst}
use mathlib.Core.List.{List}
use Prim.Native.Nat.{ℕ, zero, suc, ◌+◌, ◌-◌, ◌*◌, ◌^◌, ◌≤◌, ◌<◌}
use native.Mathlib.Nat.{lt_of_lt_of_le}
use native.Mathlib.Omega.{arith}
use lib.ListN.{get_or}
use lib.Pow.{pow-add, pow_mono}
use Rattle.little_endian.specs.Bytes.{AreBytes, number_at}

pub within : (k v : ℕ) → k ≤ 7 → v < 2 ^ (8 * k) → v < 2 ^ 56
within k v h l = lt_of_lt_of_le l (pow_mono (eight k h))
  where
    eight : (x : ℕ) → x ≤ 7 → 8 * x ≤ 56
    eight x g = omega arith

-- If l of w bytes are left to read, the number read so far has w - l bytes. With the next byte it has one byte more.
one_more : (w l : ℕ) → 0 < l → l ≤ w → w - (l - 1) ≡ suc (w - l)
one_more w l g k = omega arith

pub more_lt : (w l v b : ℕ) → 0 < l → l ≤ w → v < 2 ^ (8 * (w - l)) → b < 256 → v * 256 + b < 2 ^ (8 * (w - (l - 1)))
more_lt w l v b p q h g =
    rw (one_more w l p q)
    (subst (λ (x : ℕ). v * 256 + b < x) (sym (ap (λ (x : ℕ). 2 ^ x) (eight (w - l)) ∙ pow-add 2 (8 * (w - l)) 8))
    (fit (2 ^ (8 * (w - l))) h))
  where
    eight : (x : ℕ) → 8 * suc x ≡ 8 * x + 8
    eight x = omega arith

    fit : (x : ℕ) → v < x → v * 256 + b < x * 2 ^ 8
    fit x f = omega arith

-- The loop reads from the highest byte down. With l bytes left, it has the number stored in the other w - l bytes.
pub more : (s : List ℕ) (at w l v b : ℕ) → 0 < l → l ≤ w → b ≡ get_or s (at + (l - 1)) 0 → v ≡ number_at (w - l) s (at + l) →
    v * 256 + b ≡ number_at (w - (l - 1)) s (at + (l - 1))
unfolding number_at
more s at w l v b p h e f =
    rw (one_more w l p h) (sum v b ∙ ap (λ (x : ℕ). x + 256 * v) e
    ∙ ap (λ (x : ℕ). get_or s (at + (l - 1)) 0 + 256 * x) (f ∙ ap (λ (x : ℕ). number_at (w - l) s x) (next at l p)))
  where
    next : (x y : ℕ) → 0 < y → x + y ≡ x + (y - 1) + 1
    next x y g = omega arith

    sum : (x y : ℕ) → x * 256 + y ≡ y + 256 * x
    sum x y = omega arith

-- A number of w bytes is below 2 ^ (8 * w), at any offset.
pub number_lt : (w at : ℕ) (s : List ℕ) → AreBytes s → number_at w s at < 2 ^ (8 * w)
unfolding number_at
number_lt zero at s h = omega arith
number_lt (suc w) at s h =
    let power : 2 ^ (8 * suc w) ≡ 2 ^ (8 * w) * 2 ^ 8 = ap (λ (x : ℕ). 2 ^ x) (eight w) ∙ pow-add 2 (8 * w) 8 in
    let byte : get_or s at 0 < 256 = h at in
    let rest : number_at w s (at + 1) < 2 ^ (8 * w) = number_lt w (at + 1) s h in
    subst (λ (x : ℕ). get_or s at 0 + 256 * number_at w s (at + 1) < x) (sym power)
    (fit (2 ^ (8 * w)) (get_or s at 0) (number_at w s (at + 1)) byte rest)
  where
    eight : (n : ℕ) → 8 * suc n ≡ 8 * n + 8
    eight n = omega arith

    fit : (p b n : ℕ) → b < 256 → n < p → b + 256 * n < p * 2 ^ 8
    fit p b n k l = omega arith
