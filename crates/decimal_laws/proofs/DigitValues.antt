-- The digits of a number show the number (`value_of`): the first i of its k digits show the number without its last k - i digits. A whole
-- part below 10 ^ 7 is written with all its digits and no needless zero (`no_needless_zero`).
use mathlib.Core.Path.{◌≡◌, refl, sym, ap, ◌∙◌, subst}
use mathlib.Core.Logic.{◌⊎◌, inl, inr}
use mathlib.Core.Bool.{Bool, true, false, cond}
use mathlib.Core.List.{List}
use Prim.Native.Nat.{ℕ, zero, suc, ◌+◌, ◌-◌, ◌*◌, ◌/◌, ◌%◌, ◌^◌, ◌≤◌, ◌<◌}
use native.Mathlib.Nat.{div-one, div-div-eq-div-mul, div-eq_of_lt, pow-suc, add-zero, sub-zero, sub_self}
use native.Mathlib.Omega.{arith}
use borrow.Author.Tests.{ltb-true, ltb-false}
use lib.Dec.{ltb}
use lib.ListN.{get_or}
use Rattle.decimal.specs.Texts.{digit_count_from, digit_count, value_at}
use Rattle.decimal.proofs.Digits.{digit}
use Rattle.decimal_laws.specs.Parsing.{NoNeedlessZero}

-- The k bytes from the offset `at` on are the digits of n.
module _ (s : List ℕ) (at k n : ℕ) (small : n < 10 ^ k) (shown : (i : ℕ) → i < k → get_or s (at + i) 0 ≡ digit n (k - 1 - i)) where
  value_up_to : (i : ℕ) → i ≤ k → value_at s at i ≡ n / 10 ^ (k - i)
  unfolding value_at
  value_up_to zero h = sym (div-eq_of_lt (rw sub-zero small))
  value_up_to (suc i) h =
      let j = k - 1 - i in
      let e : k - i ≡ suc j = omega arith in
      let f : j ≡ k - suc i = omega arith in
      let power : n / 10 ^ (k - i) ≡ n / (10 ^ j * 10) = ap (λ (x : ℕ). n / 10 ^ x) e ∙ ap (λ (x : ℕ). n / x) (pow-suc 10 j) in
      let step : n / 10 ^ (k - i) ≡ n / 10 ^ j / 10 = power ∙ sym (div-div-eq-div-mul n (10 ^ j) 10) in
      ap (λ (x : ℕ). x * 10 + get_or s (at + i) 0 % 16) (value_up_to i (omega arith) ∙ step)
      ∙ ap (λ (x : ℕ). n / 10 ^ j / 10 * 10 + x % 16) (shown i (omega arith))
      ∙ joined (n / 10 ^ j)
      ∙ ap (λ (x : ℕ). n / 10 ^ x) f
    where
      joined : (m : ℕ) → m / 10 * 10 + (48 + m % 10) % 16 ≡ m
      joined m = omega arith

  pub value_of : value_at s at k ≡ n
  value_of = value_up_to k (omega arith) ∙ ap (λ (x : ℕ). n / 10 ^ x) (sub_self k) ∙ div-one n

-- ---- how many digits a whole part has

digits_enough : (f p n : ℕ) → n < 10 ^ (p + f) → n < 10 ^ digit_count_from f p n
unfolding digit_count_from
digits_enough zero p n h = rw add-zero at h
digits_enough (suc f) p n h = by (λ l. digits_enough f (suc p) n l) (ltb n (10 ^ p)) refl
  where
    by : (n < 10 ^ (suc p + f) → n < 10 ^ digit_count_from f (suc p) n) → (b : Bool) → ltb n (10 ^ p) ≡ b
        → n < 10 ^ cond b p (digit_count_from f (suc p) n)
    by rec true e = ltb-true n (10 ^ p) e
    by rec false e = let m : p + suc f ≡ suc p + f = omega arith in rec (subst (λ (x : ℕ). n < 10 ^ x) m h)

-- p digits are needed for n.
abbrev Needed : ℕ → ℕ → Type 0
Needed p n = (p ≡ 1) ⊎ (10 ^ (p - 1) ≤ n)

digits_needed : (f p n : ℕ) → Needed p n → Needed (digit_count_from f p n) n
unfolding digit_count_from
digits_needed zero p n h = h
digits_needed (suc f) p n h = by (λ l. digits_needed f (suc p) n l) (ltb n (10 ^ p)) refl
  where
    by : (Needed (suc p) n → Needed (digit_count_from f (suc p) n) n) → (b : Bool) → ltb n (10 ^ p) ≡ b
        → Needed (cond b p (digit_count_from f (suc p) n)) n
    by rec true e = h
    by rec false e =
        let m : p ≡ suc p - 1 = omega arith in
        rec (inr (subst (λ (x : ℕ). 10 ^ x ≤ n) m (ltb-false n (10 ^ p) e)))

pub no_needless_zero : (n : ℕ) → n < 10 ^ 7 → NoNeedlessZero n
unfolding digit_count
no_needless_zero n h = record { enough = digits_enough 6 1 n h; needed = digits_needed 6 1 n (inl refl) }
