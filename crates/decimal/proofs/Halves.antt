-- The test of `rounded`, on plain numbers: high is q * 2h + r, so high * 2 ^ 27 + low has the quotient q and the remainder
-- r * 2 ^ 27 + low by 2 ^ 28 * h. If the test is true, the result is q + 1 (`rounded_up`), and otherwise q (`rounded_down`).
use mathlib.Core.Path.{◌≡◌, refl, sym, ap, ◌∙◌, subst}
use mathlib.Core.Bool.{Bool, true, false, ◌&&◌, ◌||◌, true≢false, false≢true}
use Prim.Native.Nat.{ℕ, ◌+◌, ◌*◌, ◌/◌, ◌%◌, ◌^◌, ◌≤◌, ◌<◌}
use native.Mathlib.Nat.{mod-lt, div-add-mod', mul-pos}
use native.Mathlib.Numerals.{add-one}
use native.Mathlib.Omega.{arith}
use borrow.Author.Tests.{ltb-true, ltb-false, eqb-true, eqb-false}
use lib.Dec.{ltb, eqb}
use lib.Pow.{pow-add, pow_pos}
use lib.Ieee.Nearest.{closest}
use Rattle.decimal.proofs.Closest.{Chosen, down, tie, up, closest_is}

-- The test of the code: whether the quotient is rounded up.
abbrev pub goes_up : ℕ → ℕ → ℕ → ℕ → Bool
goes_up h q r low = ltb h r || (eqb r h && (ltb 0 low || eqb (q % 2) 1))

module _ (h q r low : ℕ) (small : low < 2 ^ 27) where
  ups : (a b c d : Bool) → (a ≡ true → h < r) → (b ≡ true → r ≡ h) → (c ≡ true → 0 < low) → (c ≡ false → low ≤ 0)
      → (d ≡ true → q % 2 ≡ 1) → a || (b && (c || d)) ≡ true → Chosen q (r * 2 ^ 27 + low) (2 ^ 28 * h) (q + 1)
  ups true b c d fa fb fc fn fd t = let l = fa refl in rw add-one (up (omega arith))
  ups false true true d fa fb fc fn fd t = let e = fb refl in let l = fc refl in rw add-one (up (omega arith))
  ups false true false true fa fb fc fn fd t =
      let e = fb refl in
      let l = fn refl in
      subst (λ (x : ℕ). Chosen q (r * 2 ^ 27 + low) (2 ^ 28 * h) (q + x)) (fd refl) (tie (omega arith))
  ups false true false false fa fb fc fn fd t = absurd (false≢true t)
  ups false false c d fa fb fc fn fd t = absurd (false≢true t)

  stays : (a b c d : Bool) → (a ≡ false → r ≤ h) → (b ≡ true → r ≡ h) → (b ≡ false → r ≡ h → ⊥) → (c ≡ false → low ≤ 0)
      → (d ≡ false → q % 2 ≡ 1 → ⊥) → a || (b && (c || d)) ≡ false → Chosen q (r * 2 ^ 27 + low) (2 ^ 28 * h) q
  stays true b c d fa fb fn fc fd t = absurd (true≢false t)
  stays false true true d fa fb fn fc fd t = absurd (true≢false t)
  stays false true false true fa fb fn fc fd t = absurd (true≢false t)
  stays false true false false fa fb fn fc fd t =
      let e = fb refl in
      let l = fc refl in
      let same : q + q % 2 ≡ q = even (q % 2) (fd refl) (mod-lt q (omega arith)) in
      subst (λ (x : ℕ). Chosen q (r * 2 ^ 27 + low) (2 ^ 28 * h) x) same (tie (omega arith))
    where
      even : (x : ℕ) → (x ≡ 1 → ⊥) → x < 2 → q + x ≡ q
      even x o l = omega arith
  stays false false c d fa fb fn fc fd t =
      let l = fa refl in
      let n = fn refl in
      down (strict n l)
    where
      strict : (r ≡ h → ⊥) → r ≤ h → (r * 2 ^ 27 + low) * 2 < 2 ^ 28 * h
      strict n l = omega arith

-- ---- `rounded`: h is half of the divisor of high

module _ (high low k h : ℕ) (small : low < 2 ^ 27) (is : h ≡ 2 ^ k) where
  positive : 0 < 2 * h
  positive = rw is (mul-pos (omega arith) (pow_pos k))

  below : high % (2 * h) < 2 * h
  below = mod-lt high positive

  divisor : 2 ^ 28 * h ≡ 2 ^ (28 + k)
  divisor = ap (λ (x : ℕ). 2 ^ 28 * x) is ∙ sym (pow-add 2 28 k)

  parts : high * 2 ^ 27 + low ≡ high / (2 * h) * (2 ^ 28 * h) + (high % (2 * h) * 2 ^ 27 + low)
  parts = split (high / (2 * h)) (high % (2 * h)) (div-add-mod' high (2 * h))
    where
      split : (q r : ℕ) → q * (2 * h) + r ≡ high → high * 2 ^ 27 + low ≡ q * (2 ^ 28 * h) + (r * 2 ^ 27 + low)
      split q r e = omega arith

  rest_below : high % (2 * h) * 2 ^ 27 + low < 2 ^ 28 * h
  rest_below = less (high % (2 * h)) below
    where
      less : (r : ℕ) → r < 2 * h → r * 2 ^ 27 + low < 2 ^ 28 * h
      less r l = omega arith

  rounded_to : (c : ℕ) → Chosen (high / (2 * h)) (high % (2 * h) * 2 ^ 27 + low) (2 ^ 28 * h) c
      → c ≡ closest (high * 2 ^ 27 + low) (2 ^ (28 + k))
  rounded_to c chosen =
      let n = high * 2 ^ 27 + low in
      let q = high / (2 * h) in
      let r = high % (2 * h) * 2 ^ 27 + low in
      closest_is n (2 ^ 28 * h) q r c parts rest_below chosen ∙ ap (closest n) divisor

  pub rounded_up : goes_up h (high / (2 * h)) (high % (2 * h)) low ≡ true
      → high / (2 * h) + 1 ≡ closest (high * 2 ^ 27 + low) (2 ^ (28 + k))
  rounded_up t =
      let q = high / (2 * h) in
      let r = high % (2 * h) in
      let chosen = ups h q r low small (ltb h r) (eqb r h) (ltb 0 low) (eqb (q % 2) 1)
      (ltb-true h r) (eqb-true r h) (ltb-true 0 low) (ltb-false 0 low) (eqb-true (q % 2) 1) t in
      rounded_to (q + 1) chosen

  pub rounded_down : goes_up h (high / (2 * h)) (high % (2 * h)) low ≡ false
      → high / (2 * h) ≡ closest (high * 2 ^ 27 + low) (2 ^ (28 + k))
  rounded_down t =
      let q = high / (2 * h) in
      let r = high % (2 * h) in
      let chosen = stays h q r low small (ltb h r) (eqb r h) (ltb 0 low) (eqb (q % 2) 1)
      (ltb-false h r) (eqb-true r h) (eqb-false r h) (ltb-false 0 low) (eqb-false (q % 2) 1) t in
      rounded_to q chosen
