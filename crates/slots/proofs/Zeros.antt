-- What the tests on bytes mean: `is_zero` is true exactly for lists of zeros (`zero_is`, `zeros_zero`), and `same_bytes`
-- is true exactly for equal lists (`same_is`, `same_self`). `both` splits a conjunction of two tests.
use mathlib.Core.Path.{◌≡◌, refl, sym, ap, ◌∙◌}
use mathlib.Core.Bool.{Bool, true, false, ◌&&◌, true≢false}
use mathlib.Core.List.{List, [], ◌∷◌, ◌++◌}
use Prim.Native.Nat.{ℕ, zero, suc, ◌+◌}
use borrow.Author.Tests.{eqb-true}
use lib.Dec.{eqb}
use lib.ListN.{length, get_or, replicate}
use Rattle.std.proofs.lemmas.List.Folds.{list_all-append}
use Rattle.std.proofs.lemmas.Slice.Eq.{bytes_eq-Decides}
use Rattle.little_endian.specs.Bytes.{number_at}
use Rattle.slots.specs.Slots.{is_zero, same_bytes}

pub both : (a b : Bool) → a && b ≡ true → (a ≡ true) × (b ≡ true)
both true b e = (refl, e)
both false b e = (cc, cc)

-- ---- zeros

pub zero_is : (s : List ℕ) → is_zero s ≡ true → s ≡ replicate (length s) 0
unfolding is_zero
zero_is [] e = refl
zero_is (b ∷ s) e =
    let p : (eqb b 0 ≡ true) × (is_zero s ≡ true) = both (eqb b 0) (is_zero s) e in
    cc (eqb-true b 0 p.0, zero_is s p.1)

pub zeros_zero : (n : ℕ) → is_zero (replicate n 0) ≡ true
unfolding is_zero
zeros_zero zero = refl
zeros_zero (suc n) = zeros_zero n

pub zero_append : (a b : List ℕ) → is_zero (a ++ b) ≡ is_zero a && is_zero b
unfolding is_zero
zero_append a b = list_all-append (λ x. eqb x 0) a b

zero_at : (s : List ℕ) → is_zero s ≡ true → (i : ℕ) → get_or s i 0 ≡ 0
unfolding is_zero
zero_at [] e i = refl
zero_at (b ∷ s) e zero = eqb-true b 0 (both (eqb b 0) (is_zero s) e).0
zero_at (b ∷ s) e (suc i) = zero_at s (both (eqb b 0) (is_zero s) e).1 i

pub zero_number : (s : List ℕ) → is_zero s ≡ true → (w at : ℕ) → number_at w s at ≡ 0
unfolding number_at
zero_number s e zero at = refl
zero_number s e (suc w) at = rw (zero_at s e at, zero_number s e w (at + 1))

-- ---- equal bytes

pub same_is : (a b : List ℕ) → same_bytes a b ≡ true → a ≡ b
unfolding same_bytes
same_is a b e = (bytes_eq-Decides a b).0 e

pub same_self : (a : List ℕ) → same_bytes a a ≡ true
unfolding same_bytes
same_self a = (bytes_eq-Decides a a).1 refl

pub differ_is : (a b : List ℕ) → same_bytes a b ≡ false → a ≡ b → ⊥
differ_is a b e q = true≢false (sym (same_self a) ∙ ap (same_bytes a) q ∙ e)
