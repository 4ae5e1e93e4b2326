-- `closest n d`, the whole number nearest to n / d, ties to even, by its three cases (`closest_chosen`). A number that one of the
-- cases chooses for the quotient and the remainder of n by d is `closest n d` (`closest_is`).
use mathlib.Core.Path.{◌≡◌, refl, ap, ◌∙◌, subst}
use mathlib.Core.Bool.{not}
use Prim.Native.Nat.{ℕ, suc, ◌+◌, ◌*◌, ◌/◌, ◌%◌, ◌≤◌, ◌<◌, compare, Ordering}
use native.Mathlib.Omega.{arith}
use lib.Dec.{T, is_le, compare_is_eq, eqb, leb→le, nleb→lt, eqb→eq, eqb_refl}
use lib.Arith.{digits_div, digits_mod, lt_of_le-ne}
use lib.Ieee.{nearest}
use lib.Ieee.Nearest.{closest}

-- The whole number that a quotient q with the remainder r by the divisor d is rounded to.
pub data Chosen (q r d : ℕ) : ℕ → Type 0 where
  down : r * 2 < d → Chosen q r d q
  tie : r * 2 ≡ d → Chosen q r d (q + q % 2)
  up : d < r * 2 → Chosen q r d (suc q)

-- The fact that the result of `compare` states.
abbrev pub Compared : Ordering → ℕ → ℕ → Type 0
Compared Ordering.lt a b = a < b
Compared Ordering.eq a b = a ≡ b
Compared Ordering.gt a b = b < a

pub compared : (a b : ℕ) → Compared (compare a b) a b
compared a b =
    go (compare a b) (leb→le a b) (nleb→lt a b) (eqb→eq a b) (λ (e : a ≡ b). subst (λ (x : ℕ). T (eqb a x)) e (eqb_refl a))
  where
    go : (o : Ordering) → (T (is_le o) → a ≤ b) → (T (not (is_le o)) → b < a) → (T (compare_is_eq o) → a ≡ b) →
        (a ≡ b → T (compare_is_eq o)) → Compared o a b
    go Ordering.lt h k e n = lt_of_le-ne (h tt) n
    go Ordering.eq h k e n = e tt
    go Ordering.gt h k e n = k tt

pub closest_chosen : (n d : ℕ) → Chosen (n / d) (n % d) d (closest n d)
closest_chosen n d = go (compare (n % d * 2) d) (compared (n % d * 2) d)
  where
    go : (o : Ordering) → Compared o (n % d * 2) d → Chosen (n / d) (n % d) d (nearest (n / d) o)
    go Ordering.lt h = down h
    go Ordering.eq h = tie h
    go Ordering.gt h = up h

one_only : {q r d a b : ℕ} → Chosen q r d a → Chosen q r d b → a ≡ b
one_only (down h) (down k) = refl
one_only (down h) (tie k) = absurd (omega arith)
one_only (down h) (up k) = absurd (omega arith)
one_only (tie h) (down k) = absurd (omega arith)
one_only (tie h) (tie k) = refl
one_only (tie h) (up k) = absurd (omega arith)
one_only (up h) (down k) = absurd (omega arith)
one_only (up h) (tie k) = absurd (omega arith)
one_only (up h) (up k) = refl

pub closest_is : (n d q r c : ℕ) → n ≡ q * d + r → r < d → Chosen q r d c → c ≡ closest n d
closest_is n d q r c e h s =
    let quotient : n / d ≡ q = ap (λ (x : ℕ). x / d) e ∙ digits_div q h in
    let rest : n % d ≡ r = ap (λ (x : ℕ). x % d) e ∙ digits_mod q h in
    let chosen : Chosen q (n % d) d (closest n d) = subst (λ (x : ℕ). Chosen x (n % d) d (closest n d)) quotient (closest_chosen n d) in
    one_only s (subst (λ (y : ℕ). Chosen q y d (closest n d)) rest chosen)
