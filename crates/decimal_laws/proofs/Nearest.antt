-- No whole number is nearer to n / d than `closest n d` is (`nearest_count`). The number n is q * d + r with r below d. For a whole
-- number k below the chosen c, k * d is at least d below c * d, and for a greater k it is at least d above. So only q and q + 1 remain to
-- compare.
use mathlib.Core.Path.{◌≡◌, refl, sym, subst}
use mathlib.Core.Logic.{◌⊎◌, inl, inr}
use Prim.Native.Nat.{ℕ, zero, suc, ◌+◌, ◌*◌, ◌/◌, ◌%◌, ◌≤◌, ◌<◌, compare, Ordering}
use native.Mathlib.Nat.{add-zero, mod-lt, div-add-mod', mul-le-mul_right}
use native.Mathlib.Numerals.{add-one}
use native.Mathlib.Omega.{arith}
use lib.Ieee.Nearest.{closest}
use Rattle.decimal.proofs.Closest.{Chosen, down, tie, up, Compared, compared, closest_chosen}
use Rattle.decimal_laws.specs.Rounding.{distance, NearestCount}

-- c * d is nearer to n than k * d is, or equally near with an even c.
abbrev Beats : ℕ → ℕ → ℕ → ℕ → Type 0
Beats n d c k = (distance n (c * d) < distance n (k * d)) ⊎ ((distance n (c * d) ≡ distance n (k * d)) × (c % 2 ≡ 0))

module _ (q r d k : ℕ) (h : r < d) where
  low_wins : r * 2 ≤ d → (r * 2 ≡ d → q % 2 ≡ 0) → (k ≡ q → ⊥) → Beats (q * d + r) d q k
  low_wins s even other = by (compare k q) (compared k q)
    where
      next : (o : Ordering) → Compared o k (suc q) → q < k → Beats (q * d + r) d q k
      next Ordering.lt x y = absurd (omega arith)
      next Ordering.eq x y = half (compare (r * 2) d) (compared (r * 2) d)
        where
          m : k * d ≡ q * d + d
          m = rw x (omega arith)

          half : (o : Ordering) → Compared o (r * 2) d → Beats (q * d + r) d q k
          half Ordering.lt z = inl (omega (arith, m))
          half Ordering.eq z = inr (omega (arith, m), even z)
          half Ordering.gt z = absurd (omega arith)
      next Ordering.gt x y = let m : (q + 2) * d ≤ k * d = mul-le-mul_right d (omega arith) in inl (omega arith)

      by : (o : Ordering) → Compared o k q → Beats (q * d + r) d q k
      by Ordering.lt x = let m : (k + 1) * d ≤ q * d = mul-le-mul_right d (omega arith) in inl (omega arith)
      by Ordering.eq x = absurd (other x)
      by Ordering.gt x = next (compare k (suc q)) (compared k (suc q)) x

  high_wins : d ≤ r * 2 → (r * 2 ≡ d → suc q % 2 ≡ 0) → (k ≡ suc q → ⊥) → Beats (q * d + r) d (suc q) k
  high_wins s even other = by (compare k q) (compared k q)
    where
      top : suc q * d ≡ q * d + d
      top = omega arith

      next : (o : Ordering) → Compared o k (suc q) → q < k → Beats (q * d + r) d (suc q) k
      next Ordering.lt x y = absurd (omega arith)
      next Ordering.eq x y = absurd (other x)
      next Ordering.gt x y = let m : (q + 2) * d ≤ k * d = mul-le-mul_right d (omega arith) in inl (omega (arith, top))

      by : (o : Ordering) → Compared o k q → Beats (q * d + r) d (suc q) k
      by Ordering.lt x = let m : (k + 1) * d ≤ q * d = mul-le-mul_right d (omega arith) in inl (omega (arith, top))
      by Ordering.eq x = half (compare (r * 2) d) (compared (r * 2) d)
        where
          m : k * d ≡ q * d
          m = rw x refl

          half : (o : Ordering) → Compared o (r * 2) d → Beats (q * d + r) d (suc q) k
          half Ordering.lt z = absurd (omega arith)
          half Ordering.eq z = inr (omega (arith, m, top), even z)
          half Ordering.gt z = inl (omega (arith, m, top))
      by Ordering.gt x = next (compare k (suc q)) (compared k (suc q)) x

  wins : {c : ℕ} → Chosen q r d c → (k ≡ c → ⊥) → Beats (q * d + r) d c k
  wins (down s) other = low_wins (omega arith) (λ (e : r * 2 ≡ d). absurd (omega arith)) other
  wins (tie s) other = by (q % 2) refl (omega arith) other
    where
      by : (p : ℕ) → q % 2 ≡ p → p < 2 → (k ≡ q + p → ⊥) → Beats (q * d + r) d (q + p) k
      by zero e l o = rw add-zero (low_wins (omega arith) (λ (x : r * 2 ≡ d). e) (rw add-zero at o))
      by (suc zero) e l o =
          let won = high_wins (omega arith) (λ (x : r * 2 ≡ d). odd q e) (rw add-one at o) in
          subst (λ (x : ℕ). Beats (q * d + r) d x k) (sym (add-one q)) won
        where
          odd : (y : ℕ) → y % 2 ≡ 1 → suc y % 2 ≡ 0
          odd y g = omega arith
      by (suc (suc p)) e l o = absurd (omega arith)
  wins (up s) other = high_wins (omega arith) (λ (e : r * 2 ≡ d). absurd (omega arith)) other

pub nearest_count : (n d : ℕ) → 0 < d → NearestCount n d (closest n d)
nearest_count n d p =
    record {
      nearest = λ k other.
          let won = wins (n / d) (n % d) d k (mod-lt n p) (closest_chosen n d) other in
          subst (λ (x : ℕ). Beats x d (closest n d) k) (div-add-mod' n d) won;
    }
