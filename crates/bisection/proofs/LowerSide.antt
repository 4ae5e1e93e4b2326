-- The bisection of an interval whose lower end counts as being on a given side. Bisection depends on no place below its interval
-- (`agree`), so the given side has no effect on the upper half (`upper_half`). With the lower end's own side it is the bisection of 01
-- (`own_side`, `own_bracket`).
use mathlib.Core.Path.{◌≡◌, refl, sym, ap, ◌∙◌, subst, fun_ext}
use mathlib.Core.Bool.{Bool, true, false, cond}
use Prim.Native.Nat.{ℕ, zero, suc, ◌+◌, ◌^◌, ◌<◌}
use native.Mathlib.Omega.{arith}
use borrow.Author.Tests.{eq-eqb, eqb-true}
use lib.Pow.{pow_pos}
use lib.IntN.{ℤ, pos, negsuc, ◌+ℤ◌, +ℤ_assoc, +ℤ_idr}
use Rattle.stations.specs.declared.side.Side.{Side}
use Rattle.stations.specs.Grid.{Grid}
use Rattle.bisection.specs.Halving.{same, with_side, bisect_of}
use Rattle.bisection.specs.Pairs.{bracket_of, bracket_from}
use Rattle.bisection.proofs.Halving.{up_same, same_no, middle, top, up_twice, step}

-- ---- sides with that of the lower end replaced

same_yes : (a : ℤ) → same a a ≡ true
same_yes (pos a) = eq-eqb a a refl
same_yes (negsuc a) = eq-eqb a a refl

same_is : (a b : ℤ) → same a b ≡ true → a ≡ b
same_is (pos a) (pos b) e = ap pos (eqb-true a b e)
same_is (negsuc a) (negsuc b) e = ap negsuc (eqb-true a b e)
same_is (pos a) (negsuc b) e = cc
same_is (negsuc a) (pos b) e = cc

module _ (σ : ℤ → Side) (a : ℤ) (low : Side) where
  pub at_lower : with_side σ a low a ≡ low
  unfolding with_side
  at_lower = rw (same_yes a)

  pub above_lower : (d : ℕ) → 0 < d → with_side σ a low (a +ℤ pos d) ≡ σ (a +ℤ pos d)
  unfolding with_side
  above_lower d h = rw (same_no (a +ℤ pos d) a (λ e. omega (arith, up_same a d e, h)))

own_at : (σ : ℤ → Side) (a k : ℤ) (b : Bool) → same k a ≡ b → cond b (σ a) (σ k) ≡ σ k
own_at σ a k true e = ap σ (sym (same_is k a e))
own_at σ a k false e = refl

-- Giving the lower end its own side changes nothing.
pub own_side : (σ : ℤ → Side) (a : ℤ) → with_side σ a (σ a) ≡ σ
unfolding with_side
own_side σ a = fun_ext (λ k. own_at σ a k (same k a) refl)

pub own_bracket : (σ : ℤ → Side) (g : Grid) (i : ℕ) → bracket_from σ (σ (g.place i)) g i ≡ bracket_of σ g i
unfolding bracket_from
own_bracket σ g i = ap (λ (τ : ℤ → Side). bracket_of τ g i) (own_side σ (g.place i))

-- ---- independence of the places below an interval

none_left : (σ : ℤ → Side) (h : ℕ) (a b : ℤ) → bisect_of σ zero h a b ≡ record { lower = a; upper = b; halvings = h }
unfolding bisect_of
none_left σ h a b = refl

pub agree : (σ τ : ℤ → Side) (n h : ℕ) (a : ℤ) → ((d : ℕ) → σ (a +ℤ pos d) ≡ τ (a +ℤ pos d)) →
    bisect_of σ n h a (a +ℤ pos (2 ^ n)) ≡ bisect_of τ n h a (a +ℤ pos (2 ^ n))
agree σ τ zero h a f = none_left σ h a (a +ℤ pos 1) ∙ sym (none_left τ h a (a +ℤ pos 1))
agree σ τ (suc n) h a f =
    let lower : σ a ≡ τ a = subst (λ (z : ℤ). σ z ≡ τ z) (+ℤ_idr a) (f 0) in
    let here : σ (middle a n) ≡ τ (middle a n) = f (2 ^ n) in
    let in_lower : bisect_of σ n (h + 1) a (middle a n) ≡ bisect_of τ n (h + 1) a (middle a n) = agree σ τ n (h + 1) a f in
    let from_middle : (d : ℕ) → σ (middle a n +ℤ pos d) ≡ τ (middle a n +ℤ pos d) =
    λ d. subst (λ (z : ℤ). σ z ≡ τ z) (sym (+ℤ_assoc a (pos (2 ^ n)) (pos d))) (f (2 ^ n + d)) in
    let above = agree σ τ n (h + 1) (middle a n) from_middle in
    let in_upper : bisect_of σ n (h + 1) (middle a n) (top a n) ≡ bisect_of τ n (h + 1) (middle a n) (top a n) =
    subst (λ (z : ℤ). bisect_of σ n (h + 1) (middle a n) z ≡ bisect_of τ n (h + 1) (middle a n) z) (up_twice a n) above in
    rw (step a n σ h, step a n τ h, in_lower, in_upper, lower, here)

-- From the middle upwards, the side given to the lower end has no effect.
module _ (σ : ℤ → Side) (a : ℤ) (low : Side) (n h : ℕ) where
  pub at_middle : with_side σ a low (middle a n) ≡ σ (middle a n)
  at_middle = above_lower σ a low (2 ^ n) (omega (arith, pow_pos n))

  from_middle : (d : ℕ) → with_side σ a low (middle a n +ℤ pos d) ≡ σ (middle a n +ℤ pos d)
  from_middle d =
      subst (λ (z : ℤ). with_side σ a low z ≡ σ z) (sym (+ℤ_assoc a (pos (2 ^ n)) (pos d)))
      (above_lower σ a low (2 ^ n + d) (omega (arith, pow_pos n)))

  pub upper_half : bisect_of (with_side σ a low) n h (middle a n) (top a n) ≡ bisect_of σ n h (middle a n) (top a n)
  upper_half =
      subst (λ (z : ℤ). bisect_of (with_side σ a low) n h (middle a n) z ≡ bisect_of σ n h (middle a n) z) (up_twice a n)
      (agree (with_side σ a low) σ n h (middle a n) from_middle)
