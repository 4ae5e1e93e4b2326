-- Operations on negated numbers. A product with one negated factor, or a quotient with a negated dividend, is the
-- negated result (`neg_mul`, `mul_neg`, `neg_div`). Two negated factors have the same product as before
-- (`neg_mul_neg`). These follow from the equations of Operations.antt: an operation rounds the exact result, and
-- rounding treats both signs alike.
use mathlib.Core.Path.{◌≡◌, refl, sym, ap, ◌∙◌}
use mathlib.Core.Bool.{Bool, true, false, not}
use Prim.Native.Nat.{ℕ, ◌*◌, ◌<◌}
use lib.Ieee.{Float, binary64, unlike, round, neg}
use lib.Ieee.Positive.{num, den}
use Rattle.float64.specs.Notation.{◌⊕◌, ◌⊖◌, ◌⊗◌, ◌⊘◌}
use Rattle.float64.specs.Value.{finite_of}
use Rattle.float64.specs.Nearness.{negative}
use Rattle.bound_laws.proofs.Rounding.{neg_neg, round_neg}
use Rattle.bound_laws.proofs.Operations.{mul_is, div_is, sub_is, neg_finite, neg_num, neg_den, neg_sign}

unlike_not : (s t : Bool) → unlike (not s) t ≡ not (unlike s t)
unlike_not true true = refl
unlike_not true false = refl
unlike_not false true = refl
unlike_not false false = refl

not_unlike : (s t : Bool) → unlike s (not t) ≡ not (unlike s t)
not_unlike true true = refl
not_unlike true false = refl
not_unlike false true = refl
not_unlike false false = refl

module _ (x y : Float) (f : finite_of x ≡ true) (g : finite_of y ≡ true) where
  pub neg_mul : neg x ⊗ y ≡ neg (x ⊗ y)
  neg_mul =
      mul_is (neg x) y (neg_finite x ∙ f) g
      ∙ ap (λ (s : Bool). round binary64 (unlike s (negative y)) (num (neg x) * num y) (den (neg x) * den y)) (neg_sign x f)
      ∙ ap (λ (n : ℕ). round binary64 (unlike (not (negative x)) (negative y)) (n * num y) (den (neg x) * den y)) (neg_num x)
      ∙ ap (λ (n : ℕ). round binary64 (unlike (not (negative x)) (negative y)) (num x * num y) (n * den y)) (neg_den x)
      ∙ ap (λ (s : Bool). round binary64 s (num x * num y) (den x * den y)) (unlike_not (negative x) (negative y))
      ∙ round_neg (unlike (negative x) (negative y)) (num x * num y) (den x * den y)
      ∙ ap neg (sym (mul_is x y f g))

  pub neg_div : 0 < num y → neg x ⊘ y ≡ neg (x ⊘ y)
  neg_div h =
      div_is (neg x) y (neg_finite x ∙ f) g h
      ∙ ap (λ (s : Bool). round binary64 (unlike s (negative y)) (num (neg x) * den y) (num y * den (neg x))) (neg_sign x f)
      ∙ ap (λ (n : ℕ). round binary64 (unlike (not (negative x)) (negative y)) (n * den y) (num y * den (neg x))) (neg_num x)
      ∙ ap (λ (n : ℕ). round binary64 (unlike (not (negative x)) (negative y)) (num x * den y) (num y * n)) (neg_den x)
      ∙ ap (λ (s : Bool). round binary64 s (num x * den y) (num y * den x)) (unlike_not (negative x) (negative y))
      ∙ round_neg (unlike (negative x) (negative y)) (num x * den y) (num y * den x)
      ∙ ap neg (sym (div_is x y f g h))

  pub mul_neg : x ⊗ neg y ≡ neg (x ⊗ y)
  mul_neg =
      mul_is x (neg y) f (neg_finite y ∙ g)
      ∙ ap (λ (s : Bool). round binary64 (unlike (negative x) s) (num x * num (neg y)) (den x * den (neg y))) (neg_sign y g)
      ∙ ap (λ (n : ℕ). round binary64 (unlike (negative x) (not (negative y))) (num x * n) (den x * den (neg y))) (neg_num y)
      ∙ ap (λ (n : ℕ). round binary64 (unlike (negative x) (not (negative y))) (num x * num y) (den x * n)) (neg_den y)
      ∙ ap (λ (s : Bool). round binary64 s (num x * num y) (den x * den y)) (not_unlike (negative x) (negative y))
      ∙ round_neg (unlike (negative x) (negative y)) (num x * num y) (den x * den y)
      ∙ ap neg (sym (mul_is x y f g))

pub neg_mul_neg : (x y : Float) → finite_of x ≡ true → finite_of y ≡ true → neg x ⊗ neg y ≡ x ⊗ y
neg_mul_neg x y f g = neg_mul x (neg y) f (neg_finite y ∙ g) ∙ ap neg (mul_neg x y f g) ∙ neg_neg (x ⊗ y)

-- x − (−y) is x + y, and x + (−y) is x − y.
pub sub_neg : (x y : Float) → x ⊖ neg y ≡ x ⊕ y
sub_neg x y = sub_is x (neg y) ∙ ap (λ (z : Float). x ⊕ z) (neg_neg y)

pub add_neg : (x y : Float) → x ⊕ neg y ≡ x ⊖ y
add_neg x y = sym (sub_is x y)
