-- Shows that taking or dropping n elements of a list gives the same result if n is first
-- limited to the list's length (`take_cut`, `drop_cut`).
use Prim.Native.Nat.{ℕ, zero, suc, min}
use mathlib.Core.Path.{◌≡◌, ap, ◌∙◌}
use mathlib.Core.List.{List, [], ◌∷◌}
use native.Mathlib.Nat.{zero-min, min-zero, suc-min-suc}
use lib.ListN.{length, take, drop}

module _ {A : Type 0} where
  pub take_cut : (n : ℕ) (l : List A) → take (min n (length l)) l ≡ take n l
  take_cut zero l = ap (λ (k : ℕ). take k l) (zero-min (length l))
  take_cut (suc n) [] = ap (λ (k : ℕ). take {A = A} k []) (min-zero (suc n))
  take_cut (suc n) (b ∷ l) = ap (λ (k : ℕ). take k (b ∷ l)) (suc-min-suc n (length l)) ∙ ap (λ t. b ∷ t) (take_cut n l)

  pub drop_cut : (n : ℕ) (l : List A) → drop (min n (length l)) l ≡ drop n l
  drop_cut zero l = ap (λ (k : ℕ). drop k l) (zero-min (length l))
  drop_cut (suc n) [] = ap (λ (k : ℕ). drop {A = A} k []) (min-zero (suc n))
  drop_cut (suc n) (b ∷ l) = ap (λ (k : ℕ). drop k (b ∷ l)) (suc-min-suc n (length l)) ∙ drop_cut n l
