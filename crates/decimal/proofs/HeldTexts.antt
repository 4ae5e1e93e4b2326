-- The bytes of `text_of`: if they are those of the text or 0 at every index, they are the text and zeros (`all_bytes`). A closure gives
-- such bytes (`calls_give`). The first bytes of the result are the text (`text_held`).
use mathlib.Core.Path.{◌≡◌, refl, sym, ap, ◌∙◌, subst}
use mathlib.Core.Bool.{Bool, true, false}
use mathlib.Core.List.{List, [], ◌∷◌, ◌++◌}
use Prim.Native.Nat.{ℕ, zero, suc, ◌+◌, ◌-◌, ◌≤◌, ◌<◌}
use native.Mathlib.Omega.{arith}
use borrow.Author.Tests.{ltb-true, ltb-false}
use denote.Param.Members.{Mut}
use lib.Dec.{ltb}
use lib.ListN.{length, get_or, take, replicate, length-append, length-replicate, get_or-eq_default}
use lib.Seq.{take_at, ext_get_or}
use Rattle.std.specs.Fn.{Called}
use Rattle.std.specs.Array.{IsFromFnResultFrom, IsFromFnResult}
use Rattle.std.proofs.lemmas.List.{get_or-replicate}
use Rattle.decimal.specs.Texts.{text_of}
use Rattle.decimal.specs.declared.Decimal.{Decimal}
use Rattle.decimal.specs.declared.texts.Text.{Text}

abbrev zeros : ℕ → List ℕ
zeros n = replicate n 0

-- What `array::from_fn` gives for a closure that returns h i for the index i, and keeps its state.
module _ {F : Type 0} (g : Mut F (ℕ × Unit {0}) ℕ) (f : F) (h : ℕ → ℕ)
    (gives : (i y : ℕ) (q : F) → Called g f (i, tt) y q → (q ≡ f) × (y ≡ h i)) where
  calls_from : (ys : List ℕ) (i n k : ℕ) → IsFromFnResultFrom g f ys i n → i ≤ k → k < i + n → get_or ys k 0 ≡ h k
  calls_from ys i zero k r a b = absurd (omega arith)
  calls_from ys i (suc n) k (q, y, at, called, rest) a b =
      let same = (gives i y q called).0 in
      let after = subst (λ (p : F). IsFromFnResultFrom g p ys (i + 1) n) same rest in
      by (λ l. calls_from ys (i + 1) n k after l (omega arith)) (ltb i k) refl
    where
      by : (i + 1 ≤ k → get_or ys k 0 ≡ h k) → (t : Bool) → ltb i k ≡ t → get_or ys k 0 ≡ h k
      by later true e = later (omega (arith, ltb-true i k e))
      by later false e =
          let here : i ≡ k = omega (arith, ltb-false i k e) in
          ap (λ (j : ℕ). get_or ys j 0) (sym here) ∙ at.1 0 ∙ (gives i y q called).1 ∙ ap h here

  pub calls_give : (ys : List ℕ) (n : ℕ) → IsFromFnResult g f ys n → (k : ℕ) → k < n → get_or ys k 0 ≡ h k
  calls_give ys n r k l = calls_from ys 0 n k r.each (omega arith) (omega arith)

-- The text with zeros after it has, at every index, what the text has there, or 0.
padded_at : (t : List ℕ) (n i : ℕ) → get_or (t ++ zeros n) i 0 ≡ get_or t i 0
padded_at [] n i = by (ltb i n) refl
  where
    by : (b : Bool) → ltb i n ≡ b → get_or (zeros n) i 0 ≡ 0
    by true e = get_or-replicate n i 0 0 (ltb-true i n e)
    by false e = get_or-eq_default (zeros n) 0 (rw length-replicate (ltb-false i n e))
padded_at (c ∷ t) n zero = refl
padded_at (c ∷ t) n (suc i) = padded_at t n i

-- Eighteen bytes that are, at every index, those of the text or 0, are the text with zeros after it.
pub all_bytes : (t bytes : List ℕ) → length bytes ≡ 18 → length t ≤ 18 → ((i : ℕ) → i < 18 → get_or bytes i 0 ≡ get_or t i 0) →
    bytes ≡ t ++ zeros (18 - length t)
all_bytes t bytes e l h =
    let whole = t ++ zeros (18 - length t) in
    let size : length bytes ≡ length whole = simp (length-append, length-replicate) (omega arith) in
    ext_get_or 0 bytes whole size (λ i k. h i (omega arith) ∙ sym (padded_at t (18 - length t) i))

pub text_held : (r : Text) (d : Decimal) → r.bytes ≡ text_of d ++ replicate (18 - length (text_of d)) 0 → r.length ≡ length (text_of d)
    → take r.length r.bytes ≡ text_of d
text_held r d e f =
    ap (λ (n : ℕ). take n r.bytes) f
    ∙ ap (take (length (text_of d))) e
    ∙ take_at (text_of d) (zeros (18 - length (text_of d))) (length (text_of d)) refl
