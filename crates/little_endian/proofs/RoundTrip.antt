-- Shows that reading returns what was written, whatever is before and after it: for one number that fits its width
-- (`number_back`), and from that for a whole table of them (`table_back`).
use mathlib.Core.Path.{◌≡◌, refl, sym, ap, ◌∙◌}
use mathlib.Core.List.{List, [], ◌∷◌, ◌++◌, append_assoc}
use Prim.Native.Nat.{ℕ, zero, suc, ◌+◌, ◌*◌, ◌/◌, ◌%◌, ◌^◌, ◌<◌}
use native.Mathlib.Omega.{arith}
use lib.ListN.{length, length-append}
use lib.Pow.{pow-add}
use lib.Seq.{get_or-append_seam}
use Rattle.little_endian.specs.Bytes.{bytes_of, number_at}
use Rattle.little_endian.specs.Tables.{decode, packed}
use Rattle.little_endian.proofs.Tabled.{bytes_length}

pub number_back : (w x : ℕ) (before after : List ℕ) → x < 2 ^ (8 * w) → number_at w (before ++ (bytes_of w x ++ after)) (length before) ≡ x
unfolding number_at bytes_of
number_back zero x before after h = omega arith
number_back (suc w) x before after h =
    let y = x % 256 in
    let rest = bytes_of w (x / 256) ++ after in
    ap (λ (z : ℕ). z + 256 * number_at w (before ++ (y ∷ rest)) (length before + 1)) (get_or-append_seam before y rest 0)
    ∙ ap (λ (z : ℕ). y + 256 * z) (moved y rest
    ∙ number_back w (x / 256) (before ++ (y ∷ [])) after (smaller (sym (ap (λ (n : ℕ). 2 ^ n) (eight w) ∙ pow-add 2 (8 * w) 8))))
    ∙ parts x
  where
    moved : (y : ℕ) (rest : List ℕ) →
        number_at w (before ++ (y ∷ rest)) (length before + 1) ≡ number_at w ((before ++ (y ∷ [])) ++ rest) (length (before ++ (y ∷ [])))
    moved y rest =
        ap (λ (l : List ℕ). number_at w l (length before + 1)) (sym (append_assoc before (y ∷ []) rest))
        ∙ ap (λ (n : ℕ). number_at w ((before ++ (y ∷ [])) ++ rest) n) (sym (length-append before (y ∷ [])))

    eight : (n : ℕ) → 8 * suc n ≡ 8 * n + 8
    eight n = omega arith

    smaller : 2 ^ (8 * w) * 2 ^ 8 ≡ 2 ^ (8 * suc w) → x / 256 < 2 ^ (8 * w)
    smaller e = fit (2 ^ (8 * w)) (2 ^ (8 * suc w)) e h
      where
        fit : (p q : ℕ) → p * 2 ^ 8 ≡ q → x < q → x / 256 < p
        fit p q f g = omega arith

    parts : (z : ℕ) → z % 256 + 256 * (z / 256) ≡ z
    parts z = omega arith

-- Each number fits its width.
infixr 5 ◌⟫◌
pub data InRange : List ℕ → List ℕ → Type 0 where
  done : InRange [] []
  ◌⟫◌ : {w v : ℕ} {ws vs : List ℕ} → v < 2 ^ (8 * w) → InRange ws vs → InRange (w ∷ ws) (v ∷ vs)

pub table_back : (ws vs before after : List ℕ) → InRange ws vs → decode ws (before ++ (packed ws vs ++ after)) (length before) ≡ vs
unfolding decode packed
table_back [] [] before after done = refl
table_back [] (v ∷ vs) before after h = elim h [ ]
table_back (w ∷ ws) [] before after h = elim h [ ]
table_back (w ∷ ws) (v ∷ vs) before after (l ⟫ h) =
    let b = bytes_of w v in
    let rest = packed ws vs ++ after in
    let flat : before ++ ((b ++ packed ws vs) ++ after) ≡ before ++ (b ++ rest) =
    ap (λ (l : List ℕ). before ++ l) (append_assoc b (packed ws vs) after) in
    let next : length before + w ≡ length (before ++ b) =
    sym (length-append before b ∙ ap (λ (n : ℕ). length before + n) (bytes_length w v)) in
    ap (λ (l : List ℕ). number_at w l (length before) ∷ decode ws l (length before + w)) flat
    ∙ ap (λ (n : ℕ). n ∷ decode ws (before ++ (b ++ rest)) (length before + w)) (number_back w v before rest l)
    ∙ ap (λ (l : List ℕ). v ∷ l)
    (ap (λ (l : List ℕ). decode ws l (length before + w)) (sym (append_assoc before b rest))
    ∙ ap (λ (n : ℕ). decode ws ((before ++ b) ++ rest) n) next
    ∙ table_back ws vs (before ++ b) after h)
