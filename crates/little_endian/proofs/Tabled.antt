-- Numbers stored by a table of widths: how many bytes they take (`packed_length`), how many bytes are left from a field on
-- (`total_at`, `total_past`), the effect of storing one more number (`put_more`), and that none is left at the end of a table
-- (`put_none`).
use mathlib.Core.Path.{◌≡◌, refl, sym, ap, ◌∙◌}
use mathlib.Core.List.{List, [], ◌∷◌, ◌++◌}
use mathlib.Core.Logic.{◌⊎◌, inl, inr}
use Prim.Native.Nat.{ℕ, zero, suc, ◌+◌, ◌≤◌, ◌<◌, ◌/◌}
use native.Mathlib.Nat.{add-zero}
use native.Mathlib.Omega.{arith}
use lib.ListN.{length, get_or, set, drop, drop_of_length-le, length-append}
use lib.Seq.{sets}
use Rattle.std.proofs.lemmas.List.{drop_more}
use Rattle.little_endian.specs.Bytes.{bytes_of}
use Rattle.little_endian.specs.Tables.{total, packed}

pub total_at : (ws : List ℕ) (i : ℕ) → i < length ws → total (drop i ws) ≡ get_or ws i 0 + total (drop (i + 1) ws)
unfolding total
total_at ws i h = ap total (drop_more ws i 0 h)

-- Past the last field no bytes are left.
pub total_past : (ws : List ℕ) (i : ℕ) → length ws ≤ i → total (drop i ws) ≡ 0
unfolding total
total_past ws i h = ap total (drop_of_length-le ws h)

pub bytes_length : (w x : ℕ) → length (bytes_of w x) ≡ w
unfolding bytes_of
bytes_length zero x = refl
bytes_length (suc w) x = ap suc (bytes_length w (x / 256))

pub packed_length : (ws vs : List ℕ) → length ws ≤ length vs → length (packed ws vs) ≡ total ws
unfolding packed total
packed_length [] vs h = refl
packed_length (w ∷ ws) [] h = omega arith
packed_length (w ∷ ws) (v ∷ vs) h = length-append (bytes_of w v) (packed ws vs)
    ∙ sum (length (bytes_of w v)) (length (packed ws vs)) (bytes_length w v) (packed_length ws vs (omega arith))
  where
    sum : (a b : ℕ) {n : ℕ} → a ≡ w → b ≡ n → a + b ≡ w + n
    sum a b e f = omega arith

-- Storing xs and then ys right after them is the same as storing xs ++ ys.
pub run : (xs ys s : List ℕ) (at : ℕ) → sets (sets s at xs) (at + length xs) ys ≡ sets s at (xs ++ ys)
run [] ys s at = simp add-zero
run (x ∷ xs) ys s at =
    let e : at + suc (length xs) ≡ suc at + length xs = omega arith in
    rw e (run xs ys (set s at x) (suc at))

pub put_more : (w v at : ℕ) (ws vs s t : List ℕ) → t ≡ sets s at (bytes_of w v) →
    sets t (at + w) (packed ws vs) ≡ sets s at (packed (w ∷ ws) (v ∷ vs))
unfolding packed
put_more w v at ws vs s t f =
    let b = bytes_of w v in
    let rest = packed ws vs in
    ap (λ (l : List ℕ). sets l (at + w) rest) f
    ∙ ap (λ (n : ℕ). sets (sets s at b) (at + n) rest) (sym (bytes_length w v))
    ∙ run b rest s at

-- Nothing is left to store where the widths or the values end.
no_value : (ws : List ℕ) → packed ws [] ≡ []
unfolding packed
no_value [] = refl
no_value (w ∷ ws) = refl

pub put_none : (ws vs s : List ℕ) (at : ℕ) → (ws ≡ []) ⊎ (vs ≡ []) → sets s at (packed ws vs) ≡ s
unfolding packed
put_none ws vs s at (inl none) = rw none
put_none ws vs s at (inr none) = rw (none, no_value ws)
