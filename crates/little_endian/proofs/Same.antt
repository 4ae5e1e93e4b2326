-- Shows that a number depends only on its own bytes (`number_same`, by induction on its width). So it stays
-- the same if the bytes after it are removed (`number_take`), if bytes before it are removed
-- (`number_drop`), and if more bytes follow (`number_front`).
use mathlib.Core.Path.{◌≡◌, refl}
use mathlib.Core.List.{List, ◌++◌}
use Prim.Native.Nat.{ℕ, zero, suc, ◌+◌, ◌≤◌, ◌<◌}
use native.Mathlib.Omega.{arith}
use lib.ListN.{length, get_or, take, drop, get_or-append}
use lib.Seq.{get_or-take, get_or-drop}
use Rattle.little_endian.specs.Bytes.{number_at}

pub number_same : (w at : ℕ) (s t : List ℕ) → ((i : ℕ) → at ≤ i → i < at + w → get_or s i 0 ≡ get_or t i 0)
    → number_at w s at ≡ number_at w t at
unfolding number_at
number_same zero at s t h = refl
number_same (suc w) at s t h =
    let rest : number_at w s (at + 1) ≡ number_at w t (at + 1) =
    number_same w (at + 1) s t (λ (i : ℕ) l k. h i (omega arith) (omega arith)) in
    rw (h at (omega arith) (omega arith), rest)

pub number_take : (w n at : ℕ) (s : List ℕ) → at + w ≤ n → number_at w (take n s) at ≡ number_at w s at
number_take w n at s h = number_same w at (take n s) s (λ (i : ℕ) l k. get_or-take n s i 0 (omega arith))

pub number_drop : (w n at : ℕ) (s : List ℕ) → number_at w (drop n s) at ≡ number_at w s (n + at)
unfolding number_at
number_drop zero n at s = refl
number_drop (suc w) n at s =
    let e : n + (at + 1) ≡ n + at + 1 = omega arith in
    rw (get_or-drop n s at 0, number_drop w n (at + 1) s, e)

pub number_front : (w at : ℕ) (s p : List ℕ) → at + w ≤ length s → number_at w (s ++ p) at ≡ number_at w s at
number_front w at s p h = number_same w at (s ++ p) s (λ (i : ℕ) l k. get_or-append s p 0 i (omega arith))
