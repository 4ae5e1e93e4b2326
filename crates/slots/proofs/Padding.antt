-- Bytes padded with zeros up to a size (`padded`): how many they are (`padded_length`), the byte at each index
-- (`padded_at`), the zeros at the end if the bytes fit (`padded_is`), and the numbers stored in them (`number_padded`).
use mathlib.Core.Path.{◌≡◌, refl, ap, ◌∙◌}
use mathlib.Core.List.{List, [], ◌∷◌, ◌++◌}
use Prim.Native.Nat.{ℕ, zero, suc, ◌+◌, ◌-◌, ◌≤◌, ◌<◌}
use native.Mathlib.Omega.{arith}
use lib.ListN.{length, get_or, take, replicate, length-append, length-replicate}
use lib.Seq.{take-append-add, get_or-take, length-take-le}
use Rattle.std.proofs.lemmas.List.{take-replicate}
use Rattle.little_endian.specs.Bytes.{number_at}
use Rattle.little_endian.proofs.Same.{number_same}
use Rattle.slots.specs.Slots.{padded}

pub padded_length : (n : ℕ) (c : List ℕ) → length (padded n c) ≡ n
unfolding padded
padded_length n c = length-take-le n (c ++ replicate n 0) (simp (length-append, length-replicate) (omega arith))

-- A read past the end of a list gives 0, so zeros after the bytes change no byte that is read.
zeros_after : (c : List ℕ) (n i : ℕ) → get_or (c ++ replicate n 0) i 0 ≡ get_or c i 0
zeros_after [] zero i = refl
zeros_after [] (suc n) zero = refl
zeros_after [] (suc n) (suc i) = zeros_after [] n i
zeros_after (b ∷ c) n zero = refl
zeros_after (b ∷ c) n (suc i) = zeros_after c n i

pub padded_at : (n : ℕ) (c : List ℕ) (i : ℕ) → i < n → get_or (padded n c) i 0 ≡ get_or c i 0
unfolding padded
padded_at n c i h = get_or-take n (c ++ replicate n 0) i 0 h ∙ zeros_after c n i

pub padded_is : (n : ℕ) (c : List ℕ) → length c ≤ n → padded n c ≡ c ++ replicate (n - length c) 0
unfolding padded
padded_is n c h =
    let e : n ≡ length c + (n - length c) = omega arith in
    ap (λ (k : ℕ). take k (c ++ replicate n 0)) e ∙ take-append-add c (replicate n 0) (n - length c)
    ∙ ap (λ (l : List ℕ). c ++ l) (take-replicate (n - length c) n 0 (omega arith))

-- ---- numbers in padded bytes

pub number_padded : (w n at : ℕ) (c : List ℕ) → at + w ≤ n → number_at w (padded n c) at ≡ number_at w c at
number_padded w n at c h = number_same w at (padded n c) c (λ (i : ℕ) l k. padded_at n c i (omega arith))
