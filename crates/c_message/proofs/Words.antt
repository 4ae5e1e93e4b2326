-- Numbers that are all stored in eight bytes are words (`packed_words`), and a state has eighteen of them (`eighteen`).
use mathlib.Core.Path.{◌≡◌, refl, ap}
use mathlib.Core.List.{List, [], ◌∷◌, ◌++◌}
use Prim.Native.Nat.{ℕ, zero, suc}
use native.Mathlib.Nat.{suc_inj}
use native.Mathlib.Omega.{arith}
use lib.ListN.{length, replicate}
use Rattle.little_endian.specs.Bytes.{bytes_of}
use Rattle.little_endian.specs.Tables.{packed}
use Rattle.orbit_message.specs.declared.states.State.{State}
use Rattle.c_message.specs.Numbers.{state_words, words_of}

packed_words : (n : ℕ) (ns : List ℕ) → length ns ≡ n → packed (replicate n 8) ns ≡ words_of ns
unfolding packed words_of
packed_words zero [] e = refl
packed_words zero (x ∷ ns) e = absurd (omega arith)
packed_words (suc n) [] e = absurd (omega arith)
packed_words (suc n) (x ∷ ns) e = ap (λ (l : List ℕ). bytes_of 8 x ++ l) (packed_words n ns (suc_inj e))

eighteen : (s : State) → length (state_words s) ≡ 18
unfolding state_words
eighteen s = refl

pub state_packed : (s : State) → packed (replicate 18 8) (state_words s) ≡ words_of (state_words s)
state_packed s = packed_words 18 (state_words s) (eighteen s)
