-- The loop step of `fill`: storing the next byte preserves the loop invariant (`fill_next`).
use Prim.Native.Nat.{ℕ, ◌+◌, ◌<◌}
use mathlib.Core.Path.{◌≡◌, sym, ◌∙◌}
use mathlib.Core.List.{List}
use native.Mathlib.Numerals.{add-one}
use native.Mathlib.Omega.{arith}
use lib.ListN.{length, take, get_or, set}
use lib.Seq.{take-suc, take-suc-set}
use Rattle.slots.specs.Slots.{padded}
use Rattle.slots.proofs.Padding.{padded_length, padded_at}

pub fill_next : (n : ℕ) (bytes slot : List ℕ) (i : ℕ) → i < n → length slot ≡ n → take i slot ≡ take i (padded n bytes)
    → take (i + 1) (set slot i (get_or bytes i 0)) ≡ take (i + 1) (padded n bytes)
fill_next n bytes slot i h l e =
    let p = padded n bytes in
    rw add-one
    (take-suc-set slot i (get_or bytes i 0) (omega arith)
    ∙ rw (e, ← padded_at n bytes i h)
    (sym (take-suc p i 0 (omega (arith, padded_length n bytes)))))
