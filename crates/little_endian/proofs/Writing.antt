-- Shows what a public write does to its buffer: nothing if there is no room
-- (`no_room`), and otherwise it stores the bytes (`stored`).
use mathlib.Core.Path.{◌≡◌, sym, ap, ◌∙◌}
use mathlib.Core.Bool.{Bool, true, false, cond}
use mathlib.Core.List.{List, ◌++◌}
use Prim.Native.Nat.{ℕ, ◌+◌, ◌≤◌}
use native.Mathlib.Nat.{zero-add}
use native.Mathlib.Omega.{arith}
use borrow.Author.Tests.{leb-true}
use lib.Dec.{leb}
use lib.ListN.{length, drop}
use lib.Seq.{sets, sets-eq}
use Rattle.little_endian.specs.Bytes.{has_room, written}

-- The result r and the buffer at exit are those of the definitions, for the given buffer at entry and bytes.
abbrev pub Wrote : List ℕ → List ℕ → Bool → List ℕ → Type 0
Wrote buffer bytes r after = (r ≡ has_room buffer bytes) × (after ≡ written buffer bytes)

module _ (buffer bytes : List ℕ) (n : ℕ) (e : length bytes ≡ n) where
  pub no_room : leb n (length buffer) ≡ false → Wrote buffer bytes false buffer
  unfolding has_room written
  no_room h =
      let t : leb (length bytes) (length buffer) ≡ false = rw e h in
      (sym t, sym (ap (λ (b : Bool). cond b (bytes ++ drop (length bytes) buffer) buffer) t))

  pub stored : (after : List ℕ) → leb n (length buffer) ≡ true → after ≡ sets buffer 0 bytes → Wrote buffer bytes true after
  unfolding has_room written
  stored after h f =
      let t : leb (length bytes) (length buffer) ≡ true = rw e h in
      let room : 0 + length bytes ≤ length buffer = omega (arith, leb-true (length bytes) (length buffer) t) in (
        sym t,
        f
            ∙ sets-eq bytes buffer 0 room
            ∙ ap (λ (k : ℕ). bytes ++ drop k buffer) (zero-add (length bytes))
            ∙ sym (ap (λ (b : Bool). cond b (bytes ++ drop (length bytes) buffer) buffer) t),
      )
