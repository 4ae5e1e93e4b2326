-- Bytes are moved up by one slot, one at a time, from the last byte to the first. After some of these moves the board
-- is `moved_up` from a higher start, and moving one more byte lowers that start by one (`move_next`).
use mathlib.Core.Path.{◌≡◌, sym, ap, ◌∙◌}
use mathlib.Core.List.{List, ◌∷◌, ◌++◌, append_assoc, append-nil}
use Prim.Native.Nat.{ℕ, suc, ◌+◌, ◌-◌, ◌≤◌, ◌<◌}
use native.Mathlib.Omega.{arith}
use lib.ListN.{length, take, drop, get_or, set, length-append, length-drop, take-append-drop, get_or-append}
use lib.Seq.{take-suc, drop-cons, length-take-le, set_at, get_or-take}
use Rattle.records.specs.Layout.{answer_room}
use Rattle.board.specs.Internals.{moved_up}

nothing : (to : ℕ) → to - to ≡ 0
nothing to = omega arith

pub move_none : (to : ℕ) (b : List ℕ) → moved_up to to b ≡ b
unfolding moved_up
move_none to b = rw (nothing to, append-nil) (take-append-drop (to + answer_room) b)

pub move_length : (from to : ℕ) (b : List ℕ) → from ≤ to → to + answer_room ≤ length b → length (moved_up from to b) ≡ length b
unfolding moved_up
move_length from to b h k =
    let mid = take (to - from) (drop from b) in
    let first : length (take (from + answer_room) b) ≡ from + answer_room = length-take-le (from + answer_room) b (omega arith) in
    let middle : length mid ≡ to - from = length-take-le (to - from) (drop from b) (omega (arith, length-drop from b)) in
    length-append (take (from + answer_room) b ++ mid) (drop (to + answer_room) b)
    ∙ omega (arith, length-append (take (from + answer_room) b) mid, first, middle, length-drop (to + answer_room) b, h, k)

-- The bytes from i up to `to` begin with the byte at i.
begins : (i to : ℕ) (b : List ℕ) → i < to → i < length b → take (to - i) (drop i b) ≡ get_or b i 0 ∷ take (to - suc i) (drop (suc i) b)
begins i to b h k =
    let one : to - i ≡ suc (to - suc i) = omega arith in
    rw (one, drop-cons b i 0 k)

pub move_next : (i to : ℕ) (b : List ℕ) → i < to → to + answer_room ≤ length b →
    set (moved_up (suc i) to b) (i + answer_room) (get_or (moved_up (suc i) to b) i 0) ≡ moved_up i to b
unfolding moved_up
move_next i to b h k =
    let n = i + answer_room in
    let mid = take (to - suc i) (drop (suc i) b) in
    let last = drop (to + answer_room) b in
    let before = take n b in
    let size : length before ≡ n = length-take-le n b (omega arith) in
    let one : suc i + answer_room ≡ suc n = omega arith in
    let start : take (suc i + answer_room) b ++ mid ++ last ≡ before ++ (get_or b n 0 ∷ (mid ++ last)) =
    rw (one, take-suc b n 0 (omega arith)) (simp append_assoc) in
    let byte : get_or (take (suc i + answer_room) b ++ mid ++ last) i 0 ≡ get_or b i 0 =
    rw start (get_or-append before (get_or b n 0 ∷ (mid ++ last)) 0 i (omega (arith, size)) ∙ get_or-take n b i 0 (omega arith)) in
    ap (λ (x : ℕ). set (take (suc i + answer_room) b ++ mid ++ last) n x) byte
    ∙ ap (λ (l : List ℕ). set l n (get_or b i 0)) start
    ∙ set_at before (get_or b n 0) (mid ++ last) (get_or b i 0) n size
    ∙ sym (rw (begins i to b h (omega arith)) (simp append_assoc))
