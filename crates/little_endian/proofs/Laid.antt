-- Bytes written to the start of a buffer. If there is room, they become the front of the buffer and the rest
-- is unchanged (`laid`); otherwise the whole buffer is unchanged (`not_laid`). Earlier bytes that are
-- overwritten completely have no effect (`laid_over`).
use mathlib.Core.Path.{◌≡◌, sym, ap, ◌∙◌}
use mathlib.Core.List.{List, ◌++◌}
use Prim.Native.Nat.{ℕ, ◌+◌, ◌-◌, ◌≤◌, ◌<◌}
use native.Mathlib.Omega.{arith}
use borrow.Author.Tests.{le-leb, lt-leb}
use lib.ListN.{length, take, drop, length-append, length-drop}
use lib.Seq.{take-append-le, drop-append-add, drop-drop}
use Rattle.little_endian.specs.Bytes.{has_room, written}

pub laid : (buffer bytes : List ℕ) → length bytes ≤ length buffer → written buffer bytes ≡ bytes ++ drop (length bytes) buffer
unfolding written has_room
laid buffer bytes h = rw (le-leb (length bytes) (length buffer) h)

pub laid_length : (buffer bytes : List ℕ) → length bytes ≤ length buffer → length (written buffer bytes) ≡ length buffer
laid_length buffer bytes h =
    ap length (laid buffer bytes h) ∙ length-append bytes (drop (length bytes) buffer) ∙ omega (arith, length-drop (length bytes) buffer, h)

pub not_laid : (buffer bytes : List ℕ) → length buffer < length bytes → written buffer bytes ≡ buffer
unfolding written has_room
not_laid buffer bytes h = rw (lt-leb (length bytes) (length buffer) h)

pub laid_front : (n : ℕ) (buffer bytes : List ℕ) → length bytes ≤ length buffer → n ≤ length bytes →
    take n (written buffer bytes) ≡ take n bytes
laid_front n buffer bytes h l = rw (laid buffer bytes h) (take-append-le n bytes (drop (length bytes) buffer) l)

pub laid_over : (buffer a b : List ℕ) → length a ≤ length b → length b ≤ length buffer → written (written buffer a) b ≡ written buffer b
laid_over buffer a b l h =
    let more = length b - length a in
    let sum : length a + more ≡ length b = omega arith in
    let far = drop-append-add a (drop (length a) buffer) more ∙ drop-drop more (length a) buffer in
    let behind : drop (length b) (written buffer a) ≡ drop (length b) buffer = rw (laid buffer a (omega arith), ← sum) far in
    laid (written buffer a) b (omega (arith, laid_length buffer a (omega arith))) ∙ ap (λ (r : List ℕ). b ++ r) behind
    ∙ sym (laid buffer b h)
