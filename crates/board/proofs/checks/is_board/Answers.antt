-- `is_board` meets its contract. The code tests each slot before the first one whose length field is 0, and then tests
-- that all remaining bytes are 0. `checked` shows that this is the definition's test.
use mathlib.Core.Path.{◌≡◌, refl, sym, ap, ◌∙◌}
use mathlib.Core.Bool.{true, false, ◌&&◌}
use mathlib.Core.List.{List}
use Prim.Native.Nat.{ℕ, ◌*◌}
use native.Mathlib.Omega.{arith}
use borrow.Author.Tests.{eq-eqb}
use lib.ListN.{length, drop}
use Rattle.records.specs.Layout.{answer_room}
use Rattle.slots.specs.Slots.{is_zero}
use Rattle.board.specs.Board.{SLOTS, board_size, is_board}
use Rattle.board.specs.Internals.{slots_before_free, filled_rising}
use Rattle.board.proofs.Checked.{checked}
use Rattle.board.proofs.checks.is_board.Goals as goal

-- For bytes of the right size, `is_board` is the conjunction of the two tests that the code makes.
tested : (b : List ℕ) → length b ≡ board_size →
    let n = slots_before_free SLOTS b in
    is_board b ≡ filled_rising n 0 b && is_zero (drop (n * answer_room) b)
unfolding is_board
tested b e = rw (eq-eqb (length b) board_size e) (checked SLOTS 0 b e)

pub returns-then-are_filled : goal.returns-then-are_filled
returns-then-are_filled c =
    let b = c.args.board.now in
    let n = c.filled_slots-filled in
    let zero : c.is_zero.result ≡ is_zero (drop (n.result * answer_room) b) = c.is_zero.ensures ∙ ap is_zero c.slots_from.ensures in
    let filled : filled_rising n.result 0 b ≡ true = sym c.are_filled.ensures ∙ c.if-are_filled.true in
    zero ∙ sym (tested b (omega arith) ∙ rw (← n.ensures.result, filled) refl)

pub returns-else-are_filled : goal.returns-else-are_filled
returns-else-are_filled c =
    let b = c.args.board.now in
    let n = c.filled_slots-filled in
    let not_filled : filled_rising n.result 0 b ≡ false = sym c.are_filled.ensures ∙ c.if-are_filled.false in
    c.if-are_filled.false ∙ sym (tested b (omega arith) ∙ rw (← n.ensures.result, not_filled) refl)
