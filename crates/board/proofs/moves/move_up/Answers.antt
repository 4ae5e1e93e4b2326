-- `move_up` meets its contract. The loop invariant: the bytes from i up to `end` have been moved, so the board is
-- `moved_up` from i.
use mathlib.Core.Path.{◌≡◌, sym, ap, ◌∙◌}
use mathlib.Core.List.{List}
use Prim.Native.Nat.{ℕ, suc, ◌+◌, ◌-◌}
use native.Mathlib.Omega.{arith}
use lib.ListN.{length, get_or, set}
use Rattle.records.specs.Layout.{answer_room}
use Rattle.board.specs.Internals.{moved_up}
use Rattle.board.proofs.Moved.{move_none, move_length, move_next}
use Rattle.board.proofs.moves.move_up.Goals as goal
use Rattle.board.proofs.moves.move_up.Goals.{At-loop-i}

pub loop-i-init : goal.loop-i-init
loop-i-init c = (omega arith, omega arith, sym (move_none c.args.end c.args.board.now))

-- The number of bytes stays the same.
still : (c : At-loop-i) → length c.loop-i.board ≡ length c.args.board.now
still c =
    let a = c.args in
    ap length c.loop-i.invariant.2 ∙ move_length c.loop-i.i a.end a.board.now (omega arith) (omega arith)

pub bounds-board-i : goal.bounds-board-i
bounds-board-i c = omega (arith, still (goal.at.bounds-board-i c).At-loop-i)

pub overflow_add-board : goal.overflow_add-board
overflow_add-board c = omega (arith, still (goal.at.overflow_add-board c).At-loop-i)

pub bounds-board-i-in-loop-i : goal.bounds-board-i-in-loop-i
bounds-board-i-in-loop-i c = omega (arith, still (goal.at.bounds-board-i-in-loop-i c).At-loop-i)

pub loop-i-preserved : goal.loop-i-preserved
loop-i-preserved c =
    let l = c.loop-i in
    let a = c.args in
    let i = l.i - 1 in
    let one : l.i ≡ suc i = omega arith in
    let moved : l.board ≡ moved_up (suc i) a.end a.board.now =
    l.invariant.2 ∙ ap (λ (n : ℕ). moved_up n a.end a.board.now) one in (
      omega arith,
      omega arith,
      ap (λ (s : List ℕ). set s (i + answer_room) (get_or s i 0)) moved ∙ move_next i a.end a.board.now (omega arith) (omega arith),
    )

pub returns : goal.returns
returns c =
    let l = c.loop-i in
    let a = c.args in
    let last : l.i ≡ a.from = omega arith in
    l.invariant.2 ∙ ap (λ (n : ℕ). moved_up n a.end a.board.now) last
