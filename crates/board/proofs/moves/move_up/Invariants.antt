-- `move_up` meets its contract. The loop invariant: the bytes from i up to `end` have been moved, so the board is
-- `moved_up` from i.
use mathlib.Core.Path.{◌≡◌}
use Prim.Native.Nat.{◌≤◌}
use Rattle.board.specs.Internals.{moved_up}
use Rattle.board.proofs.moves.move_up.Given as goal

abbrev pub invariant-loop-i : goal.invariant-loop-i
invariant-loop-i l = (l.from ≤ l.i) × (l.i ≤ l.end) × (l.board ≡ moved_up l.i l.end l.initial.board)
