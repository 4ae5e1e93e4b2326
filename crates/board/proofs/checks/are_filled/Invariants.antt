-- `are_filled` meets its contract. The loop invariant: `filled_rising` of the remaining slots is `filled_rising` of all n
-- slots.
use mathlib.Core.Path.{◌≡◌}
use Prim.Native.Nat.{◌-◌, ◌*◌}
use lib.ListN.{drop}
use Rattle.records.specs.Layout.{answer_room}
use Rattle.board.specs.Internals.{filled_rising}
use Rattle.board.proofs.checks.are_filled.Given as goal

abbrev pub invariant-loop-i : goal.invariant-loop-i
invariant-loop-i l = filled_rising (l.n - l.i) l.above (drop (l.i * answer_room) l.board) ≡ filled_rising l.n 0 l.board
