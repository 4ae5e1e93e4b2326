-- `filled_slots` meets its contract. The loop invariant is `Counted`: n slots passed the test so far, and n plus the
-- count over the remaining slots is the whole count.
use Rattle.board.specs.Board.{SLOTS}
use Rattle.board.specs.Internals.{has_length}
use Rattle.board.proofs.Checked.{Counted}
use Rattle.board.proofs.checks.filled_slots.Given as goal

abbrev pub invariant-loop-n : goal.invariant-loop-n
invariant-loop-n l = Counted has_length SLOTS l.board l.n
