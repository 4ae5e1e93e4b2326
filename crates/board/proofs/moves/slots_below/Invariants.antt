-- `slots_below` meets its contract. The loop invariant is `Counted`: i slots passed the test so far, and i plus the
-- count over the remaining slots is the whole count.
use Rattle.board.specs.Internals.{is_below}
use Rattle.board.proofs.Checked.{Counted}
use Rattle.board.proofs.moves.slots_below.Given as goal

abbrev pub invariant-loop-i : goal.invariant-loop-i
invariant-loop-i l = Counted (is_below l.job) l.n l.board l.i
