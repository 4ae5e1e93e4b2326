-- `filled_slots` meets its contract. The loop invariant is `Counted`: n slots passed the test so far, and n plus the
-- count over the remaining slots is the whole count.
use Prim.Native.Nat.{ℕ}
use mathlib.Core.Path.{◌∙◌, sym, ap}
use mathlib.Core.Bool.{not}
use native.Mathlib.Omega.{arith}
use lib.Dec.{eqb}
use borrow.Author.Tests.{eq-eqb, ne_eqb}
use Rattle.records.specs.Layout.{LENGTH, value_of}
use Rattle.board.specs.Board.{SLOTS}
use Rattle.board.specs.Internals.{has_length}
use Rattle.board.proofs.Checked.{count_starts, count_next, count_ends, count_whole}
use Rattle.board.proofs.checks.filled_slots.Goals as goal

pub loop-n-init : goal.loop-n-init
loop-n-init c = count_starts has_length SLOTS c.args.board.now

pub loop-n-preserved : goal.loop-n-preserved
loop-n-preserved c =
    let read = c.length_of.ensures ∙ ap (value_of LENGTH) c.slots_from.ensures in
    let named = ap (λ (x : ℕ). not (eqb x 0)) (sym read) ∙ ap not (ne_eqb c.length_of.result 0 c.if-length_of-eq0.false) in
    count_next has_length SLOTS c.args.board.now c.loop-n.n (omega arith) named c.loop-n.invariant

pub returns-then-length_of-eq0-clause-result : goal.returns-then-length_of-eq0-clause-result
returns-then-length_of-eq0-clause-result c =
    let read = c.length_of.ensures ∙ ap (value_of LENGTH) c.slots_from.ensures in
    let free = ap (λ (x : ℕ). not (eqb x 0)) (sym read) ∙ ap not (eq-eqb c.length_of.result 0 c.if-length_of-eq0.true) in
    count_ends has_length SLOTS c.args.board.now c.loop-n.n (omega arith) free c.loop-n.invariant

pub returns-clause-result : goal.returns-clause-result
returns-clause-result c = count_whole has_length SLOTS c.args.board.now c.loop-n.n (omega arith) c.loop-n.invariant
