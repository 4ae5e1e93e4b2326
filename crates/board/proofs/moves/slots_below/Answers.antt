-- `slots_below` meets its contract. The loop invariant is `Counted`: i slots passed the test so far, and i plus the
-- count over the remaining slots is the whole count.
use Prim.Native.Nat.{ℕ}
use mathlib.Core.Path.{◌∙◌, sym, ap}
use native.Mathlib.Omega.{arith}
use lib.Dec.{ltb}
use borrow.Author.Tests.{lt-ltb, le-ltb}
use Rattle.records.specs.Layout.{job_of}
use Rattle.board.specs.Internals.{is_below}
use Rattle.board.proofs.Checked.{count_starts, count_next, count_ends, count_whole}
use Rattle.board.proofs.moves.slots_below.Goals as goal

pub loop-i-init : goal.loop-i-init
loop-i-init c = count_starts (is_below c.args.job) c.args.n c.args.board.now

pub loop-i-preserved : goal.loop-i-preserved
loop-i-preserved c =
    let a = c.args in
    let read = c.job_of.ensures ∙ ap job_of c.slots_from.ensures in
    let below = ap (λ (x : ℕ). ltb x a.job) (sym read) ∙ lt-ltb c.job_of.result a.job c.if-job-job_of.false in
    count_next (is_below a.job) a.n a.board.now c.loop-i.i (omega arith) below c.loop-i.invariant

pub returns-then-job-job_of-clause-result : goal.returns-then-job-job_of-clause-result
returns-then-job-job_of-clause-result c =
    let a = c.args in
    let read = c.job_of.ensures ∙ ap job_of c.slots_from.ensures in
    let not_below = ap (λ (x : ℕ). ltb x a.job) (sym read) ∙ le-ltb c.job_of.result a.job c.if-job-job_of.true in
    count_ends (is_below a.job) a.n a.board.now c.loop-i.i (omega arith) not_below c.loop-i.invariant

pub returns-clause-result : goal.returns-clause-result
returns-clause-result c =
    let a = c.args in
    count_whole (is_below a.job) a.n a.board.now c.loop-i.i (omega arith) c.loop-i.invariant
