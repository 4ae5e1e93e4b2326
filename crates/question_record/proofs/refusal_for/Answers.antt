-- `refusal_for` meets its contract, in both branches of the test of the number.
use borrow.Author.Tests.{eq-eqb, ne_eqb}
use Rattle.question_record.specs.Record.{refusal_for}
use Rattle.question_record.proofs.refusal_for.Goals as goal

pub returns-then-number-eq1 : goal.returns-then-number-eq1
unfolding refusal_for
returns-then-number-eq1 c =
    rw (eq-eqb _ 1 c.if-number-eq1.true) c.refusal_with.ensures

pub returns : goal.returns
unfolding refusal_for
returns c =
    rw (ne_eqb _ 1 c.if-number-eq1.false) (simp (c.job_of.ensures, c.revision_of.ensures) at c.refusal_with-2.ensures)
