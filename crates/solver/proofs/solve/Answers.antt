-- `solve` meets its contract: it returns the fault that the entrance checks gave, or the result for the problem.
use mathlib.Core.Path.{sym, ap, ◌∙◌}
use Rattle.std.specs.Prelude.{Result}
use Rattle.entrance.specs.declared.Problem.{Problem}
use Rattle.entrance.specs.declared.Fault.{Fault}
use Rattle.entrance.proofs.Unless.{err_is}
use Rattle.solver.specs.Solve.{solved_after, solve_of}
use Rattle.solver.proofs.solve.Goals as goal

pub returns-in_err-problem-clause-outcome : goal.returns-in_err-problem-clause-outcome
unfolding solve_of
returns-in_err-problem-clause-outcome c =
    let b = c.args.answer.now in
    let e = ap (λ (j : Result Problem Fault). (solved_after j b).outcome) (sym c.judge.ensures ∙ c.in_err-problem.was) in
    err_is _ _ c.from_residual.ensures.1 ∙ sym e

pub returns-in_err-problem-clause-buffer : goal.returns-in_err-problem-clause-buffer
unfolding solve_of
returns-in_err-problem-clause-buffer c =
    let b = c.args.answer.now in
    sym (ap (λ (j : Result Problem Fault). (solved_after j b).buffer) (sym c.judge.ensures ∙ c.in_err-problem.was))

pub returns-clause-outcome : goal.returns-clause-outcome
unfolding solve_of
returns-clause-outcome c =
    let b = c.args.answer.now in
    let e = ap (λ (j : Result Problem Fault). (solved_after j b).outcome) (sym c.judge.ensures ∙ c.in_ok-problem.was) in
    c.settle.ensures.outcome ∙ sym e

pub returns-clause-buffer : goal.returns-clause-buffer
unfolding solve_of
returns-clause-buffer c =
    let b = c.args.answer.now in
    let e = ap (λ (j : Result Problem Fault). (solved_after j b).buffer) (sym c.judge.ensures ∙ c.in_ok-problem.was) in
    c.settle.ensures.buffer ∙ sym e
