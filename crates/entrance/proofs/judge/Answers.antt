-- `judge` meets its contract: a fault that the checks give is the verdict, and if they give none, the verdict is the problem.
use mathlib.Core.Path.{sym, ◌∙◌}
use Rattle.entrance.specs.Judge.{problem_of, judge_of}
use Rattle.entrance.proofs.Unless.{unless_ok, unless_err, err_is}
use Rattle.entrance.proofs.judge.Goals as goal

pub returns-in_err-check_all : goal.returns-in_err-check_all
unfolding judge_of
returns-in_err-check_all c =
    let problem = problem_of c.read_question-q.result c.shape_of-shape.result in
    let fault = unless_err _ _ problem _ (sym c.check_all.ensures ∙ c.in_err-check_all.was) in
    err_is _ _ c.from_residual.ensures.1 ∙ rw (← c.read_question-q.ensures, ← c.shape_of-shape.ensures) (sym fault)

pub returns : goal.returns
unfolding judge_of
returns c =
    let problem = c.problem_of.result in
    let none = unless_ok _ _ _ problem (sym c.check_all.ensures ∙ c.in_ok-check_all.was) in
    rw (← c.read_question-q.ensures, ← c.shape_of-shape.ensures, ← c.problem_of.ensures) (sym none)
