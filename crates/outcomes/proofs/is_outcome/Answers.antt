-- `is_outcome` meets its contract. This follows from the contracts of the functions that it calls.
use Rattle.outcomes.specs.Outcomes.{is_outcome}
use Rattle.outcomes.proofs.is_outcome.Goals as goal

pub returns : goal.returns
unfolding is_outcome
returns c = simp (c.is_refusal.ensures, c.is_answer.ensures)
