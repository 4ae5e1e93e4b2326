-- `is_refusal` meets its contract. Its tests are those of `is_refusal`, applied to the fields that its calls read.
use Rattle.outcomes.specs.Outcomes.{is_refusal}
use Rattle.outcomes.proofs.is_refusal.Goals as goal

pub returns : goal.returns
unfolding is_refusal
returns c =
    simp (c.is_sized.ensures, c.refusal_size.ensures, c.kind_of.ensures, c.number_of-number.ensures)
