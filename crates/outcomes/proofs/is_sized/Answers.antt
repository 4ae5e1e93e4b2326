-- `is_sized` meets its contract. Its tests are those of `is_sized`, applied to the size that `size_of` reads.
use Rattle.outcomes.specs.Outcomes.{is_sized}
use Rattle.outcomes.proofs.is_sized.Goals as goal

pub returns : goal.returns
unfolding is_sized
returns c = simp c.size_of.ensures
