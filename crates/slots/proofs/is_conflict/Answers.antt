-- `is_conflict` meets its contract. This follows from the contracts of the functions that it calls.
use Rattle.slots.specs.Slots.{is_conflict}
use Rattle.slots.proofs.is_conflict.Goals as goal

pub returns : goal.returns
unfolding is_conflict
returns c = simp (c.is_sized.ensures, c.kind_of.ensures)
