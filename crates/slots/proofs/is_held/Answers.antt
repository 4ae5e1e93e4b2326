-- `is_held` meets its contract. This follows from the contracts of the functions that it calls.
use Rattle.slots.specs.Slots.{is_held}
use Rattle.slots.proofs.is_held.Goals as goal

pub returns : goal.returns
unfolding is_held
returns c = simp (c.is_conflict.ensures, c.is_outcome.ensures)
