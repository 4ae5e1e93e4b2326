-- `refusals::numbers_of` meets its contract. This follows from the contracts of the functions it calls, since the casts change
-- no value.
use borrow.Author.Rules.{rules}
use Rattle.records.specs.Records.{refusal_head_of}
use Rattle.records.proofs.refusals.numbers_of.Goals as goal

pub returns : goal.returns
unfolding refusal_head_of
returns c = search rules
