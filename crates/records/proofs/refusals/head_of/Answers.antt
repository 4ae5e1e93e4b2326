-- `refusals::head_of` meets its contract. This follows from the contract of `refusal_size`.
use borrow.Author.Rules.{rules}
use Rattle.records.specs.Records.{refusal_head_of}
use Rattle.records.proofs.refusals.head_of.Goals as goal

pub returns : goal.returns
unfolding refusal_head_of
returns c = search rules
