-- `heads::answer_head` meets its contract. This follows from the contract of `answer_size`.
use borrow.Author.Rules.{rules}
use Rattle.records.specs.Records.{answer_head_of}
use Rattle.records.proofs.heads.answer_head.Goals as goal

pub returns : goal.returns
unfolding answer_head_of
returns c = search rules
