-- `heads::read_head` meets its contract: each call reads the field that the layout has at that offset.
use borrow.Author.Rules.{rules}
use Rattle.records.specs.Records.{head_of}
use Rattle.records.proofs.heads.read_head.Goals as goal

pub returns : goal.returns
unfolding head_of
returns c = search rules
