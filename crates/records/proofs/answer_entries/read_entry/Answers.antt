-- `answer_entries::read_entry` meets its contract: each call reads the field that the layout has at that offset.
use borrow.Author.Rules.{rules}
use Rattle.records.specs.Records.{entry_of}
use Rattle.records.proofs.answer_entries.read_entry.Goals as goal

pub returns : goal.returns
unfolding entry_of
returns c = search rules
