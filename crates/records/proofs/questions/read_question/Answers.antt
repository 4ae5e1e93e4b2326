-- `questions::read_question` meets its contract: each call reads the field that the layout has at that offset.
use borrow.Author.Rules.{rules}
use Rattle.records.specs.Records.{question_of}
use Rattle.records.proofs.questions.read_question.Goals as goal

pub returns : goal.returns
unfolding question_of
returns c = search rules
