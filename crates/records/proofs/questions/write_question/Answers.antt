-- `questions::write_question` meets its contract: the numbers, each stored in the width
-- that the table gives, are the question's bytes.
use Rattle.little_endian.specs.Bytes.{bytes_of}
use Rattle.little_endian.specs.Tables.{packed}
use Rattle.records.specs.Layout.{encode, question_fields}
use Rattle.records.specs.Records.{question_bytes}
use Rattle.records.proofs.questions.write_question.Goals as goal

pub returns : goal.returns
unfolding question_bytes encode question_fields packed bytes_of
returns c =
    let numbers = c.numbers_of.ensures in
    simp numbers at c.put_numbers.ensures
