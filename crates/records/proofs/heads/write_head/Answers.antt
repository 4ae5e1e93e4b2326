-- `heads::write_head` meets its contract: the numbers, each stored in the width that the table gives, are the head's bytes.
use Rattle.little_endian.specs.Bytes.{bytes_of}
use Rattle.little_endian.specs.Tables.{packed}
use Rattle.records.specs.Layout.{encode, head_fields}
use Rattle.records.specs.Records.{head_bytes}
use Rattle.records.proofs.heads.write_head.Goals as goal

pub returns : goal.returns
unfolding head_bytes encode head_fields packed bytes_of
returns c =
    let numbers = c.numbers_of.ensures in
    simp numbers at c.put_numbers.ensures
