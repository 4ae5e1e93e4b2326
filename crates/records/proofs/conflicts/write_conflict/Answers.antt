-- `conflicts::write_conflict` meets its contract: the numbers, each stored in the width
-- that the table gives, are the conflict's bytes.
use Rattle.little_endian.specs.Bytes.{bytes_of}
use Rattle.little_endian.specs.Tables.{packed}
use Rattle.records.specs.Layout.{encode, conflict_fields}
use Rattle.records.specs.Records.{conflict_bytes}
use Rattle.records.proofs.conflicts.write_conflict.Goals as goal

pub returns : goal.returns
unfolding conflict_bytes encode conflict_fields packed bytes_of
returns c =
    let numbers = c.numbers_of.ensures in
    simp numbers at c.put_numbers.ensures
