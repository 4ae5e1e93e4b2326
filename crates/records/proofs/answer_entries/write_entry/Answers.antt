-- `answer_entries::write_entry` meets its contract: the numbers, each stored in the
-- width that the table gives, are the entry's bytes.
use Rattle.little_endian.specs.Bytes.{bytes_of}
use Rattle.little_endian.specs.Tables.{packed}
use Rattle.records.specs.Layout.{encode, entry_fields}
use Rattle.records.specs.Records.{entry_bytes}
use Rattle.records.proofs.answer_entries.write_entry.Goals as goal

pub returns : goal.returns
unfolding entry_bytes encode entry_fields packed bytes_of
returns c =
    let numbers = c.numbers_of.ensures in
    simp numbers at c.put_numbers.ensures
