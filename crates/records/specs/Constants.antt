-- The values of the code's public constants according to the layout. The contract of
-- `public_constants` cites them. Definitions only.
use Rattle.records.specs.Layout.{LENGTH, question_kind, answer_kind, refusal_kind, conflict_kind, question_size, question_length}
use Rattle.records.specs.Layout.{question_room, head_size, void_refusal_size, entry_size, most_entries, answer_room, conflict_size}
use Rattle.records.specs.Layout.{first_number, void_number, last_number}
use Rattle.records.specs.declared.Constants.{Constants}

abbrev pub layout_constants : Constants
layout_constants = record {
  question_kind = question_kind;
  answer_kind = answer_kind;
  refusal_kind = refusal_kind;
  conflict_kind = conflict_kind;
  length_size = LENGTH.width;
  question_size = question_size;
  question_length = question_length;
  question_room = question_room;
  head_size = head_size;
  void_refusal_size = void_refusal_size;
  entry_size = entry_size;
  most_entries = most_entries;
  answer_room = answer_room;
  conflict_size = conflict_size;
  first_number = first_number;
  void_number = void_number;
  last_number = last_number;
}
