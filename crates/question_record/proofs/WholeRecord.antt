-- If the buffer has room for the longest answer, `write_record` leaves the whole record of a question at its start and returns the
-- record's length (`whole_record`).
use mathlib.Core.Path.{◌≡◌, sym, ap, ◌∙◌}
use mathlib.Core.List.{List, ◌++◌}
use Prim.Native.Nat.{ℕ, ◌≤◌}
use native.Mathlib.Omega.{arith}
use lib.ListN.{length, take, drop, length-take}
use lib.Seq.{take-append_seam}
use Rattle.question_record.specs.Record.{record_of, Output, output_of}
use Rattle.little_endian.specs.Bytes.{written}
use Rattle.little_endian.proofs.Laid.{laid}
use Rattle.records.specs.Layout.{answer_room}
use Rattle.question_record.proofs.Recorded.{has_room, record_short}

module _ (question buffer : List ℕ) (room : answer_room ≤ length buffer) where
  -- The buffer begins with the record's bytes, and the rest of it keeps its contents.
  pub record_laid : written buffer (record_of question) ≡ record_of question ++ drop (length (record_of question)) buffer
  record_laid = laid buffer (record_of question) (omega (arith, record_short question, room))

  pub record_size : (output_of question buffer).size ≡ length (record_of question)
  record_size = ap (λ (x : Output). x.size) (has_room question buffer room)

  pub record_first : take (length (record_of question)) (output_of question buffer).buffer ≡ record_of question
  record_first =
      ap (λ (x : Output). take (length (record_of question)) x.buffer) (has_room question buffer room)
      ∙ ap (take (length (record_of question))) record_laid
      ∙ take-append_seam (record_of question) (drop (length (record_of question)) buffer)

-- What a call returns, and what it leaves in a buffer: the size is the number of bytes in the record, and the buffer begins with these
-- bytes.
pub record Stands (question : List ℕ) (size : ℕ) (buffer : List ℕ) : Type 0 where
  pub sized : size ≡ length (record_of question)
  pub within : size ≤ length buffer
  pub counts : size ≡ length (take size buffer)
  pub bytes : take size buffer ≡ record_of question

pub whole_record : (question buffer : List ℕ) → answer_room ≤ length buffer → (size : ℕ) (left : List ℕ) →
    size ≡ (output_of question buffer).size → left ≡ (output_of question buffer).buffer → Stands question size left
whole_record question buffer room size left returned leaves =
    let n : size ≡ length (record_of question) = returned ∙ record_size question buffer room in
    let t : take size left ≡ record_of question = rw (n, leaves) (record_first question buffer room) in
    record {
      sized = n;
      within = omega (arith, n, ap length t, length-take size left);
      counts = n ∙ sym (ap length t);
      bytes = t;
    }
