-- `record_of` meets its contract: the buffer has room for every record, so the whole record is at its start.
use mathlib.Core.Path.{ap, ◌∙◌}
use Prim.Native.Nat.{◌≤◌}
use native.Mathlib.Omega.{arith}
use lib.ListN.{length}
use Rattle.question_record.specs.Record.{Output}
use Rattle.records.specs.Layout.{answer_room}
use Rattle.question_record.proofs.Recorded.{has_room}
use Rattle.question_record.proofs.WholeRecord.{whole_record}
use Rattle.slot_records.proofs.record_of.Goals as goal

pub returns : goal.returns
returns c =
    let a = c.args in
    let room : answer_room ≤ length a.out.now = omega arith in
    let stands = whole_record a.question.now a.out.now room _ _ c.write_record.ensures.size c.write_record.ensures.buffer in
    let left = c.write_record.ensures.buffer ∙ ap (λ (x : Output). x.buffer) (has_room a.question.now a.out.now room) in
    record { size = stands.sized; buffer = left; within = (stands.within, stands.counts); «record» = stands.bytes }
