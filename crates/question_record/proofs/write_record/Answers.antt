-- `write_record` meets its contract: an answer is in the buffer already, and the record of a refusal is written at its start.
use mathlib.Core.Path.{◌≡◌, sym, ap, ◌∙◌}
use mathlib.Core.List.{List}
use Prim.Native.Nat.{ℕ, ◌≤◌}
use lib.ListN.{length}
use Rattle.question_record.specs.Record.{Output, record_of, output_of}
use Rattle.little_endian.specs.Bytes.{written}
use Rattle.records.specs.Layout.{refusal_size, answer_room}
use Rattle.records.specs.Records.{refusal_bytes}
use Rattle.records.specs.declared.Refusal.{Refusal}
use Rattle.records.proofs.Sizes.{refusal_length}
use Rattle.question_record.proofs.Recorded.{when_answered, when_refused, no_room, has_room}
use Rattle.question_record.proofs.write_record.Goals as goal

-- What a call returns and leaves in the buffer is the output of the definition.
abbrev Outputs : List ℕ → List ℕ → ℕ → List ℕ → Type 0
Outputs question buffer size left = (size ≡ (output_of question buffer).size) × (left ≡ (output_of question buffer).buffer)

-- A refusal that is the record of the question, put into an untouched buffer.
put_over : (question buffer : List ℕ) → answer_room ≤ length buffer → (expected : Refusal) → record_of question ≡ refusal_bytes expected →
    (r : Refusal) → r ≡ expected → (entry : List ℕ) → entry ≡ buffer → (size : ℕ) → size ≡ refusal_size r.number →
    (left : List ℕ) → left ≡ written entry (refusal_bytes r) → Outputs question buffer size left
put_over question buffer room expected bytes r made entry untouched size sized left wrote =
    let e = has_room question buffer room in
    let same : refusal_bytes r ≡ record_of question = ap refusal_bytes made ∙ sym bytes in (
      sized ∙ sym (refusal_length r) ∙ ap length same ∙ sym (ap (λ (x : Output). x.size) e),
      wrote ∙ ap (λ (l : List ℕ). written l (refusal_bytes r)) untouched ∙ ap (written buffer) same ∙ sym (ap (λ (x : Output). x.buffer) e),
    )

pub returns-then-out-lt-ANSWER_ROOM : goal.returns-then-out-lt-ANSWER_ROOM
returns-then-out-lt-ANSWER_ROOM c =
    let a = c.args in
    let e = no_room a.question.now a.out.now c.if-out-lt-ANSWER_ROOM.true in
    record { size = sym (ap (λ (r : Output). r.size) e); buffer = sym (ap (λ (r : Output). r.buffer) e) }

pub returns-in-Ok : goal.returns-in-Ok
returns-in-Ok c =
    let a = c.args in
    let room = c.if-out-lt-ANSWER_ROOM.false in
    let e = has_room a.question.now a.out.now room in
    let w = when_answered a.question.now a.out.now room _ (sym c.solve.ensures.outcome ∙ c.in-Ok.is) in
    record {
      size = c.answer_size.ensures ∙ sym w.1 ∙ sym (ap (λ (r : Output). r.size) e);
      buffer = c.solve.ensures.buffer ∙ w.0 ∙ sym (ap (λ (r : Output). r.buffer) e);
    }

pub returns-in-Err : goal.returns-in-Err
returns-in-Err c =
    let a = c.args in
    let q = a.question.now in
    let room = c.if-out-lt-ANSWER_ROOM.false in
    let w = when_refused q a.out.now room _ (sym c.solve.ensures.outcome ∙ c.in-Err.is) in
    let both = put_over q a.out.now room _ w.1 _ c.cause_refusal.ensures _ (c.solve.ensures.buffer ∙ w.0)
    _ c.put_refusal.ensures.size _ c.put_refusal.ensures.buffer in
    record { size = both.0; buffer = both.1 }
