-- The record of a question: its answer or its refusal, with room for the longest answer (01, Records on the wire). Definitions only.
use Rattle.std.specs.Prelude.{Result, Ok, Err}
use Rattle.std.specs.Prelude.{ℕ, cond, List, eqb, ltb, length}
use Rattle.little_endian.specs.Bytes.{written}
use Rattle.records.specs.Layout.{answer_room, void_number, job_of, revision_of}
use Rattle.records.specs.Records.{refusal_with, refusal_bytes, answer_bytes}
use Rattle.records.specs.declared.Refusal.{Refusal}
use Rattle.hypergeometric.specs.Reasons.{reason_number}
use Rattle.sweep.specs.declared.walks.VoidStation.{VoidStation}
use Rattle.entrance.specs.Judge.{fault_number, judge_of}
use Rattle.entrance.specs.declared.Problem.{Problem}
use Rattle.entrance.specs.declared.Fault.{Fault}
use Rattle.solver.specs.declared.Cause.{Cause}
use Rattle.solver.specs.declared.Cause.TheVariants.{StationVoid}
use Rattle.solver.specs.Crossed.{entries_of}
use Rattle.solver.specs.Table.{cause_number}
use Rattle.solver.specs.Solve.{outcome_for}

-- The refusal of a question with a number other than 12. It has the question's job and revision, or 0 for both if the number is 1.
unfoldable pub refusal_for : List ℕ → ℕ → Refusal
refusal_for question n = cond (eqb n 1) (refusal_with 0 0 n) (refusal_with (job_of question) (revision_of question) n)

-- The refusal of a question with number 12. It also has the j of the first void station, and the number of the reason (02, A4).
unfoldable pub void_refusal_for : List ℕ → VoidStation → Refusal
void_refusal_for question station = record {
  job = job_of question;
  revision = revision_of question;
  number = void_number;
  station = station.j;
  reason = reason_number station.reason;
}

-- The refusal of a question, given its cause.
abbrev pub cause_refusal : List ℕ → Cause → Refusal
cause_refusal question (StationVoid station) = void_refusal_for question station
cause_refusal question cause = refusal_for question (cause_number cause)

-- The record of a question whose problem has the given outcome.
abbrev pub outcome_record : List ℕ → Problem → Result ℕ Cause → List ℕ
outcome_record question p (Ok n) = answer_bytes p.job p.revision (entries_of p)
outcome_record question p (Err cause) = refusal_bytes (cause_refusal question cause)

-- The record of a question, given the verdict of the entrance checks.
abbrev pub record_after : List ℕ → Result Problem Fault → List ℕ
record_after question (Err fault) = refusal_bytes (refusal_for question (fault_number fault))
record_after question (Ok p) = outcome_record question p (outcome_for p)

-- The record of a question, judged with room for the longest answer.
unfoldable pub record_of : List ℕ → List ℕ
record_of question = record_after question (judge_of question answer_room)

-- What `write_record` returns, and what the buffer holds after it: the record's size, and the record written at the start of the buffer.
-- If the buffer has no room for the longest answer, the size is 0 and the buffer stays untouched. This last rule is our own choice.
pub record Output : Type 0 where
  pub size : ℕ
  pub buffer : List ℕ

-- The output of `write_record` for a question and a buffer.
unfoldable pub output_of : List ℕ → List ℕ → Output
output_of question buffer =
    cond (ltb (length buffer) answer_room) (record { size = 0; buffer = buffer })
    (record { size = length (record_of question); buffer = written buffer (record_of question) })
