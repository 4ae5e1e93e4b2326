-- From a question's bytes and an answer buffer to the outcome and the final bytes of the buffer (01). Definitions only.
use Rattle.std.specs.Prelude.{ℕ, List, length, Result, Ok, Err}
use Rattle.little_endian.specs.Bytes.{written}
use Rattle.records.specs.Records.{answer_bytes}
use Rattle.entrance.specs.Judge.{first_of, unless, judge_of}
use Rattle.entrance.specs.declared.Problem.{Problem}
use Rattle.entrance.specs.declared.Fault.{Fault}
use Rattle.solver.specs.declared.Cause.{Cause}
use Rattle.solver.specs.declared.Cause.TheVariants.{Entrance}
use Rattle.solver.specs.Crossed.{entries_of}
use Rattle.solver.specs.Table.{cause_number, late_checks}

-- The outcome for a problem that has passed the entrance checks: the cause of the first row of 11 to 14 that applies, or how many entries
-- the answer has, which are those of all crossings.
unfoldable pub outcome_for : Problem → Result ℕ Cause
outcome_for p = unless (first_of (late_checks p)) (length (entries_of p))

-- The answer buffer after an outcome. An answer is written at the start of the buffer, and the bytes after it keep their contents. A
-- refusal leaves the buffer untouched.
abbrev pub buffer_after : Problem → Result ℕ Cause → List ℕ → List ℕ
buffer_after p (Ok n) buffer = written buffer (answer_bytes p.job p.revision (entries_of p))
buffer_after p (Err cause) buffer = buffer

-- What a call returns, and what the answer buffer holds after it.
pub record Solved : Type 0 where
  pub outcome : Result ℕ Cause
  pub buffer : List ℕ

-- The result for a problem that has passed the entrance checks.
unfoldable pub settled_of : Problem → List ℕ → Solved
settled_of p buffer = record { outcome = outcome_for p; buffer = buffer_after p (outcome_for p) buffer }

-- The result for a question that was judged: the fault that the entrance checks gave, or the result for its problem.
abbrev pub solved_after : Result Problem Fault → List ℕ → Solved
solved_after (Err fault) buffer = record { outcome = Err (Entrance fault); buffer = buffer }
solved_after (Ok p) buffer = settled_of p buffer

-- The result for a question's bytes and an answer buffer.
unfoldable pub solve_of : List ℕ → List ℕ → Solved
solve_of question buffer = solved_after (judge_of question (length buffer)) buffer

-- The outcome as one number: that of the refusal, or 0 for an answer.
abbrev pub outcome_number : Result ℕ Cause → ℕ
outcome_number (Err cause) = cause_number cause
outcome_number (Ok n) = 0
