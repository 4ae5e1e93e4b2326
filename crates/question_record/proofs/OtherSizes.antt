-- If the number of bytes is not the size of a question, the record is the refusal with number 1, job 0 and revision 0 (`other_size`).
use mathlib.Core.Path.{◌≡◌}
use mathlib.Core.List.{List}
use Prim.Native.Nat.{ℕ}
use borrow.Author.Tests.{ne_eqb}
use lib.ListN.{length}
use Rattle.question_record.specs.Record.{refusal_for, record_of}
use Rattle.records.specs.Layout.{question_size}
use Rattle.records.specs.Records.{refusal_with, refusal_bytes}
use Rattle.entrance.specs.Conditions.{malformed}
use Rattle.entrance.specs.Judge.{checks, first_of, judge_of}

pub other_size : (s : List ℕ) → (length s ≡ question_size → ⊥) → record_of s ≡ refusal_bytes (refusal_with 0 0 1)
unfolding record_of judge_of checks malformed first_of refusal_for
other_size s h = rw (ne_eqb (length s) question_size h)
