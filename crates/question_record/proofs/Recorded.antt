-- The record of a question, if the buffer has room for the longest answer: if `solve` answers, the buffer holds the record
-- (`when_answered`); if it refuses, the buffer is untouched and the record is that of the refusal (`when_refused`). The record depends on
-- neither the size nor the contents of the buffer.
use mathlib.Core.Path.{◌≡◌, refl, sym, ap, ◌∙◌}
use mathlib.Core.Bool.{Bool, true, false, cond}
use mathlib.Core.List.{List}
use Prim.Native.Nat.{ℕ, ◌≤◌, ◌<◌}
use native.Mathlib.Omega.{arith}
use borrow.Author.Tests.{le-ltb, lt-ltb}
use lib.Dec.{eqb}
use lib.ListN.{length}
use Rattle.std.specs.Prelude.{None, Result, Ok, Err}
use Rattle.question_record.specs.Record.{refusal_for, void_refusal_for, cause_refusal, outcome_record, record_after, record_of, output_of}
use Rattle.little_endian.specs.Bytes.{written}
use Rattle.records.specs.Layout.{answer_size, refusal_size, most_entries, answer_room, void_number, job_of, revision_of}
use Rattle.records.specs.Records.{refusal_with, refusal_bytes}
use Rattle.records.specs.declared.Refusal.{Refusal}
use Rattle.records.proofs.Sizes.{refusal_length, refusal_room}
use Rattle.records.proofs.Answers.{answer_length}
use Rattle.entrance.specs.Conditions.{small_buffer}
use Rattle.entrance.specs.Judge.{checks, first_of, fault_number, judge_of}
use Rattle.entrance.specs.declared.Problem.{Problem}
use Rattle.entrance.specs.declared.Fault.{Fault}
use Rattle.entrance.proofs.Table.{number_or_0}
use Rattle.entrance.proofs.Unless.{no_fault, unless_ok}
use Rattle.sweep.specs.declared.walks.VoidStation.{VoidStation}
use Rattle.solver.specs.declared.Cause.{Cause}
use Rattle.solver.specs.declared.Cause.TheVariants.{Entrance, NoCrossing, StationVoid, NinthCrossing, VelocityNotFinite}
use Rattle.solver.specs.Crossed.{entries_of}
use Rattle.solver.specs.Table.{cause_number, late_checks}
use Rattle.solver.proofs.Numbering.{late_number, few, count_is, most_eight}
use Rattle.solver.specs.Solve.{Solved, outcome_for, settled_of, solved_after, solve_of}

-- The verdict on a question is the same for every buffer with room for the longest answer.
pub room_same : (question : List ℕ) (room : ℕ) → answer_room ≤ room → judge_of question room ≡ judge_of question answer_room
unfolding judge_of checks small_buffer
room_same question room h = rw (le-ltb room answer_room h)

-- A refusal is no answer.
apart : {P : Type 0} {cause : Cause} {n : ℕ} → Err cause ≡ Ok n → P
apart e = absurd (let z : ◌≡◌ {A = ℕ} 0 1 = cc e in omega (arith, z))

-- ---- An answer has the entries of all crossings, at most eight

-- What an answer with n entries says about its problem.
pub record HasEntries (p : Problem) (n : ℕ) : Type 0 where
  pub many : length (entries_of p) ≡ n
  pub none : first_of (late_checks p) ≡ None

pub has_entries : (p : Problem) (n : ℕ) → outcome_for p ≡ Ok n → HasEntries p n
unfolding outcome_for
has_entries p n e =
    let size = length (entries_of p) in
    let same : ◌≡◌ {A = Result ℕ Cause} (Ok size) (Ok n) = sym (unless_ok (first_of (late_checks p)) size n size e) ∙ e in
    record { many = cc same; none = no_fault (first_of (late_checks p)) size n e }

module _ (question buffer : List ℕ) where
  -- ---- An answer: the final buffer is the given one with the record's bytes written at its start, and the record has the size of an
  -- answer with n entries.
  abbrev Laid : ℕ → Solved → List ℕ → Type 0
  Laid n s bytes = (s.buffer ≡ written buffer bytes) × (length bytes ≡ answer_size n)

  answer_by : (n : ℕ) (j : Result Problem Fault) → (solved_after j buffer).outcome ≡ Ok n →
      Laid n (solved_after j buffer) (record_after question j)
  unfolding settled_of
  answer_by n (Err f) e = apart e
  answer_by n (Ok p) e =
      let size = answer_length p.job p.revision (entries_of p) ∙ ap (λ (m : ℕ). answer_size m) (has_entries p n e).many in
      rw e (refl, size)

  -- ---- A refusal: the buffer is untouched, and the record is that of the refusal

  abbrev Left : Solved → List ℕ → List ℕ → Type 0
  Left s bytes expected = (s.buffer ≡ buffer) × (bytes ≡ expected)

  refusal_by : (cause : Cause) (j : Result Problem Fault) → (solved_after j buffer).outcome ≡ Err cause →
      Left (solved_after j buffer) (record_after question j) (refusal_bytes (cause_refusal question cause))
  unfolding settled_of
  refusal_by cause (Err f) e = let k : Entrance f ≡ cause = cc e in (refl, ap (λ (x : Cause). refusal_bytes (cause_refusal question x)) k)
  refusal_by cause (Ok p) e = rw e (refl, refl)

  -- ---- A call with room for the longest answer

  module _ (h : answer_room ≤ length buffer) where
    with_room : solve_of question buffer ≡ solved_after (judge_of question answer_room) buffer
    unfolding solve_of
    with_room = ap (λ (j : Result Problem Fault). solved_after j buffer) (room_same question (length buffer) h)

    same_outcome : {o : Result ℕ Cause} → (solve_of question buffer).outcome ≡ o
        → (solved_after (judge_of question answer_room) buffer).outcome ≡ o
    same_outcome e = sym (ap (λ (s : Solved). s.outcome) with_room) ∙ e

    pub when_answered : (n : ℕ) → (solve_of question buffer).outcome ≡ Ok n → Laid n (solve_of question buffer) (record_of question)
    unfolding record_of
    when_answered n e = rw with_room (answer_by n (judge_of question answer_room) (same_outcome e))

    pub when_refused : (cause : Cause) → (solve_of question buffer).outcome ≡ Err cause →
        Left (solve_of question buffer) (record_of question) (refusal_bytes (cause_refusal question cause))
    unfolding record_of
    when_refused cause e = rw with_room (refusal_by cause (judge_of question answer_room) (same_outcome e))

-- ---- What `write_record` returns, and what it leaves in the buffer

module _ (question buffer : List ℕ) where
  pub no_room : length buffer < answer_room → output_of question buffer ≡ record { size = 0; buffer = buffer }
  unfolding output_of
  no_room h = rw (lt-ltb (length buffer) answer_room h)

  pub has_room : answer_room ≤ length buffer
      → output_of question buffer ≡ record { size = length (record_of question); buffer = written buffer (record_of question) }
  unfolding output_of
  has_room h = rw (le-ltb (length buffer) answer_room h)

-- A cause with another number than 12 has the refusal of that number.
pub plain_refusal : (question : List ℕ) (cause : Cause) → (cause_number cause ≡ void_number → ⊥) →
    cause_refusal question cause ≡ refusal_for question (cause_number cause)
plain_refusal question (Entrance f) other = refl
plain_refusal question NoCrossing other = refl
plain_refusal question (StationVoid station) other = absurd (other refl)
plain_refusal question NinthCrossing other = refl
plain_refusal question VelocityNotFinite other = refl

-- ---- The size of a record

-- The refusal of a question has the given number.
pub number_for : (question : List ℕ) (n : ℕ) → (refusal_for question n).number ≡ n
unfolding refusal_for
number_for question n = by (eqb n 1)
  where
    by : (unnamed : Bool) → (cond unnamed (refusal_with 0 0 n) (refusal_with (job_of question) (revision_of question) n)).number ≡ n
    by true = refl
    by false = refl

pub refusal_record_length : (question : List ℕ) (n : ℕ) → length (refusal_bytes (refusal_for question n)) ≡ refusal_size n
refusal_record_length question n = refusal_length (refusal_for question n) ∙ ap (λ (m : ℕ). refusal_size m) (number_for question n)

pub void_record_length : (question : List ℕ) (station : VoidStation) →
    length (refusal_bytes (void_refusal_for question station)) ≡ refusal_size void_number
unfolding void_refusal_for
void_record_length question station = refusal_length (void_refusal_for question station)

-- A record is never longer than the longest answer.
refusal_short : (r : Refusal) → length (refusal_bytes r) ≤ answer_room
refusal_short r = omega (arith, refusal_length r, refusal_room r.number)

short_for : (question : List ℕ) (p : Problem) (o : Result ℕ Cause) → outcome_for p ≡ o →
    length (outcome_record question p o) ≤ answer_room
short_for question p (Ok n) e =
    let few-number = late_number p ∙ ap (number_or_0 cause_number) (has_entries p n e).none in
    let most : length (entries_of p) ≤ most_entries = omega (arith, count_is p (few p few-number), most_eight p) in
    omega (arith, answer_length p.job p.revision (entries_of p), most)
short_for question p (Err cause) e = refusal_short (cause_refusal question cause)

short_by : (question : List ℕ) (j : Result Problem Fault) → length (record_after question j) ≤ answer_room
short_by question (Err f) = refusal_short (refusal_for question (fault_number f))
short_by question (Ok p) = short_for question p (outcome_for p) refl

pub record_short : (question : List ℕ) → length (record_of question) ≤ answer_room
unfolding record_of
record_short question = short_by question (judge_of question answer_room)
