-- The job and the revision that the record of a question names, for a question that consists of bytes (`job_named`).
-- The proof splits on the four forms of a record. In each form the head gives back the job and revision written into
-- it.
use mathlib.Core.Path.{◌≡◌, refl, ap, ◌∙◌}
use mathlib.Core.Logic.{◌⊎◌, inl, inr}
use mathlib.Core.List.{List}
use Prim.Native.Nat.{ℕ, ◌^◌, ◌≤◌, ◌<◌}
use native.Mathlib.Omega.{arith}
use lib.ListN.{length}
use Rattle.question_record.specs.Record.{void_refusal_for, record_of}
use Rattle.little_endian.specs.Bytes.{AreBytes}
use Rattle.little_endian.proofs.Numbers.{number_lt}
use Rattle.records.specs.Layout.{JOB, REVISION, most_entries, first_number, job_of, revision_of}
use Rattle.records.specs.Records.{head_of, refusal_head_of, refusal_with, refusal_bytes, answer_head_of, answer_bytes}
use Rattle.records.specs.declared.Head.{Head}
use Rattle.records.specs.declared.Refusal.{Refusal}
use Rattle.records.specs.declared.Entry.{Entry}
use Rattle.records.proofs.Answers.{answer_head_back}
use Rattle.records.proofs.Reading.{refusal_held, refusal_head_back, answer_held}
use Rattle.entrance.specs.Table.{Exactly}
use Rattle.record_laws.specs.RecordForm.{RecordForm, malformed_question, refusal, void_refusal, answer, not_question, JobNamed}
use Rattle.record_laws.proofs.Forms.{record_form}

zero_job : job_of not_question ≡ 0
unfolding head_of refusal_head_of
zero_job =
    let one = refusal_with 0 0 first_number in
    let held = refusal_held one (omega arith) (omega arith) (omega arith) in
    ap (λ (x : Head). x.job) (refusal_head_back one held)

module _ (s : List ℕ) (bytes : AreBytes s) where
  -- The job and the revision of the question are numbers of four bytes, so they are below 2^32.
  abbrev job : ℕ
  job = job_of s

  abbrev revision : ℕ
  revision = revision_of s

  small_job : job < 2 ^ 32
  small_job = number_lt JOB.width JOB.offset s bytes

  small_revision : revision < 2 ^ 32
  small_revision = number_lt REVISION.width REVISION.offset s bytes

  -- The record names the question's own job and revision, and this job is not 0.
  record Own (l : List ℕ) : Type 0 where
    pub job_is : job_of l ≡ job
    pub revision_is : revision_of l ≡ revision
    pub above : 0 < job

  -- It is enough that the head of the record names them.
  own_by : (l : List ℕ) (h : Head) → head_of l ≡ h → h.job ≡ job → h.revision ≡ revision → 0 < job → Own l
  unfolding head_of
  own_by l h e f g above =
      record { job_is = ap (λ (x : Head). x.job) e ∙ f; revision_is = ap (λ (x : Head). x.revision) e ∙ g; above = above }

  refusal_own : (r : Refusal) → r.job ≡ job → r.revision ≡ revision → r.number < 2 ^ 16 → 0 < job → Own (refusal_bytes r)
  unfolding refusal_head_of
  refusal_own r e f small above =
      let held = refusal_held r (rw e small_job) (rw f small_revision) small in
      own_by (refusal_bytes r) (refusal_head_of r) (refusal_head_back r held) e f above

  answer_own : (es : List Entry) → length es ≤ most_entries → 0 < job → Own (answer_bytes job revision es)
  unfolding answer_head_of
  answer_own es few above =
      let held = answer_held job revision small_job small_revision (length es) few in
      let back = answer_head_back job revision es held in
      own_by (answer_bytes job revision es) (answer_head_of job revision (length es)) back refl refl above

  -- A record is the refusal with number 1, or it names the question's own job and revision.
  either : {l : List ℕ} → RecordForm s l → (l ≡ not_question) ⊎ Own l
  unfolding void_refusal_for
  either malformed_question = inl refl
  either (refusal n low high other above) =
      inr (refusal_own (refusal_with job revision n) refl refl (omega (arith, high)) above)
  either (void_refusal station grid above) = inr (refusal_own (void_refusal_for s station) refl refl (omega arith) above)
  either (answer es low high ends above) = inr (answer_own es high above)

  -- The two statements of `JobNamed` follow in each of these cases.
  zero_exactly_lem : (l : List ℕ) → (l ≡ not_question) ⊎ Own l → Exactly (job_of l ≡ 0) (l ≡ not_question)
  zero_exactly_lem l (inl one) = record { only = λ e. one; always = λ e. ap job_of e ∙ zero_job }
  zero_exactly_lem l (inr o) = record { only = λ e. absurd (omega (arith, e, o.job_is, o.above)); always = λ e. ap job_of e ∙ zero_job }

  own_named : (l : List ℕ) → (l ≡ not_question) ⊎ Own l → (l ≡ not_question → ⊥) → (job_of l ≡ job) × (revision_of l ≡ revision)
  own_named l (inl one) other = absurd (other one)
  own_named l (inr o) other = (o.job_is, o.revision_is)

  pub job_named : JobNamed s
  job_named =
      let which = either (record_form s) in
      record { zero_exactly = zero_exactly_lem (record_of s) which; own = own_named (record_of s) which }
