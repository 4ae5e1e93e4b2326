-- The forms that the record of a question can have, and the job and the revision that it names (01, Records on the
-- wire, Numbers of refusal; 02, A4). Definitions only.
use Rattle.std.specs.Prelude.{◌≡◌, ℕ, ◌≤◌, ◌<◌, ℤ, pos, ◌-ℤ◌, length}
use mathlib.Core.List.{List, Memᴰ}
use Rattle.question_record.specs.Record.{void_refusal_for, record_of}
use Rattle.records.specs.Layout.{REVOLUTIONS, most_entries, first_number, last_number, void_number, value_of, job_of, revision_of}
use Rattle.records.specs.Records.{refusal_with, refusal_bytes, answer_bytes}
use Rattle.records.specs.declared.Entry.{Entry}
use Rattle.entrance.specs.Table.{Exactly}
use Rattle.stations.specs.Stations.{stations_below, last_of}
use Rattle.sweep.specs.declared.walks.VoidStation.{VoidStation}

-- The refusal with number 1: the bytes are not a well-formed question, and the record names job 0 and revision 0.
abbrev pub not_question : List ℕ
not_question = refusal_bytes (refusal_with 0 0 first_number)

-- j is that of a station for M whole revolutions: that of the station with the given index, counted from 0. So j is
-- from -4095 to 16384 for M = 0, and to 4095 for M ≥ 1, and it fits in an i32.
pub record IsStation (M : ℕ) (j : ℤ) : Type 0 where
  pub index : ℕ
  pub within : index ≤ last_of M
  pub j_is : j ≡ pos index -ℤ pos stations_below

-- Every record of a question has one of these four forms: the refusal with number 1, a refusal with another number that
-- is not 12, the refusal with number 12, or an answer with one to eight entries whose chosen ends are 0 or 1. Number 12
-- names a station of the question and the number of one of the four reasons. All but number 1 name the question's own
-- job and revision, and this job is not 0. Number 7 never occurs, because a record is made with room for the longest
-- answer; the contract of `write_record` says so, and this definition does not.
pub data RecordForm (s : List ℕ) : List ℕ → Type 0 where
  malformed_question : RecordForm s not_question
  refusal : (n : ℕ) → first_number < n → n ≤ last_number → (n ≡ void_number → ⊥) → 0 < job_of s →
      RecordForm s (refusal_bytes (refusal_with (job_of s) (revision_of s) n))
  void_refusal : (station : VoidStation) → IsStation (value_of REVOLUTIONS s) station.j → 0 < job_of s →
      RecordForm s (refusal_bytes (void_refusal_for s station))
  answer : (es : List Entry) → 1 ≤ length es → length es ≤ most_entries → ((e : Entry) → Memᴰ e es → e.chosen ≤ 1) →
      0 < job_of s → RecordForm s (answer_bytes (job_of s) (revision_of s) es)

-- The job and the revision that the record of a question names.
pub record JobNamed (s : List ℕ) : Type 0 where
  -- The job is 0 exactly if the record is the refusal with number 1.
  pub zero_exactly : Exactly (job_of (record_of s) ≡ 0) (record_of s ≡ not_question)
  -- Any other record, a refusal or an answer, names the question's own job and revision.
  pub own : (record_of s ≡ not_question → ⊥) →
      (job_of (record_of s) ≡ job_of s) × (revision_of (record_of s) ≡ revision_of s)
