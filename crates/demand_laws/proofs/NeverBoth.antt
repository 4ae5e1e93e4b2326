-- If every buffer has room for the longest answer, a question never gets an answer with one buffer and a refusal with another
-- (`never_both`): the outcome depends on the question's bytes alone, whatever the buffer held (`same_outcome`). A second call with
-- the buffer that the first call left changes nothing. `recording` says how the record follows from the outcome.
use mathlib.Core.Path.{◌≡◌, refl, sym, ap, ◌∙◌}
use mathlib.Core.Bool.{cond}
use mathlib.Core.List.{List, ◌++◌}
use Prim.Native.Nat.{ℕ, ◌≤◌}
use native.Mathlib.Omega.{arith}
use lib.Dec.{eqb}
use lib.ListN.{length, drop}
use lib.Seq.{drop-append_seam}
use Rattle.std.specs.Prelude.{Result, Ok, Err}
use Rattle.question_record.specs.Record.{refusal_for, void_refusal_for, record_of, Output, output_of}
use Rattle.little_endian.specs.Bytes.{AreBytes, written}
use Rattle.records.specs.Layout.{JOB, REVISION, job_of, revision_of, head_size, refusal_size, void_refusal_size, void_number, answer_room}
use Rattle.records.specs.Ranges.{RefusalHeld}
use Rattle.records.specs.Records.{refusal_of, refusal_with, refusal_bytes}
use Rattle.records.specs.declared.Refusal.{Refusal}
use Rattle.records.proofs.RoundTrip.{refusal_back}
use Rattle.records.proofs.Sizes.{refusal_length, refusal_room, other_refusal_size}
use Rattle.entrance.specs.declared.Problem.{Problem}
use Rattle.entrance.specs.declared.Fault.{Fault}
use Rattle.entrance.specs.Judge.{judge_of}
use Rattle.solver.specs.declared.Cause.{Cause}
use Rattle.solver.specs.declared.Cause.TheVariants.{StationVoid}
use Rattle.solver.specs.Table.{cause_number}
use Rattle.solver.proofs.Numbering.{twelve_named}
use Rattle.solver.specs.Solve.{Solved, settled_of, solved_after, solve_of, outcome_number}
use Rattle.sweep.specs.declared.walks.VoidStation.{VoidStation}
use Rattle.demand_laws.specs.Demand.{problem_from, IsRefused, void_refusal, Recording}
use Rattle.demand_laws.proofs.Demand.{void_seen}
use Rattle.demand_laws.proofs.VoidStations.{station_fits}
use Rattle.hypergeometric.proofs.ReasonNumbers.{number_most}
use Rattle.little_endian.proofs.Numbers.{number_lt}
use Rattle.question_record.proofs.Recorded.{room_same, when_answered, when_refused, has_room, plain_refusal, number_for, record_short}
use Rattle.question_record.proofs.WholeRecord.{record_laid, record_size, record_first}
use Rattle.little_endian.proofs.Laid.{laid, laid_length}

module _ (s : List ℕ) where
  by_verdict : (j : Result Problem Fault) (b c : List ℕ) → (solved_after j b).outcome ≡ (solved_after j c).outcome
  unfolding settled_of
  by_verdict (Err f) b c = refl
  by_verdict (Ok p) b c = refl

  -- Two buffers with room give the same outcome, whatever they held.
  pub same_outcome : (b c : List ℕ) → answer_room ≤ length b → answer_room ≤ length c → (solve_of s b).outcome ≡ (solve_of s c).outcome
  unfolding solve_of
  same_outcome b c h k =
      ap (λ (j : Result Problem Fault). (solved_after j b).outcome) (room_same s (length b) h)
      ∙ by_verdict (judge_of s answer_room) b c
      ∙ sym (ap (λ (j : Result Problem Fault). (solved_after j c).outcome) (room_same s (length c) k))

  -- With two buffers that have room, no question is answered with one and refused with the other.
  pub never_both : (b c : List ℕ) → answer_room ≤ length b → answer_room ≤ length c → (m n : ℕ) → (solve_of s b).outcome ≡ Ok m →
      IsRefused s c n → ⊥
  never_both b c h k m n e f =
      let z : n ≡ 0 = sym f.1 ∙ ap outcome_number (sym (same_outcome b c h k) ∙ e) in
      omega (arith, z, f.0)

  -- ---- the record

  module _ (b : List ℕ) (h : answer_room ≤ length b) where
    -- Writing the record's bytes to the buffer's start a second time changes nothing (`twice`).
    short : length (record_of s) ≤ length b
    short = omega (arith, record_short s, h)

    abbrev over : List ℕ
    over = written b (record_of s)

    over_is : over ≡ record_of s ++ drop (length (record_of s)) b
    over_is = record_laid s b h

    over_long : length over ≡ length b
    over_long = laid_length b (record_of s) short

    twice : written over (record_of s) ≡ over
    twice =
        laid over (record_of s) (omega (arith, short, over_long))
        ∙ ap (λ (l : List ℕ). record_of s ++ drop (length (record_of s)) l) over_is
        ∙ ap (λ (l : List ℕ). record_of s ++ l) (drop-append_seam (record_of s) (drop (length (record_of s)) b))
        ∙ sym over_is

    -- A second call with the buffer that the first call left gives the same outcome and leaves the same bytes.
    again_by : (o : Result ℕ Cause) → (solve_of s b).outcome ≡ o → solve_of s (solve_of s b).buffer ≡ solve_of s b
    again_by (Err cause) e = ap (solve_of s) (when_refused s b h cause e).0
    again_by (Ok n) e =
        let w = when_answered s b h n e in
        let long : answer_room ≤ length over = omega (arith, h, over_long) in
        let same = same_outcome over b long h in
        let v = when_answered s over long n (same ∙ e) in
        ap (solve_of s) w.0 ∙ both (solve_of s over) (solve_of s b) same (v.0 ∙ twice ∙ sym w.0)
      where
        both : (x y : Solved) → x.outcome ≡ y.outcome → x.buffer ≡ y.buffer → x ≡ y
        both x y f g = ap (λ (o : Result ℕ Cause). record { outcome = o; buffer = x.buffer }) f
            ∙ ap (λ (l : List ℕ). record { outcome = y.outcome; buffer = l }) g

    -- What `write_record` leaves in the buffer if the record is that of a refusal: the refusal, and then the old bytes.
    module _ (r : Refusal) (e : record_of s ≡ refusal_bytes r) where
      refusal_sized : (output_of s b).size ≡ refusal_size r.number
      refusal_sized = ap (λ (x : Output). x.size) (has_room s b h) ∙ ap length e ∙ refusal_length r

      refusal_left : (output_of s b).buffer ≡ refusal_bytes r ++ drop (refusal_size r.number) b
      refusal_left =
          let long = refusal_length r in
          ap (λ (x : Output). x.buffer) (has_room s b h)
          ∙ ap (written b) e
          ∙ laid b (refusal_bytes r) (omega (arith, long, refusal_room r.number, h))
          ∙ ap (λ (m : ℕ). refusal_bytes r ++ drop m b) long

    refused_record : (cause : Cause) → (solve_of s b).outcome ≡ Err cause → ((v : VoidStation) → cause ≡ StationVoid v → ⊥) →
        let n = cause_number cause in
        let r = cond (eqb n 1) (refusal_with 0 0 n) (refusal_with (job_of s) (revision_of s) n) in
        (n ≡ void_number → ⊥) × ((output_of s b).size ≡ head_size) × ((output_of s b).buffer ≡ refusal_bytes r ++ drop head_size b)
    unfolding refusal_for
    refused_record cause e plain =
        let n = cause_number cause in
        let other : n ≡ void_number → ⊥ = λ z. let v = twelve_named cause z in plain v.0 v.1 in
        let r = refusal_for s n in
        let bytes = (when_refused s b h cause e).1 ∙ ap refusal_bytes (plain_refusal s cause other) in
        let size : refusal_size r.number ≡ head_size = ap (λ (m : ℕ). refusal_size m) (number_for s n) ∙ other_refusal_size n other in (
          other,
          refusal_sized r bytes ∙ size,
          refusal_left r bytes ∙ ap (λ (m : ℕ). refusal_bytes r ++ drop m b) size,
        )

    void_record : (v : VoidStation) → (solve_of s b).outcome ≡ Err (StationVoid v) →
        ((output_of s b).size ≡ void_refusal_size) × ((output_of s b).buffer ≡ refusal_bytes (void_refusal s v) ++ drop void_refusal_size b)
    unfolding void_refusal_for
    void_record v e =
        let bytes = (when_refused s b h (StationVoid v) e).1 in
        (refusal_sized (void_refusal_for s v) bytes, refusal_left (void_refusal_for s v) bytes)

    -- The job, the revision, the station and the reason fit their fields, so reading the record gives them back.
    void_held : (v : VoidStation) → (solve_of s b).outcome ≡ Err (StationVoid v) → AreBytes s → RefusalHeld (void_refusal s v)
    void_held v e bytes =
        record {
          job = number_lt JOB.width JOB.offset s bytes;
          revision = number_lt REVISION.width REVISION.offset s bytes;
          number = omega arith;
          station = station_fits (problem_from s) v (void_seen s b v e);
          reason = omega (arith, number_most v.reason);
          absent = λ other. absurd (other refl);
        }

    void_read_lem : (v : VoidStation) → (solve_of s b).outcome ≡ Err (StationVoid v) → AreBytes s →
        refusal_of (output_of s b).buffer ≡ void_refusal s v
    void_read_lem v e bytes =
        ap refusal_of (void_record v e).1 ∙ refusal_back (void_refusal s v) (drop void_refusal_size b) (void_held v e bytes)

    pub recording : Recording s b
    recording =
        let r = has_room s b h in
        record {
          answered = λ n e.
              let w = when_answered s b h n e in
              (ap (λ (x : Output). x.size) r ∙ w.1, ap (λ (x : Output). x.buffer) r ∙ sym w.0);
          refused = refused_record;
          void = void_record;
          void_read = void_read_lem;
          size = record_size s b h;
          fits = record_short s;
          starts = record_first s b h;
          again = again_by (solve_of s b).outcome refl;
        }
