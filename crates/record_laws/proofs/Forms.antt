-- The record of every question has one of the four forms of `RecordForm` (`record_form`). The proof splits on the
-- verdict of the entrance checks and, for an accepted question, on the first of the numbers 11 to 14 that applies, if
-- any. Number 12 applies only if some station is void, and then the report about the stations names one.
use mathlib.Core.Path.{◌≡◌, refl, sym, ap, ◌∙◌, subst}
use mathlib.Core.Bool.{Bool, true, false, ◌||◌, true≢false}
use mathlib.Core.List.Memᴰ.{cases_cons as in-first}
use mathlib.Core.List.Memᴰ.{not-nil as in-none}
use mathlib.Core.List.{List, [], ◌∷◌, map, Memᴰ}
use mathlib.Core.Logic.{⊎_elim}
use Prim.Native.Nat.{ℕ, ◌≤◌, ◌<◌}
use native.Mathlib.Nat.{lt_of_not-le}
use native.Mathlib.Omega.{arith}
use borrow.Author.Tests.{eqb-true, eqb-false, ne_eqb}
use lib.Dec.{eqb, ltb}
use lib.ListN.{length, length-map}
use Rattle.std.specs.Prelude.{Option, Some, None, Result, Ok, Err}
use Rattle.question_record.specs.Record.{refusal_for, cause_refusal, outcome_record, record_after, record_of}
use Rattle.question_record.proofs.Recorded.{plain_refusal}
use Rattle.records.specs.Layout.{most_entries, answer_room, first_number, last_number, void_number, job_of}
use Rattle.records.specs.Records.{question_of, refusal_bytes}
use Rattle.records.specs.declared.Entry.{Entry}
use Rattle.geometry.specs.Triangles.{shape_of}
use Rattle.entrance.specs.Conditions.{malformed}
use Rattle.entrance.specs.Judge.{checks, is_long_way, first_of, fault_number, unless, problem_of, judge_of}
use Rattle.entrance.specs.Table.{applies_in, condition_of}
use Rattle.entrance.specs.declared.Problem.{Problem}
use Rattle.entrance.specs.declared.Fault.{Fault}
use Rattle.solver.specs.declared.Cause.{Cause}
use Rattle.entrance.proofs.Table.{first_in, number_or_0, fault_positive, fault_most, fault_exactly, accepted_exactly, accepted_problem}
use Rattle.bisection.specs.declared.Bracket.{Bracket}
use Rattle.sweep.proofs.Counts.{length_is}
use Rattle.entries.specs.Entries.{entry_for}
use Rattle.entries.proofs.Ends.{entry_names}
use Rattle.solver.specs.Crossed.{sides_of, grid_of, last_place, brackets_of, entries_of}
use Rattle.solver.specs.Table.{cause_number, crossing_count, any_void, all_finite, late_checks}
use Rattle.solver.specs.Solve.{outcome_for}
use Rattle.solver.proofs.Numbering.{rows, rows_are, late_rows, late_number, few, station_seen, cause_positive, twelve_named}
use Rattle.record_laws.specs.RecordForm.{RecordForm, malformed_question, refusal, void_refusal, answer}
use Rattle.record_laws.proofs.VoidStations.{void_station}

-- ---- the numbers 11 to 14

-- Each of these numbers is above 1 and in 01's table.
late_number_lem : (none void ninth finite : Bool) → (rows none void ninth finite ≡ 0 → ⊥) →
    (first_number < rows none void ninth finite) × (rows none void ninth finite ≤ last_number)
late_number_lem true false ninth finite h = (omega arith, omega arith)
late_number_lem true true ninth finite h = (omega arith, omega arith)
late_number_lem false void true finite h = (omega arith, omega arith)
late_number_lem false void false false h = (omega arith, omega arith)
late_number_lem false void false true h = absurd (h refl)

-- If none of them applies, there is a crossing.
some_crossing : (none void ninth finite : Bool) → rows none void ninth finite ≡ 0 → none ≡ false
some_crossing false void ninth finite e = refl
some_crossing true false ninth finite e = absurd (omega (arith, e))
some_crossing true true ninth finite e = absurd (omega (arith, e))

module _ (p : Problem) where
  size_is : length (entries_of p) ≡ crossing_count p
  unfolding entries_of brackets_of
  size_is = length-map (brackets_of p) (entry_for p) ∙ length_is (sides_of p) (grid_of p) (last_place p)

  at_least_one : first_in (late_rows p) ≡ 0 → 1 ≤ length (entries_of p)
  at_least_one e =
      let row = sym (rows_are p) ∙ e in
      let some = some_crossing (eqb (crossing_count p) 0) (any_void p) (ltb most_entries (crossing_count p)) (all_finite p) row in
      lt_of_not-le (λ h. eqb-false (crossing_count p) 0 some (omega (arith, h, size_is)))

  at_most_eight : first_in (late_rows p) ≡ 0 → length (entries_of p) ≤ most_entries
  at_most_eight e = omega (arith, few p e, size_is)

  late_between : (first_in (late_rows p) ≡ 0 → ⊥) → (first_number < first_in (late_rows p)) × (first_in (late_rows p) ≤ last_number)
  late_between h =
      rw (rows_are p)
      (late_number_lem (eqb (crossing_count p) 0) (any_void p) (ltb most_entries (crossing_count p)) (all_finite p) (λ z. h (rows_are p
      ∙ z)))

  -- The cause of a refusal from 11 to 14 has a number above 1 and in 01's table.
  cause_between : (cause : Cause) → first_of (late_checks p) ≡ Some cause
      → (first_number < cause_number cause) × (cause_number cause ≤ last_number)
  cause_between cause e =
      let n : first_in (late_rows p) ≡ cause_number cause = late_number p ∙ ap (number_or_0 cause_number) e in
      let most = late_between (λ z. omega (arith, z, n, cause_positive cause)) in
      (omega (arith, n, most.0), omega (arith, n, most.1))

  -- The chosen end of each entry is 0 or 1.
  each_names : (rs : List Bracket) (e : Entry) → Memᴰ e (map (entry_for p) rs) → e.chosen ≤ 1
  each_names [] e m = absurd (in-none m)
  each_names (r ∷ rs) e m = ⊎_elim (λ here. rw here (entry_names p r)) (λ there. each_names rs e there) (in-first m)

  all_name : (e : Entry) → Memᴰ e (entries_of p) → e.chosen ≤ 1
  unfolding entries_of
  all_name = each_names (brackets_of p)

-- ---- questions to which number 1 does not apply

or_true : (a : Bool) → a || true ≡ true
or_true true = refl
or_true false = refl

module _ (s : List ℕ) where
  -- Number 1 applies to job 0, so any question to which it does not apply has another job.
  zero_malformed : job_of s ≡ 0 → condition_of s answer_room 1 ≡ true
  unfolding condition_of applies_in checks malformed question_of
  zero_malformed e = simp (e, or_true)

  past_one : condition_of s answer_room 1 ≡ false → 0 < job_of s
  past_one e = lt_of_not-le (λ h. true≢false (sym (zero_malformed (omega (arith, h))) ∙ e))

  -- ---- the record

  refusal_form : (n : ℕ) → first_number < n → n ≤ last_number → (n ≡ void_number → ⊥) → 0 < job_of s →
      RecordForm s (refusal_bytes (refusal_for s n))
  unfolding refusal_for
  refusal_form n low high other job = rw (ne_eqb n 1 (λ e. omega (arith, e, low))) (refusal n low high other job)

  -- The question's own problem.
  abbrev own : Problem
  own = let q = question_of s in problem_of q (shape_of q.r1 q.r2 (is_long_way q))

  by_fault : (f : Fault) → judge_of s answer_room ≡ Err f → (one : Bool) → eqb (fault_number f) 1 ≡ one
      → RecordForm s (refusal_bytes (refusal_for s (fault_number f)))
  unfolding refusal_for
  by_fault f e true one = rw (eqb-true (fault_number f) 1 one) malformed_question
  by_fault f e false one =
      let first = (fault_exactly s answer_room f).only e in
      let other : fault_number f ≡ 1 → ⊥ = eqb-false (fault_number f) 1 one in
      let late : 1 < fault_number f = lt_of_not-le (λ h. other (omega (arith, h, fault_positive f))) in
      let early = fault_most f in
      refusal_form (fault_number f) late (omega (arith, early)) (λ z. omega (arith, z, early)) (past_one (first.none_earlier 1 late))

  -- The record of a refusal with a cause from 11 to 14: number 12 names a station, and the others do not.
  cause_form : 0 < job_of s → (cause : Cause) → first_of (late_checks own) ≡ Some cause
      → RecordForm s (refusal_bytes (cause_refusal s cause))
  unfolding problem_of question_of
  cause_form job cause e = by (eqb (cause_number cause) void_number) refl
    where
      by : (twelve : Bool) → eqb (cause_number cause) void_number ≡ twelve → RecordForm s (refusal_bytes (cause_refusal s cause))
      by true t =
          let v = twelve_named cause (eqb-true (cause_number cause) void_number t) in
          rw v.1 (void_refusal v.0 (void_station own v.0 (station_seen own v.0 (e ∙ ap Some v.1))) job)
      by false t =
          let other : cause_number cause ≡ void_number → ⊥ = eqb-false (cause_number cause) void_number t in
          let number = cause_between own cause e in
          rw (plain_refusal s cause other) (refusal_form (cause_number cause) number.0 number.1 other job)

  by_cause : 0 < job_of s → (o : Option Cause) → first_of (late_checks own) ≡ o →
      RecordForm s (outcome_record s own (unless o (length (entries_of own))))
  unfolding problem_of question_of
  by_cause job None e =
      let none = late_number own ∙ ap (number_or_0 cause_number) e in
      answer (entries_of own) (at_least_one own none) (at_most_eight own none) (all_name own) job
  by_cause job (Some cause) e = cause_form job cause e

  accepted_form : judge_of s answer_room ≡ Ok own → RecordForm s (record_after s (Ok own))
  unfolding outcome_for
  accepted_form e = by_cause (past_one ((accepted_exactly s answer_room).only e 1)) (first_of (late_checks own)) refl

  by_verdict : (j : Result Problem Fault) → judge_of s answer_room ≡ j → RecordForm s (record_after s j)
  by_verdict (Err f) e = by_fault f e (eqb (fault_number f) 1) refl
  by_verdict (Ok p) e =
      let is-own : p ≡ own = accepted_problem s answer_room p e in
      subst (λ (x : Problem). RecordForm s (record_after s (Ok x))) (sym is-own) (accepted_form (e ∙ ap Ok is-own))

  pub record_form : RecordForm s (record_of s)
  unfolding record_of
  record_form = by_verdict (judge_of s answer_room) refl
