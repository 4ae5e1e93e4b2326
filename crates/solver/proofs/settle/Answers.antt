-- `settle` meets its contract: it returns the cause of the first row that applies, or writes the answer at the start of the buffer.
use mathlib.Core.Path.{◌≡◌, sym, ap, ◌∙◌, subst}
use mathlib.Core.List.{List, map}
use Prim.Native.Nat.{ℕ, ◌≤◌}
use native.Mathlib.Omega.{arith}
use lib.ListN.{take}
use Rattle.std.specs.Prelude.{Option, None, Result, Ok}
use Rattle.little_endian.specs.Bytes.{written}
use Rattle.records.specs.Layout.{most_entries}
use Rattle.records.specs.Records.{answer_bytes}
use Rattle.records.specs.declared.Entry.{Entry}
use Rattle.entrance.specs.Judge.{first_of, unless}
use Rattle.entrance.specs.declared.Problem.{Problem}
use Rattle.entrance.proofs.Table.{number_or_0}
use Rattle.entrance.proofs.Unless.{no_fault, a_fault, err_is}
use Rattle.sweep.specs.declared.Crossings.{Crossings}
use Rattle.solver.specs.declared.Cause.{Cause}
use Rattle.entries.specs.Entries.{entry_for, entry_finite, finite_for, every}
use Rattle.entries.proofs.Lists.{every_entry}
use Rattle.solver.specs.Crossed.{sides_of}
use Rattle.solver.specs.Table.{cause_number, late_checks}
use Rattle.solver.specs.Internals.{late_cause}
use Rattle.solver.specs.Solve.{buffer_after, settled_of}
use Rattle.solver.proofs.Numbering.{found, most_eight, cause_is, late_number, few, entries_are, count_is, refused_is, answered_is}
use Rattle.solver.proofs.settle.Goals as goal
use Rattle.solver.proofs.settle.Goals.{After-find_crossings-found, After-check_search}

-- The buffer with a problem's answer, made of the given entries, written at its start.
with_answer : Problem → List ℕ → List Entry → List ℕ
with_answer p buffer es = written buffer (answer_bytes p.job p.revision es)

-- The sweep returned the crossings that `found` defines for the problem.
found_is : (c : After-find_crossings-found) → c.find_crossings-found.result ≡ found c.args.p
unfolding sides_of
found_is c = c.find_crossings-found.ensures

count_most : (c : After-find_crossings-found) → c.find_crossings-found.result.count ≤ most_entries
count_most c = subst (λ (x : Crossings). x.count ≤ most_entries) (sym (found_is c)) (most_eight c.args.p)

-- `check_search` returned the cause of the first row that applies, since `all_finite` returned whether the velocities of all listed
-- brackets are finite.
cause_at : (c : After-check_search) → c.check_search.result ≡ unless (first_of (late_checks c.args.p)) tt
unfolding sides_of
cause_at c =
    let p = c.args.p in
    let x = c.find_crossings-found.result in
    let is : x ≡ found p = c.find_crossings-found.ensures in
    let finite : c.all_finite-finite.result ≡ every (finite_for p) (take x.count x.list) =
    c.all_finite-finite.ensures
    ∙ ap (every entry_finite) c.entries_of-listed.ensures.taken
    ∙ every_entry p (take x.count x.list) in
    let late = ap (late_cause x.walk x.count) finite
    ∙ ap (λ (y : Crossings). late_cause y.walk y.count (every (finite_for p) (take y.count y.list))) is
    ∙ cause_is p in
    c.check_search.ensures ∙ ap (λ (o : Option Cause). unless o tt) late

pub returns-in_err-check_search : goal.returns-in_err-check_search
unfolding settled_of
returns-in_err-check_search c =
    let at = goal.at.returns-in_err-check_search c in
    let p = c.args.p in
    let b = c.args.answer.now in
    let some = a_fault _ _ _ (sym (cause_at at.After-check_search) ∙ c.in_err-check_search.was) in
    let outcome = refused_is p _ some in
    record {
      outcome = err_is _ _ c.from_residual.ensures.1 ∙ sym outcome;
      buffer = sym (ap (λ (o : Result ℕ Cause). buffer_after p o b) outcome);
    }

pub overflow_cast-count : goal.overflow_cast-count
overflow_cast-count c = omega (arith, count_most (goal.at.overflow_cast-count c).After-find_crossings-found)

pub returns : goal.returns
unfolding with_answer settled_of
returns c =
    let at = goal.at.returns c in
    let is = found_is at.After-find_crossings-found in
    let a = c.args in
    let p = a.p in
    let none : first_of (late_checks p) ≡ None = no_fault _ _ _ (sym (cause_at at.After-check_search) ∙ c.in_ok-check_search.was) in
    let h = few p (late_number p ∙ ap (number_or_0 cause_number) none) in
    let outcome = answered_is p none in
    let over = with_answer p a.answer.now in
    record {
      outcome = ap Ok (ap (λ (x : Crossings). x.count) is ∙ count_is p h) ∙ sym outcome;
      buffer = c.write_answer.ensures
          ∙ ap over c.entries_of-listed.ensures.taken
          ∙ ap (λ (x : Crossings). over (map (entry_for p) (take x.count x.list))) is
          ∙ ap over (entries_are p h)
          ∙ sym (ap (λ (o : Result ℕ Cause). buffer_after p o a.answer.now) outcome);
    }
