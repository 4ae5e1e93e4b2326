-- The proofs of demand 1 for every question and every buffer (`demand_1`), and of demand 3 for a question past the entrance checks
-- (`demand_3`). Both follow from one equation, `solve_is`: a call gives the cause of the first row of 01's whole table that applies, or
-- the answer if none applies.
use mathlib.Core.Path.{◌≡◌, refl, sym, ap, ◌∙◌}
use mathlib.Core.Bool.{true, false, cond}
use mathlib.Core.List.{List, ◌++◌, map}
use Prim.Native.Nat.{ℕ, ◌≤◌, ◌<◌}
use native.Mathlib.Omega.{arith}
use native.Mathlib.Nat.{le_of_suc-le-suc, lt_of_not-le}
use borrow.Author.Tests.{eq-eqb, ne_eqb, eqb-true, eqb-false, ltb-true, ltb-false, lt-ltb, le-ltb}
use lib.Dec.{eqb, ltb, lit<, lit≤}
use lib.ListN.{length, get_or, take, drop, get_or-map, length-map}
use Rattle.std.specs.Prelude.{Option, Some, None, Result, Ok, Err}
use Rattle.geometry.specs.Triangles.{shape_of}
use Rattle.geometry.specs.declared.Shape.{Shape}
use Rattle.records.specs.Layout.{entry_size, answer_size, answer_room, void_number}
use Rattle.records.specs.Records.{question_of, head_of, answer_head_of, entry_bytes, answer_bytes}
use Rattle.records.specs.Ranges.{HeadHeld}
use Rattle.records.specs.declared.Question.{Question}
use Rattle.records.specs.declared.Entry.{Entry}
use Rattle.records.proofs.Answers.{answer_length}
use Rattle.records.proofs.Reading.{entry_read, answer_head_read}
use Rattle.entrance.specs.Judge.{checks, is_long_way, first_of, fault_number, unless, problem_of, judge_of}
use Rattle.entrance.specs.Table.{Row, rows_of, condition_of, Exactly}
use Rattle.entrance.specs.declared.Problem.{Problem}
use Rattle.entrance.proofs.Table.{Rising, none, more, UpTo, above, first_is, is_first, none_first, first_none, accepted_exactly}
use Rattle.entrance.proofs.Table.{accepted_room, first_in, number_or_0, number_first, fault_positive, fault_most}
use Rattle.entrance.proofs.Unless.{a_fault}
use Rattle.entrance.specs.declared.Fault.{Fault}
use Rattle.bound_laws.proofs.Past.{past_bounds}
use Rattle.stations.specs.Sides.{is_unknown}
use Rattle.crossing_laws.specs.FirstVoid.{IsFirstVoidStation}
use Rattle.crossing_laws.specs.Listed.{Listed}
use Rattle.crossing_laws.proofs.Corners.{no_place}
use Rattle.bisection.specs.Pairs.{crosses}
use Rattle.sweep.proofs.Counts.{counted}
use Rattle.crossing_laws.proofs.FirstVoids.{clash}
use Rattle.crossing_laws.proofs.Theorems.{false_by, listed_exactly, rises, none_exactly, void_at_lem as some_at, at_void as some_void_lem}
use Rattle.stations.proofs.Grids.{grid_rises}
use Rattle.solver.specs.declared.Cause.{Cause}
use Rattle.solver.specs.declared.Cause.TheVariants.{Entrance, StationVoid}
use Rattle.solver.specs.Crossed.{search_of, sides_of, grid_of, last_place, seen_of, entries_of}
use Rattle.solver.specs.Table.{cause_number, any_void, all_finite, late_checks}
use Rattle.solver.specs.Solve.{Solved, outcome_for, buffer_after, settled_of, solved_after, solve_of, outcome_number}
use Rattle.demand_laws.specs.Demand.{problem_from, table_of, row_of, HasAnswer, IsRefused, Demand1, Past, IsCrossing, pairs_of, entry_at}
use Rattle.demand_laws.specs.Demand.{FiniteAll, FiniteNot, TimedAll, VoidSome, NonePair, Pairs, Answer, Demand3}
use Rattle.demand_laws.specs.Demand.{InDomain}
use Rattle.solver.proofs.Numbering.{rows, rows_are, late_rows, late_number, station_seen, no_cause, twelve_named}
use Rattle.sweep.specs.declared.walks.VoidStation.{VoidStation}
use Rattle.sweep.specs.declared.walks.Walk.TheVariants.{SomeVoid}
use Rattle.demand_laws.proofs.VoidStations.{first_void_lem}
use Rattle.demand_laws.proofs.RowFacts.{is_none, is_eleven, is_twelve, is_thirteen, is_fourteen, only_four, first_append}
use Rattle.little_endian.proofs.Laid.{laid}
use Rattle.demand_laws.proofs.ReadBack.{entry_held, head_held, listed_at}
use Rattle.demand_laws.proofs.Answered.{entry_place, entries_pairs, each_finite, finite_each, finite_not, finite_is, timed_at}
use Rattle.demand_laws.proofs.Answered.{void_at_lem, at_void, counts_crosses, crosses_counts, bracket_of_lem, chosen_by, lower_of}
use Rattle.demand_laws.proofs.Answered.{halvings_of}

-- The cause of the first row of the whole table that applies: the fault of the entrance checks, or else the cause of a later row.
abbrev or_late : Option Fault → Option Cause → Option Cause
or_late None late = late
or_late (Some f) late = Some (Entrance f)

-- A void station is the cause of a later row.
late_void : (o : Option Fault) (late : Option Cause) (v : VoidStation) → or_late o late ≡ Some (StationVoid v) →
    late ≡ Some (StationVoid v)
late_void None late v e = e
late_void (Some f) late v e = absurd (omega (arith, ap (number_or_0 cause_number) e, fault_most f))

unless_number : (o : Option Cause) (n : ℕ) → outcome_number (unless o n) ≡ number_or_0 cause_number o
unless_number None n = refl
unless_number (Some c) n = refl

-- The outcome with number 12 has a station.
station_of_outcome : (o : Result ℕ Cause) → outcome_number o ≡ void_number → (v : VoidStation) × (o ≡ Err (StationVoid v))
station_of_outcome (Ok n) e = absurd (omega (arith, e))
station_of_outcome (Err c) e = let v = twelve_named c e in (v.0, ap Err v.1)

module _ (s b : List ℕ) where
  abbrev q : Question
  q = question_of s

  abbrev g : Shape
  g = shape_of q.r1 q.r2 (is_long_way q)

  abbrev p : Problem
  p = problem_from s

  -- The first fault that the entrance checks find, and their rows.
  abbrev fault : Option Fault
  fault = first_of (checks (length s) (length b) q g)

  abbrev entrance : List Row
  entrance = rows_of fault_number (checks (length s) (length b) q g)

  -- The number of the first row of the whole table that applies, or 0 if none does.
  abbrev N : ℕ
  N = first_in (table_of s (length b))

  rising_entrance : Rising 0 entrance
  unfolding checks
  rising_entrance =
      more (lit< tt)
      (more (lit< tt)
      (more (lit< tt)
      (more (lit< tt) (more (lit< tt) (more (lit< tt) (more (lit< tt) (more (lit< tt) (more (lit< tt) (more (lit< tt) none)))))))))

  rising_table : Rising 0 (table_of s (length b))
  unfolding table_of checks late_checks
  rising_table =
      more (lit< tt)
      (more (lit< tt)
      (more (lit< tt) (more (lit< tt) (more (lit< tt) (more (lit< tt) (more (lit< tt) (more (lit< tt) (more (lit< tt) (more (lit< tt)
      (more (lit< tt) (more (lit< tt) (more (lit< tt) (more (lit< tt) none)))))))))))))

  to_fourteen : UpTo 14 (table_of s (length b))
  unfolding table_of checks late_checks
  to_fourteen =
      more (lit≤ tt)
      (more (lit≤ tt)
      (more (lit≤ tt) (more (lit≤ tt) (more (lit≤ tt) (more (lit≤ tt) (more (lit≤ tt) (more (lit≤ tt) (more (lit≤ tt) (more (lit≤ tt)
      (more (lit≤ tt) (more (lit≤ tt) (more (lit≤ tt) (more (lit≤ tt) none)))))))))))))

  table_first : N ≡ cond (eqb (first_in entrance) 0) (first_in (late_rows p)) (first_in entrance)
  unfolding table_of
  table_first = first_append 0 entrance (late_rows p) rising_entrance

  -- ---- the equation for a call
  -- The cause of the first row of the whole table that applies, and the result of a call with a cause. No cause means an answer.
  abbrev cause : Option Cause
  cause = or_late fault (first_of (late_checks p))

  abbrev given : Option Cause → Solved
  given o = record {
    outcome = unless o (length (entries_of p));
    buffer = buffer_after p (unless o (length (entries_of p))) b;
  }

  by_entrance : (o : Option Fault) → solved_after (unless o p) b ≡ given (or_late o (first_of (late_checks p)))
  unfolding settled_of outcome_for
  by_entrance None = refl
  by_entrance (Some f) = refl

  solved_is : solve_of s b ≡ given cause
  unfolding solve_of judge_of
  solved_is = by_entrance fault

  outcome_is : (solve_of s b).outcome ≡ unless cause (length (entries_of p))
  outcome_is = ap (λ (x : Solved). x.outcome) solved_is

  -- ---- the number of an outcome is that of the first row that applies
  by_fault : (o : Option Fault) → first_in entrance ≡ number_or_0 fault_number o →
      number_or_0 cause_number (or_late o (first_of (late_checks p)))
      ≡ cond (eqb (first_in entrance) 0) (first_in (late_rows p)) (first_in entrance)
  by_fault None e = rw e (sym (late_number p))
  by_fault (Some f) e = rw (e, ne_eqb (fault_number f) 0 (λ z. omega (arith, z, fault_positive f)))

  cause_number_is : number_or_0 cause_number cause ≡ N
  cause_number_is = by_fault fault (number_first fault_number (checks (length s) (length b) q g)) ∙ sym table_first

  -- A call gives the refusal with this cause, or the answer, and the number of the cause is that of the first row of the whole table that
  -- applies.
  pub solve_is : (solve_of s b ≡ given cause) × (number_or_0 cause_number cause ≡ N)
  solve_is = (solved_is, cause_number_is)

  number_is : outcome_number (solve_of s b).outcome ≡ N
  number_is = ap outcome_number outcome_is ∙ unless_number cause (length (entries_of p)) ∙ cause_number_is

  refused_when : (n : ℕ) → IsRefused s b n → N ≡ n
  refused_when n r = sym number_is ∙ r.1

  when_refused : (n : ℕ) → 0 < n → N ≡ n → IsRefused s b n
  when_refused n h e = (h, number_is ∙ e)

  -- ---- an answer
  when_answered : N ≡ 0 → solve_of s b ≡ given None
  when_answered e = solved_is ∙ ap given (no_cause cause (cause_number_is ∙ e))

  answered_when : (n : ℕ) → (solve_of s b).outcome ≡ Ok n → (N ≡ 0) × (length (entries_of p) ≡ n)
  answered_when n e =
      let z : N ≡ 0 = sym number_is ∙ ap outcome_number e in
      let same : Ok (length (entries_of p)) ≡ Ok n = sym (ap (λ (x : Solved). x.outcome) (when_answered z)) ∙ e in
      (z, cc same)

  has_answer : N ≡ 0 → HasAnswer s b
  has_answer z = (length (entries_of p), ap (λ (x : Solved). x.outcome) (when_answered z))

  -- ---- a refusal: it leaves the buffer untouched
  left_by : (o : Option Cause) → 0 < number_or_0 cause_number o → (given o).buffer ≡ b
  left_by None h = absurd (omega (arith, h))
  left_by (Some c) h = refl

  -- A refusal with a station has number 12, and the station is that of the report.
  void_number_lem : (v : VoidStation) → (solve_of s b).outcome ≡ Err (StationVoid v) → N ≡ void_number
  void_number_lem v e = sym number_is ∙ ap outcome_number e

  -- A refusal that has no station does not have number 12.
  pub plain_other : (cause : Cause) → (solve_of s b).outcome ≡ Err cause → ((v : VoidStation) → cause ≡ StationVoid v → ⊥)
      → cause_number cause ≡ void_number → ⊥
  plain_other cause e plain z = let station = twelve_named cause z in plain station.0 station.1

  pub void_seen : (v : VoidStation) → (solve_of s b).outcome ≡ Err (StationVoid v) → seen_of p ≡ SomeVoid v
  void_seen v e =
      let given-one : cause ≡ Some (StationVoid v) = a_fault cause (length (entries_of p)) (StationVoid v) (sym outcome_is ∙ e) in
      station_seen p v (late_void fault (first_of (late_checks p)) v given-one)

  -- ---- demand 1
  pub demand_1 : Demand1 s b
  unfolding row_of
  demand_1 =
      record {
        refused = λ n h.
            record {
              only = λ r. first_is 0 (table_of s (length b)) n rising_table h (refused_when n r);
              always = λ f. when_refused n h (is_first 0 (table_of s (length b)) n rising_table f);
            };
        answered =
            record {
              only = λ e. first_none 0 (table_of s (length b)) rising_table (answered_when e.0 e.1).0;
              always = λ f. has_answer (none_first 0 (table_of s (length b)) rising_table f);
            };
        number = λ n r.
            let f = first_is 0 (table_of s (length b)) n rising_table r.0 (refused_when n r) in
            let never : 15 ≤ n → ⊥ = λ h. clash f.own (above 14 (table_of s (length b)) n to_fourteen h) in
            le_of_suc-le-suc (lt_of_not-le never);
        untouched = λ n r.
            ap (λ (x : Solved). x.buffer) solved_is ∙ left_by cause (omega (arith, cause_number_is, refused_when n r, r.0));
        zero = record { only = λ e. number_is ∙ (answered_when e.0 e.1).0; always = λ z. has_answer (sym number_is ∙ z) };
      }

  -- ---- demand 3
  module _ (past : Past s (length b)) where
    late : N ≡ first_in (late_rows p)
    unfolding condition_of
    late = table_first ∙ rw (none_first 0 entrance rising_entrance past)

    abbrev C : ℕ
    C = length (pairs_of p)

    row : (n : ℕ) → N ≡ n → rows (eqb C 0) (any_void p) (ltb 8 C) (all_finite p) ≡ n
    row n e = sym (rows_are p) ∙ sym late ∙ e

    of_row : (n : ℕ) → rows (eqb C 0) (any_void p) (ltb 8 C) (all_finite p) ≡ n → N ≡ n
    of_row n e = late ∙ rows_are p ∙ e

    -- The tests of the rows 11 to 14, restated in the terms of `Demand3`.
    pair_listed : (i : ℕ) → Exactly (Listed i (pairs_of p)) (IsCrossing p i)
    pair_listed i =
        let l = listed_exactly (sides_of p) (grid_of p) (last_place p) i in
        record {
          only = λ h. crosses_counts p i (l.0 h).0 (l.0 h).1;
          always = λ c. l.1 (c.within, counts_crosses p i c);
        }

    no_pairs : C ≡ 0 → NonePair p
    no_pairs e i c =
        let z : crosses (sides_of p) (grid_of p) i ≡ false =
        (none_exactly (sides_of p) (grid_of p) (last_place p)).0 (omega (arith, e, counted (sides_of p) (grid_of p) (last_place p))) i
        c.within in
        clash (counts_crosses p i c) z

    pairs_none : NonePair p → C ≡ 0
    pairs_none f =
        omega (
          arith,
          counted (sides_of p) (grid_of p) (last_place p),
          (none_exactly (sides_of p) (grid_of p) (last_place p)).1
              (λ i h. false_by (crosses (sides_of p) (grid_of p) i) (λ y. f i (crosses_counts p i h y))),
        )

    some_pairs : eqb C 0 ≡ false → 1 ≤ C
    some_pairs e = lt_of_not-le (λ h. eqb-false C 0 e (omega (arith, h)))

    all_timed : any_void p ≡ false → TimedAll p
    all_timed e i h =
        let t = timed_at p ((grid_of p).place i)
        (false_by (is_unknown (sides_of p ((grid_of p).place i))) (λ u. clash (some_at (sides_of p) (grid_of p) (last_place p) i h u) e)) in
        (t.0, t.1.0)

    timed_all : TimedAll p → any_void p ≡ false
    timed_all f =
        false_by (any_void p) (λ e. let v = some_void_lem (sides_of p) (grid_of p) (last_place p) e in
        no_place (sym (at_void p ((grid_of p).place v.0) v.1.1).1 ∙ (f v.0 v.1.0).1))

    void_some : any_void p ≡ true → VoidSome p
    void_some e = let v = some_void_lem (sides_of p) (grid_of p) (last_place p) e in
        (v.0, (v.1.0, at_void p ((grid_of p).place v.0) v.1.1))

    some_void_of : VoidSome p → any_void p ≡ true
    some_void_of h = some_at (sides_of p) (grid_of p) (last_place p) h.0 h.1.0 (void_at_lem p ((grid_of p).place h.0) h.1.1.1)

    the_station : IsRefused s b 12 → (v : VoidStation) × ((solve_of s b).outcome ≡ Err (StationVoid v))
    the_station r = station_of_outcome (solve_of s b).outcome r.1

    the_first : (v : VoidStation) → (solve_of s b).outcome ≡ Err (StationVoid v) → IsRefused s b 12 × IsFirstVoidStation (search_of p) v
    the_first v e = (when_refused 12 (lit< tt) (void_number_lem v e), first_void_lem p v (void_seen v e))

    finite_all : all_finite p ≡ true → FiniteAll p
    finite_all e i c = finite_is p i ∙ each_finite p e i ((pair_listed i).always c)

    all_finite_lem : FiniteAll p → all_finite p ≡ true
    all_finite_lem f = finite_each p (λ i l. sym (finite_is p i) ∙ f i ((pair_listed i).only l))

    some_infinite : all_finite p ≡ false → FiniteNot p
    some_infinite e = let r = finite_not p e in (r.0, ((pair_listed r.0).only r.1.0, finite_is p r.0 ∙ r.1.1))

    not_all_finite : FiniteNot p → all_finite p ≡ false
    not_all_finite h = false_by (all_finite p) (λ t. clash (finite_all t h.0 h.1.0) h.1.1)

    in_domain : InDomain p
    in_domain =
        let bounds = (past_bounds s (length b) past).problem in
        record { wanted_finite = bounds.wanted_finite; wanted_above = bounds.wanted_above; lambda_below = bounds.lambda_below }

    the_pairs : Pairs p
    the_pairs =
        record {
          listed = pair_listed;
          rising = rises (sides_of p) (grid_of p) (last_place p);
          neighbours = (grid_rises (search_of p)).next;
          bracket = bracket_of_lem p;
          lower_end = lower_of p;
          halvings = halvings_of p;
          chosen = chosen_by p;
        }

    -- The bytes and the entries of an answer.
    room : answer_room ≤ length b
    room = accepted_room s (length b) p ((accepted_exactly s (length b)).always past)

    few : N ≡ 0 → C ≤ 8
    few e = ltb-false 8 C (is_none (eqb C 0) (any_void p) (ltb 8 C) (all_finite p) (row 0 e)).1

    many_is : (n : ℕ) → length (entries_of p) ≡ n → n ≡ C
    many_is n e = sym e ∙ ap length (entries_pairs p) ∙ length-map (pairs_of p) (entry_at p)

    bytes_are : (n : ℕ) → N ≡ 0 → length (entries_of p) ≡ n →
        (solve_of s b).buffer ≡ answer_bytes p.job p.revision (map (entry_at p) (pairs_of p)) ++ drop (answer_size n) b
    bytes_are n z e =
        let long : length (answer_bytes p.job p.revision (entries_of p)) ≡ answer_size n =
        answer_length p.job p.revision (entries_of p) ∙ ap (λ (k : ℕ). answer_size k) e in
        ap (λ (x : Solved). x.buffer) (when_answered z)
        ∙ laid b (answer_bytes p.job p.revision (entries_of p)) (omega (arith, long, room, few z, many_is n e))
        ∙ ap (λ (k : ℕ). answer_bytes p.job p.revision (entries_of p) ++ drop k b) long
        ∙ ap (λ (es : List Entry). answer_bytes p.job p.revision es ++ drop (answer_size n) b) (entries_pairs p)

    entry_is : (n : ℕ) → N ≡ 0 → length (entries_of p) ≡ n → (k : ℕ) → k < n →
        take entry_size (drop (answer_size k) (solve_of s b).buffer) ≡ entry_bytes (entry_at p (get_or (pairs_of p) k 0))
    entry_is n z e k h =
        let l : k < length (map (entry_at p) (pairs_of p)) = omega (arith, length-map (pairs_of p) (entry_at p), many_is n e, h) in
        ap (λ (x : List ℕ). take entry_size (drop (answer_size k) x)) (bytes_are n z e)
        ∙ entry_place p.job p.revision (map (entry_at p) (pairs_of p)) (drop (answer_size n) b) k (entry_at p 0) l
        ∙ ap entry_bytes (get_or-map (entry_at p) (pairs_of p) k 0)

    head_is : (n : ℕ) → N ≡ 0 → length (entries_of p) ≡ n → HeadHeld (answer_head_of q.job q.revision n) →
        head_of (solve_of s b).buffer ≡ answer_head_of q.job q.revision n
    unfolding problem_of
    head_is n z e held =
        let es = map (entry_at p) (pairs_of p) in
        let size : length es ≡ n = length-map (pairs_of p) (entry_at p) ∙ sym (many_is n e) in
        let own : HeadHeld (answer_head_of q.job q.revision (length es)) = rw size held in
        ap head_of (bytes_are n z e)
        ∙ answer_head_read q.job q.revision es (drop (answer_size n) b) own
        ∙ ap (answer_head_of q.job q.revision) size

    the_answer : (n : ℕ) → (solve_of s b).outcome ≡ Ok n → Answer s b n
    the_answer n o =
        let z = (answered_when n o).0 in
        let e = (answered_when n o).1 in
        record {
          many = many_is n e;
          bytes = bytes_are n z e;
          entry = entry_is n z e;
          entry_bytes_read = λ k h.
              let i = get_or (pairs_of p) k 0 in
              let counts : IsCrossing p i = (pair_listed i).only (listed_at (pairs_of p) k (omega (arith, many_is n e, h))) in
              entry_read (drop (answer_size k) (solve_of s b).buffer) (entry_at p i) (entry_is n z e k h) (entry_held p i counts);
          head_read = λ bytes. head_is n z e (head_held s n bytes (omega (arith, many_is n e, few z)));
        }

    pub demand_3 : Demand3 s b
    demand_3 =
        record {
          domain = in_domain;
          pairs = the_pairs;
          accepted =
              record {
                only = λ e.
                    let z = (answered_when e.0 e.1).0 in
                    let r = is_none (eqb C 0) (any_void p) (ltb 8 C) (all_finite p) (row 0 z) in
                    (some_pairs r.0, omega (arith, few z), finite_all r.2);
                always = λ h.
                    let z = of_row 0 (rw (ne_eqb C 0 (λ k. omega (arith, k, h.0)), le-ltb 8 C h.1, all_finite_lem h.2)) in
                    has_answer z;
              };
          answer = the_answer;
          eleven =
              record {
                only = λ e.
                    let r = is_eleven (eqb C 0) (any_void p) (ltb 8 C) (all_finite p) (row 11 (refused_when 11 e)) in
                    (all_timed r.1, no_pairs (eqb-true C 0 r.0));
                always = λ h.
                    let z = of_row 11 (rw (eq-eqb C 0 (pairs_none h.1), timed_all h.0)) in
                    when_refused 11 (lit< tt) z;
              };
          twelve =
              record {
                only = λ e.
                    let r = is_twelve (eqb C 0) (any_void p) (ltb 8 C) (all_finite p) (row 12 (refused_when 12 e)) in
                    (void_some r.1, no_pairs (eqb-true C 0 r.0));
                always = λ h.
                    let v = some_void_of h.0 in
                    let z = of_row 12 (rw (eq-eqb C 0 (pairs_none h.1), v)) in
                    when_refused 12 (lit< tt) z;
              };
          station = the_station;
          first_void = the_first;
          thirteen =
              record {
                only = λ e. ltb-true 8 C (is_thirteen (eqb C 0) (any_void p) (ltb 8 C) (all_finite p) (row 13 (refused_when 13 e)));
                always = λ h.
                    let z = of_row 13 (rw (ne_eqb C 0 (λ k. omega (arith, k, h)), lt-ltb 8 C h)) in
                    when_refused 13 (lit< tt) z;
              };
          fourteen =
              record {
                only = λ e.
                    let r = is_fourteen (eqb C 0) (any_void p) (ltb 8 C) (all_finite p) (row 14 (refused_when 14 e)) in
                    (some_pairs r.0, ltb-false 8 C r.1, some_infinite r.2);
                always = λ h.
                    let z = of_row 14 (rw (ne_eqb C 0 (λ k. omega (arith, k, h.0)), le-ltb 8 C h.1, not_all_finite h.2)) in
                    when_refused 14 (lit< tt) z;
              };
          no_other = λ n e. only_four (eqb C 0) (any_void p) (ltb 8 C) (all_finite p) n (row n (refused_when n e)) e.0;
        }
