-- The demands on `solve_of`, which takes bytes and gives bytes: first each demand that 01 refers to by number, and at the end all of them
-- together (`Demanded`). In these definitions s is the question and b is the answer buffer. Definitions only.
use Rattle.std.specs.Prelude.{Ok, Err}
use Rattle.std.specs.Prelude.{◌≡◌, Bool, true, false, cond, not, ◌⊎◌, List, ◌++◌, map, ℕ, ◌+◌, ◌-◌, ◌^◌, ◌≤◌, ◌<◌, eqb, pos, ◌+ℤ◌, Float}
use Rattle.std.specs.Prelude.{length, get_or, take, drop}
use Rattle.question_record.specs.Record.{record_of, output_of}
use Rattle.float64.specs.Notation.{◌≺◌, 0F, 1F}
use Rattle.float64.specs.Value.{finite_of, magnitude_of}
use Rattle.geometry.specs.Triangles.{shape_of}
use Rattle.little_endian.specs.Bytes.{AreBytes}
use Rattle.records.specs.Layout.{entry_size, answer_size, answer_room, head_size, void_refusal_size, void_number, job_of, revision_of}
use Rattle.records.specs.Records.{question_of, head_of, answer_head_of, entry_of, entry_bytes, answer_bytes, refusal_of, refusal_with}
use Rattle.records.specs.Records.{refusal_bytes}
use Rattle.records.specs.declared.Refusal.{Refusal}
use Rattle.records.specs.declared.Entry.{Entry}
use Rattle.entrance.specs.Judge.{checks, is_long_way, fault_number, problem_of}
use Rattle.entrance.specs.Table.{Row, rows_of, applies_in, condition_of, First, Exactly}
use Rattle.entrance.specs.declared.Problem.{Problem}
use Rattle.hypergeometric.specs.Reasons.{reason_number}
use Rattle.hypergeometric.specs.declared.reasons.Reason.{Reason}
use Rattle.flight_time.specs.declared.Place.TheVariants.{Timed, Void}
use Rattle.bisection.specs.Pairs.{bracket_of}
use Rattle.sweep.specs.Crossings.{crossings}
use Rattle.sweep.specs.declared.walks.VoidStation.{VoidStation}
use Rattle.crossing_laws.specs.Brackets.{IsBracket}
use Rattle.crossing_laws.specs.FirstVoid.{IsFirstVoidStation}
use Rattle.crossing_laws.specs.Listed.{Listed, Rising}
use Rattle.bisection.specs.declared.Bracket.{Bracket}
use Rattle.velocity.specs.Chosen.{upper_chosen}
use Rattle.solver.specs.declared.Cause.{Cause}
use Rattle.solver.specs.declared.Cause.TheVariants.{StationVoid}
use Rattle.entries.specs.Entries.{place_of, velocities_at, end_number, entry_for, entry_finite}
use Rattle.solver.specs.Crossed.{search_of, sides_of, grid_of, last_place}
use Rattle.solver.specs.Table.{cause_number, late_checks}
use Rattle.solver.specs.Solve.{solve_of, outcome_number}

-- The problem that a question's bytes describe.
abbrev pub problem_from : List ℕ → Problem
problem_from s = let q = question_of s in problem_of q (shape_of q.r1 q.r2 (is_long_way q))

-- ---- demand 1: every bad question gets the number of its first fault

-- All fourteen rows of 01's table of refusals, for a question and the size of the answer buffer.
unfoldable pub table_of : List ℕ → ℕ → List Row
table_of s room =
    let q = question_of s in
    rows_of fault_number (checks (length s) room q (shape_of q.r1 q.r2 (is_long_way q)))
    ++ rows_of cause_number (late_checks (problem_from s))

-- Whether the row of number n applies.
unfoldable pub row_of : List ℕ → ℕ → ℕ → Bool
row_of s room n = applies_in (table_of s room) n

-- The question gets an answer, with some number of entries.
abbrev pub HasAnswer : List ℕ → List ℕ → Type 0
HasAnswer s b = (n : ℕ) × ((solve_of s b).outcome ≡ Ok n)

-- The question is refused with the number n, which is above 0.
abbrev pub IsRefused : List ℕ → List ℕ → ℕ → Type 0
IsRefused s b n = (0 < n) × (outcome_number (solve_of s b).outcome ≡ n)

-- When a question is refused, with which number, and when it is answered.
pub record Demand1 (s b : List ℕ) : Type 0 where
  -- A number is given exactly if its own row applies and no earlier one does. An answer is given exactly if no row applies.
  pub refused : (n : ℕ) → 0 < n → Exactly (IsRefused s b n) (First (row_of s (length b)) n)
  pub answered : Exactly (HasAnswer s b) ((n : ℕ) → row_of s (length b) n ≡ false)
  -- The number of a refusal is from 1 to 14, and a refusal leaves the buffer unchanged. The number 0 belongs to an answer.
  pub number : (n : ℕ) → IsRefused s b n → n ≤ 14
  pub untouched : (n : ℕ) → IsRefused s b n → (solve_of s b).buffer ≡ b
  pub zero : Exactly (HasAnswer s b) (outcome_number (solve_of s b).outcome ≡ 0)

-- ---- demand 2: no definition is needed here, because the contracts of `solve` and `write_record` say that what they return and what they
-- leave in the buffer is what `solve_of` and `output_of` give, bit for bit

-- ---- demand 3: a question past the entrance checks

-- No entrance check applies.
abbrev pub Past : List ℕ → ℕ → Type 0
Past s room = (n : ℕ) → condition_of s room n ≡ false

-- The wanted time, with which the time at every station is compared, is finite and above 0. So refusal 11 never results from comparisons
-- with a NaN. |L| is below 1, as the time at a place requires.
pub record InDomain (p : Problem) : Type 0 where
  pub wanted_finite : finite_of p.wanted ≡ true
  pub wanted_above : (0F ≺ p.wanted) ≡ true
  pub lambda_below : (magnitude_of p.triangle.lambda ≺ 1F) ≡ true

-- The places i and i + 1 of the grid are a crossing: both have times, and exactly one of the two times is below the wanted time.
pub record IsCrossing (p : Problem) (i : ℕ) : Type 0 where
  pub within : i < last_place p
  pub lower_time : Float
  pub upper_time : Float
  pub lower_is : place_of p ((grid_of p).place i) ≡ Timed lower_time
  pub upper_is : place_of p ((grid_of p).place (i + 1)) ≡ Timed upper_time
  pub apart : (lower_time ≺ p.wanted) ≡ not (upper_time ≺ p.wanted)

-- All crossings, each given by the index of its lower place. `Pairs.listed` says that they are exactly the pairs of `IsCrossing`.
abbrev pub pairs_of : Problem → List ℕ
pairs_of p = crossings (sides_of p) (grid_of p) (last_place p)

-- The bracket of the pair of places i and i + 1 of the grid.
abbrev pub bracket_at : Problem → ℕ → Bracket
bracket_at p i = bracket_of (sides_of p) (grid_of p) i

-- The entry of the pair of places i and i + 1 of the grid.
abbrev pub entry_at : Problem → ℕ → Entry
entry_at p i = entry_for p (bracket_at p i)

-- The velocities in the entry of every crossing are finite.
abbrev pub FiniteAll : Problem → Type 0
FiniteAll p = (i : ℕ) → IsCrossing p i → entry_finite (entry_at p i) ≡ true

-- The entry of some crossing has a velocity that is not finite.
abbrev pub FiniteNot : Problem → Type 0
FiniteNot p = (i : ℕ) × (IsCrossing p i × (entry_finite (entry_at p i) ≡ false))

-- Every place of the grid has a time.
abbrev pub TimedAll : Problem → Type 0
TimedAll p = (i : ℕ) → i ≤ last_place p → (t : Float) × (place_of p ((grid_of p).place i) ≡ Timed t)

-- Some place of the grid is void.
abbrev pub VoidSome : Problem → Type 0
VoidSome p = (i : ℕ) × ((i ≤ last_place p) × ((reason : Reason) × (place_of p ((grid_of p).place i) ≡ Void reason)))

-- There is no crossing.
abbrev pub NonePair : Problem → Type 0
NonePair p = (i : ℕ) → IsCrossing p i → ⊥

-- The entry e has the chosen end and the velocities that 01 gives for the bracket r. Both ends of r have times, and the chosen end is the
-- one with the smaller |T − T*|, or the lower end on a tie.
pub record ChosenBy (p : Problem) (r : Bracket) (e : Entry) : Type 0 where
  pub lower_time : Float
  pub upper_time : Float
  pub lower_is : place_of p r.lower ≡ Timed lower_time
  pub upper_is : place_of p r.upper ≡ Timed upper_time
  pub chosen_is : e.chosen ≡ end_number (upper_chosen lower_time upper_time p.wanted)
  pub v1_is : e.v1 ≡ (velocities_at p (cond (upper_chosen lower_time upper_time p.wanted) r.upper r.lower)).v1
  pub v2_is : e.v2 ≡ (velocities_at p (cond (upper_chosen lower_time upper_time p.wanted) r.upper r.lower)).v2

-- What the list of crossings is, and the bracket and the entry of each crossing, for any problem.
pub record Pairs (p : Problem) : Type 0 where
  -- The list holds exactly the crossings, in rising x.
  pub listed : (i : ℕ) → Exactly (Listed i (pairs_of p)) (IsCrossing p i)
  pub rising : Rising (pairs_of p)
  pub neighbours : (i : ℕ) → (grid_of p).place (i + 1) ≡ (grid_of p).place i +ℤ pos (2 ^ (20 - (grid_of p).halvings i))
  -- The bracket of a crossing is the interval where the bisection of the pair ends. It is within the pair, its ends are on opposite
  -- sides, and its width is 1 or its middle is void.
  pub bracket : (i : ℕ) → IsCrossing p i →
      IsBracket (sides_of p) ((grid_of p).place i) ((grid_of p).place (i + 1)) ((grid_of p).halvings i) (bracket_at p i)
  -- The entry of a pair has the lower end and the halvings of its bracket.
  pub lower_end : (i : ℕ) → (entry_at p i).lower ≡ (bracket_at p i).lower
  pub halvings : (i : ℕ) → (entry_at p i).halvings ≡ (bracket_at p i).halvings
  -- The entry of a crossing has the chosen end and the velocities that 01 gives for its bracket.
  pub chosen : (i : ℕ) → IsCrossing p i → ChosenBy p (bracket_at p i) (entry_at p i)

-- The bytes of an answer with n entries: the buffer begins with the record, which has one entry for each crossing, the lowest first.
-- After the record the buffer keeps its old bytes.
pub record Answer (s b : List ℕ) (n : ℕ) : Type 0 where
  pub many : n ≡ length (pairs_of (problem_from s))
  pub bytes : (solve_of s b).buffer
      ≡ answer_bytes (problem_from s).job (problem_from s).revision (map (entry_at (problem_from s)) (pairs_of (problem_from s)))
      ++ drop (answer_size n) b
  pub entry : (e : ℕ) → e < n →
      take entry_size (drop (answer_size e) (solve_of s b).buffer)
      ≡ entry_bytes (entry_at (problem_from s) (get_or (pairs_of (problem_from s)) e 0))
  -- Reading the bytes gives the entry of each crossing.
  pub entry_bytes_read : (e : ℕ) → e < n →
      entry_of (drop (answer_size e) (solve_of s b).buffer) ≡ entry_at (problem_from s) (get_or (pairs_of (problem_from s)) e 0)
  -- Reading the head gives the question's job and revision, and n entries. This requires that s consists of bytes, which is true of every
  -- slice: numbers above 255 could form a job or a revision that does not fit in four bytes.
  pub head_read : AreBytes s → head_of (solve_of s b).buffer ≡ answer_head_of (question_of s).job (question_of s).revision n

-- What happens to a question past the entrance checks.
pub record Demand3 (s b : List ℕ) : Type 0 where
  pub domain : InDomain (problem_from s)
  pub pairs : Pairs (problem_from s)
  -- The question is answered exactly if there are one to eight crossings and every velocity is finite.
  pub accepted : Exactly (HasAnswer s b)
      ((1 ≤ length (pairs_of (problem_from s))) × (length (pairs_of (problem_from s)) ≤ 8) × FiniteAll (problem_from s))
  pub answer : (n : ℕ) → (solve_of s b).outcome ≡ Ok n → Answer s b n
  -- Number 11 (no transfer was found) is given exactly if every place of the grid has a time and there is no crossing.
  pub eleven : Exactly (IsRefused s b 11) (TimedAll (problem_from s) × NonePair (problem_from s))
  -- Any other refusal is 12, 13 or 14, each exactly if 01's table says so.
  pub twelve : Exactly (IsRefused s b 12) (VoidSome (problem_from s) × NonePair (problem_from s))
  -- Number 12 comes with the first void station: it is void for the reason that comes with it, and every lower station has a time. No
  -- other number comes with a station.
  pub station : IsRefused s b 12 → (v : VoidStation) × ((solve_of s b).outcome ≡ Err (StationVoid v))
  pub first_void : (v : VoidStation) → (solve_of s b).outcome ≡ Err (StationVoid v) →
      IsRefused s b 12 × IsFirstVoidStation (search_of (problem_from s)) v
  pub thirteen : Exactly (IsRefused s b 13) (8 < length (pairs_of (problem_from s)))
  pub fourteen : Exactly (IsRefused s b 14)
      ((1 ≤ length (pairs_of (problem_from s))) × (length (pairs_of (problem_from s)) ≤ 8) × FiniteNot (problem_from s))
  pub no_other : (n : ℕ) → IsRefused s b n → (n ≡ 11) ⊎ ((n ≡ 12) ⊎ ((n ≡ 13) ⊎ (n ≡ 14)))

-- ---- the record of a question

-- What the record of number 12 says.
abbrev pub void_refusal : List ℕ → VoidStation → Refusal
void_refusal s v = record {
  job = job_of s;
  revision = revision_of s;
  number = 12;
  station = v.j;
  reason = reason_number v.reason;
}

-- How the record of a question, and what the buffer then holds, follow from the outcome of `solve_of`. `Demanded` states this for a buffer
-- with room for the longest answer.
pub record Recording (s b : List ℕ) : Type 0 where
  pub answered : (n : ℕ) → (solve_of s b).outcome ≡ Ok n →
      ((output_of s b).size ≡ answer_size n) × ((output_of s b).buffer ≡ (solve_of s b).buffer)
  -- A refusal without a station has a number other than 12, and its record is the head alone. It names the question's job and revision, or
  -- 0 for both with number 1.
  pub refused : (cause : Cause) → (solve_of s b).outcome ≡ Err cause → ((v : VoidStation) → cause ≡ StationVoid v → ⊥) →
      let n = cause_number cause in
      let r = cond (eqb n 1) (refusal_with 0 0 n) (refusal_with (job_of s) (revision_of s) n) in
      (n ≡ void_number → ⊥) × ((output_of s b).size ≡ head_size) × ((output_of s b).buffer ≡ refusal_bytes r ++ drop head_size b)
  -- The record of number 12 has the question's job and revision, the j of the station, and the number of the reason, and reading it gives
  -- them back. The latter requires that s consists of bytes.
  pub void : (v : VoidStation) → (solve_of s b).outcome ≡ Err (StationVoid v) →
      ((output_of s b).size ≡ void_refusal_size) × ((output_of s b).buffer ≡ refusal_bytes (void_refusal s v) ++ drop void_refusal_size b)
  pub void_read : (v : VoidStation) → (solve_of s b).outcome ≡ Err (StationVoid v) → AreBytes s →
      refusal_of (output_of s b).buffer ≡ void_refusal s v
  -- The record is at the buffer's start, fits in the room for the longest answer, and depends on the question's bytes alone.
  pub size : (output_of s b).size ≡ length (record_of s)
  pub fits : length (record_of s) ≤ answer_room
  pub starts : take (length (record_of s)) (output_of s b).buffer ≡ record_of s
  -- A second call with the buffer that the first call left gives the same outcome and leaves the same bytes.
  pub again : solve_of s (solve_of s b).buffer ≡ solve_of s b

-- ---- the whole demand

-- The whole demand: demand 1 for every question and every buffer, demand 3 for a question past the entrance checks, and the record of a
-- question for a buffer with room for the longest answer.
pub record Demanded : Type 0 where
  pub first : (s b : List ℕ) → Demand1 s b
  pub third : (s b : List ℕ) → Past s (length b) → Demand3 s b
  pub recorded : (s b : List ℕ) → answer_room ≤ length b → Recording s b
