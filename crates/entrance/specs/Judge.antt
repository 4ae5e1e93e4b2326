-- The verdict on a question's bytes and the answer buffer's size: the fault of the first check that applies, or the
-- problem to solve (01, Numbers of refusal). Definitions only.
use Rattle.std.specs.Prelude.{ℕ, Bool, cond, List, [], ◌∷◌, eqb, length, Option, Some, None, Result, Ok, Err}
use Rattle.geometry.specs.Triangles.{shape_of, frame_of, wanted_of}
use Rattle.geometry.specs.Conditions.{radius_outside, no_plane, short_chord, flat_triangle}
use Rattle.geometry.specs.declared.Shape.{Shape}
use Rattle.records.specs.Records.{question_of}
use Rattle.records.specs.declared.Question.{Question}
use Rattle.entrance.specs.Conditions.{malformed, positions_far, mu_outside, time_outside, many_revolutions, small_buffer}
use Rattle.entrance.specs.declared.Problem.{Problem}
use Rattle.entrance.specs.declared.Fault.{Fault}
use Rattle.entrance.specs.declared.Fault.TheVariants.{Malformed, PositionFar, RadiusOutside, MuOutside, TimeOutside}
use Rattle.entrance.specs.declared.Fault.TheVariants.{ManyRevolutions, SmallBuffer, NoPlane, ShortChord, FlatTriangle}

-- The number of each fault in 01's table.
abbrev pub fault_number : Fault → ℕ
fault_number Malformed = 1
fault_number PositionFar = 2
fault_number RadiusOutside = 3
fault_number MuOutside = 4
fault_number TimeOutside = 5
fault_number ManyRevolutions = 6
fault_number SmallBuffer = 7
fault_number NoPlane = 8
fault_number ShortChord = 9
fault_number FlatTriangle = 10

-- A row of 01's table: what is wrong if its condition holds, and whether it holds.
pub record Check (F : Type 0) : Type 0 where
  pub fault : F
  pub applies : Bool

abbrev pub check : {F : Type 0} → F → Bool → Check F
check f b = record { fault = f; applies = b }

-- Whether the question asks for the long way, which is way 1.
abbrev pub is_long_way : Question → Bool
is_long_way q = eqb q.way 1

-- The entrance checks, in the order of the table.
unfoldable pub checks : ℕ → ℕ → Question → Shape → List (Check Fault)
checks size room q g =
    check Malformed (malformed size q)
    ∷ check PositionFar (positions_far q)
    ∷ check RadiusOutside (radius_outside g)
    ∷ check MuOutside (mu_outside q)
    ∷ check TimeOutside (time_outside q)
    ∷ check ManyRevolutions (many_revolutions q)
    ∷ check SmallBuffer (small_buffer room)
    ∷ check NoPlane (no_plane g)
    ∷ check ShortChord (short_chord g.triangle)
    ∷ check FlatTriangle (flat_triangle g.triangle)
    ∷ []

-- The fault of the first check that applies, if there is one.
unfoldable pub first_of : {F : Type 0} → List (Check F) → Option F
first_of [] = None
first_of (c ∷ cs) = cond c.applies (Some c.fault) (first_of cs)

-- A fault as an error, or the given value if there is no fault.
abbrev pub unless : {F A : Type 0} → Option F → A → Result A F
unless None x = Ok x
unless (Some f) x = Err f

-- The problem that is left to solve if no check applies.
unfoldable pub problem_of : Question → Shape → Problem
problem_of q g = record {
  job = q.job;
  revision = q.revision;
  revolutions = q.revolutions;
  long_way = is_long_way q;
  mu = q.mu;
  triangle = g.triangle;
  radius1 = g.radius1;
  radius2 = g.radius2;
  frame = frame_of q.r1 q.r2 g (is_long_way q);
  wanted = wanted_of q.mu g.triangle.semiperimeter q.time;
}

-- The verdict on the bytes of a question, for an answer buffer of `room` bytes.
unfoldable pub judge_of : List ℕ → ℕ → Result Problem Fault
judge_of s room =
    let q = question_of s in
    let g = shape_of q.r1 q.r2 (is_long_way q) in
    unless (first_of (checks (length s) room q g)) (problem_of q g)
