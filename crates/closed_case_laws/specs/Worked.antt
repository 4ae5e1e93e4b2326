-- 01's worked cases in one table: four roots, the two exact times, two void places, and six refusals that are computed
-- from the bytes of a question. Definitions only.
use Rattle.std.specs.Prelude.{ℕ, ◌^◌, List, [], ◌∷◌, ℤ, pos, take, replicate, Float, Option, Some, None}
use Rattle.float64.specs.Notation.{bits}
use Rattle.float64.specs.Root.{root_of}
use Rattle.float64.specs.declared.Vector.{Vector}
use Rattle.flight_time.specs.Time.{time_of}
use Rattle.hypergeometric.specs.declared.reasons.Reason.TheVariants.{OutsideRange}
use Rattle.flight_time.specs.declared.Place.{Place}
use Rattle.flight_time.specs.declared.Place.TheVariants.{Timed, Void}
use Rattle.records.specs.Layout.{answer_room}
use Rattle.solver.specs.Solve.{solve_of, outcome_number}
use Rattle.closed_case_laws.specs.Given.{HALF, ONE, TWO, flat, asked, with_lambda}

-- What a case asks for: a root, given the bits of the operand; the time at a place, given the bits of L, k and M; or
-- the refusal number of a question, given its bytes.
pub data Case : Type 0 where
  root : ℕ → Case
  time : ℕ → ℤ → ℕ → Case
  question : List ℕ → Case

-- The result of a case: a root, a place, or the number of a refusal, which is 0 for an answer.
pub data Result : Type 0 where
  a_root : Option Float → Result
  a_place : Place → Result
  a_number : ℕ → Result

-- The result that the definitions give for a case.
unfoldable pub result_of : Case → Result
result_of (root b) = a_root (root_of (bits b))
result_of (time L k m) = a_place (time_of (with_lambda L) k m)
result_of (question s) = a_number (outcome_number (solve_of s (replicate answer_room 0)).outcome)

-- The bytes of a question that is like 01's worked question, with the given job, M, positions and mu.
unfoldable pub like : ℕ → ℕ → Vector → Vector → ℕ → List ℕ
like job m p1 p2 mu = asked job m 0 0 p1 p2 mu ONE

-- A case with its expected result.
pub record Row : Type 0 where
  pub case : Case
  pub result : Result

infix 1 ◌gives◌
abbrev pub ◌gives◌ : Case → Result → Row
c gives r = record { case = c; result = r }

unfoldable pub rows : List Row
rows =
    -- Roots of 4, 0.25, 2 and −1.
    (root 0x4010_0000_0000_0000 gives a_root (Some (bits TWO)))
    ∷ (root 0x3FD0_0000_0000_0000 gives a_root (Some (bits HALF)))
    ∷ (root TWO gives a_root (Some (bits 0x3FF6_A09E_667F_3BCD)))
    ∷ (root 0xBFF0_0000_0000_0000 gives a_root None)
    -- The two exact times: L = 0 and L = −1/2 at x = 1.
    ∷ (time 0 (pos (2 ^ 32)) 0 gives a_place (Timed (bits 0x3FE5_5555_5555_5555)))
    ∷ (time 0xBFE0_0000_0000_0000 (pos (2 ^ 32)) 0 gives a_place (Timed (bits 0x3FE8_0000_0000_0000)))
    -- Void places: L = 0, M = 1 at x = 1, and L = 1.
    ∷ (time 0 (pos (2 ^ 32)) 1 gives a_place (Void OutsideRange))
    ∷ (time ONE (pos 0) 0 gives a_place (Void OutsideRange))
    -- Refusals: size 81, job 0, radius 0.5, M = 17, mu 0.5, r2 = 2·r1.
    ∷ (question (take 81 (like 7 1 (flat ONE 0) (flat 0 ONE) ONE)) gives a_number 1)
    ∷ (question (like 0 1 (flat ONE 0) (flat 0 ONE) ONE) gives a_number 1)
    ∷ (question (like 7 1 (flat HALF 0) (flat 0 ONE) ONE) gives a_number 3)
    ∷ (question (like 7 17 (flat ONE 0) (flat 0 ONE) ONE) gives a_number 6)
    ∷ (question (like 7 1 (flat ONE 0) (flat 0 ONE) HALF) gives a_number 4)
    ∷ (question (like 7 1 (flat ONE 0) (flat TWO 0) ONE) gives a_number 8)
    ∷ []
