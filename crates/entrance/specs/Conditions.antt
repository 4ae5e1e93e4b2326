-- The conditions of checks 1, 2, 4, 5, 6 and 7 (01, Numbers of refusal). Those of checks 3, 8, 9 and 10 are in the
-- crate `geometry`. Definitions only.
use Rattle.std.specs.Prelude.{ℕ, Bool, not, ◌||◌, eqb, ltb, Float}
use Rattle.float64.specs.Notation.{◌≺◌, bits, 1F}
use Rattle.float64.specs.Value.{finite_of, magnitude_of}
use Rattle.float64.specs.declared.Vector.{Vector}
use Rattle.geometry.specs.Conditions.{outside_of, 2^40F}
use Rattle.records.specs.Layout.{question_kind, question_size, question_length, answer_room}
use Rattle.records.specs.declared.Question.{Question}

-- The f64 2^60.
abbrev pub 2^60F : Float
2^60F = bits 0x43B0_0000_0000_0000

-- The largest number M of whole revolutions that check 6 accepts.
abbrev pub most_revolutions : ℕ
most_revolutions = 16

-- Check 1: the size is not 82, the length is not 78, the kind is not 1, the job is 0, the way is above 1, or the spare
-- byte is not 0.
unfoldable pub malformed : ℕ → Question → Bool
malformed size q =
    not (eqb size question_size)
    || (not (eqb q.length question_length)
    || (not (eqb q.kind question_kind)
    || (eqb q.job 0
    || (ltb 1 q.way
    || not (eqb q.spare 0)))))

-- Whether a number is not finite or exceeds 2^40 in magnitude.
unfoldable pub far_off : Float → Bool
far_off x = not (finite_of x) || (2^40F ≺ magnitude_of x)

-- Whether a position has a component that is not finite or exceeds 2^40 in magnitude.
unfoldable pub position_far : Vector → Bool
position_far v = far_off v.x || (far_off v.y || far_off v.z)

-- Check 2: a component of a position is not finite or exceeds 2^40 in magnitude.
unfoldable pub positions_far : Question → Bool
positions_far q = position_far q.r1 || position_far q.r2

-- Check 4: mu is not finite, is below 1, or is above 2^60.
unfoldable pub mu_outside : Question → Bool
mu_outside q = outside_of 1F 2^60F q.mu

-- Check 5: the time is not finite, is below 1, or is above 2^40.
unfoldable pub time_outside : Question → Bool
time_outside q = outside_of 1F 2^40F q.time

-- Check 6: the number M of whole revolutions is above 16.
unfoldable pub many_revolutions : Question → Bool
many_revolutions q = ltb most_revolutions q.revolutions

-- Check 7: the answer buffer has no room for the longest answer.
unfoldable pub small_buffer : ℕ → Bool
small_buffer room = ltb room answer_room
