-- Questions that the prover judges by computation, in addition to 01's worked cases. Each row of the table has the
-- bytes of a question, the answer buffer's size, and the number given, which is 0 if the question is accepted. One
-- statement covers the whole table (`each_row_holds`).
use mathlib.Core.Path.{◌≡◌, refl}
use mathlib.Core.List.{List, [], ◌∷◌, ◌++◌, map}
use Prim.Native.Nat.{ℕ, ◌-◌}
use lib.Ieee.{add, sub, mul, div, neg, lt, le, eq, of_bits, to_bits}
use Rattle.std.specs.Prelude.{Result, Ok, Err}
use Rattle.float64.specs.Value.{finite_of, magnitude_of}
use Rattle.float64.specs.Root.{root_of}
use Rattle.float64.specs.declared.Vector.{Vector}
use Rattle.vectors.specs.Vectors.{norm_squared, difference, cross, or_nan, root_or_nan}
use Rattle.geometry.specs.Triangles.{semiperimeter_of, at_least_zero, lambda_of, triangle_of, shape_of}
use Rattle.geometry.specs.Conditions.{outside_of, radius_outside, no_plane, short_chord, flat_triangle}
use Rattle.little_endian.specs.Bytes.{bytes_of, number_at}
use Rattle.records.specs.Layout.{answer_room, encode, question_fields}
use Rattle.records.specs.Records.{question_of, question_bytes}
use Rattle.entrance.specs.Conditions.{malformed, far_off, position_far, positions_far, mu_outside, time_outside, many_revolutions}
use Rattle.entrance.specs.Conditions.{small_buffer}
use Rattle.entrance.specs.declared.Problem.{Problem}
use Rattle.entrance.specs.declared.Fault.{Fault}
use Rattle.entrance.specs.Judge.{checks, first_of, fault_number, judge_of}
use Rattle.closed_case_laws.specs.Given.{HALF, ONE, TWO, flat, asked}

-- ---- further numbers, as bits
-- TINY is 2 ^ -11, P20 is 2 ^ 20 and so on, and P40_next is the next f64 above 2 ^ 40.
abbrev TINY : ℕ
TINY = 0x3F40_0000_0000_0000

abbrev P20 : ℕ
P20 = 0x4130_0000_0000_0000

abbrev P39 : ℕ
P39 = 0x4260_0000_0000_0000

abbrev P40 : ℕ
P40 = 0x4270_0000_0000_0000

abbrev P40_next : ℕ
P40_next = 0x4270_0000_0000_0001

abbrev P60 : ℕ
P60 = 0x43B0_0000_0000_0000

abbrev P60_next : ℕ
P60_next = 0x43B0_0000_0000_0001

abbrev INFINITY : ℕ
INFINITY = 0x7FF0_0000_0000_0000

abbrev NAN : ℕ
NAN = 0x7FF8_0000_0000_0000

-- 01's worked question, and the same question with other positions, mu, time or M.
worked : List ℕ
worked = asked 7 1 0 0 (flat ONE 0) (flat 0 ONE) ONE ONE

from : Vector → Vector → List ℕ
from p1 p2 = asked 7 1 0 0 p1 p2 ONE ONE

with_mu : ℕ → List ℕ
with_mu mu = asked 7 1 0 0 (flat ONE 0) (flat 0 ONE) mu ONE

with_time : ℕ → List ℕ
with_time time = asked 7 1 0 0 (flat ONE 0) (flat 0 ONE) ONE time

with_revolutions_lem : ℕ → List ℕ
with_revolutions_lem m = asked 7 m 0 0 (flat ONE 0) (flat 0 ONE) ONE ONE

pub record Row : Type 0 where
  pub question : List ℕ
  pub room : ℕ
  pub number : ℕ

row : List ℕ → ℕ → ℕ → Row
row s room n = record { question = s; room = room; number = n }

pub given : Result Problem Fault → ℕ
given (Err f) = fault_number f
given (Ok p) = 0

pub rows : List Row
rows =
    row worked answer_room 0
    ∷ row [] answer_room 1
    ∷ row (worked ++ (0 ∷ [])) answer_room 1
    ∷ row (asked 7 1 1 0 (flat ONE 0) (flat 0 ONE) ONE ONE) answer_room 0
    ∷ row (asked 7 1 2 0 (flat ONE 0) (flat 0 ONE) ONE ONE) answer_room 1
    ∷ row (asked 7 1 0 1 (flat ONE 0) (flat 0 ONE) ONE ONE) answer_room 1
    ∷ row (from (flat NAN 0) (flat 0 ONE)) answer_room 2
    ∷ row (from (flat ONE 0) (flat 0 INFINITY)) answer_room 2
    ∷ row (from (flat P40 0) (flat 0 P40)) answer_room 0
    ∷ row (from (flat P40_next 0) (flat 0 P40)) answer_room 2
    ∷ row (from (flat ONE 0) (flat 0 HALF)) answer_room 3
    ∷ row (with_mu P60) answer_room 0
    ∷ row (with_mu P60_next) answer_room 4
    ∷ row (with_time HALF) answer_room 5
    ∷ row (with_time P40) answer_room 0
    ∷ row (with_time P40_next) answer_room 5
    ∷ row (with_revolutions_lem 16) answer_room 0
    ∷ row (with_revolutions_lem 17) 0 6
    ∷ row worked (answer_room - 1) 7
    ∷ row (from (flat ONE ONE) (flat ONE ONE)) answer_room 8
    ∷ row (from (flat ONE ONE) (flat TWO TWO)) answer_room 8
    ∷ row (from (flat ONE 0) (flat ONE TINY)) answer_room 9
    ∷ row (from (flat ONE 0) (flat P39 P20)) answer_room 10
    ∷ []

pub each_row_holds : map (λ (r : Row). given (judge_of r.question r.room)) rows ≡ map (λ (r : Row). r.number) rows
unfolding rows row asked worked from with_mu with_time with_revolutions_lem given judge_of checks first_of malformed far_off position_far
    positions_far mu_outside time_outside many_revolutions small_buffer question_of question_bytes encode question_fields bytes_of number_at
    outside_of radius_outside no_plane short_chord flat_triangle shape_of triangle_of semiperimeter_of lambda_of at_least_zero or_nan
    root_or_nan
    norm_squared difference cross root_of finite_of magnitude_of add sub mul div neg lt le eq of_bits to_bits
each_row_holds = refl
