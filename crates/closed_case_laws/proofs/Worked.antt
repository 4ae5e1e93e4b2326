-- The prover computes 01's worked cases, in one statement over the whole table (`each_row_holds`). 01's worked question
-- passes the entrance checks (`worked_past`).
use mathlib.Core.Path.{◌≡◌, refl}
use mathlib.Core.List.{List, map}
use Prim.Native.Nat.{ℕ}
use lib.Ieee.{add, sub, mul, div, round, units, odd, size, neg, lt, le, eq, of_bits, of_int, to_bits}
use lib.ListN.{length}
use Rattle.std.specs.Prelude.{None}
use Rattle.float64.specs.Value.{finite_of, magnitude_of}
use Rattle.float64.specs.Root.{root_of}
use Rattle.vectors.specs.Vectors.{norm_squared, difference, cross, or_nan, root_or_nan}
use Rattle.geometry.specs.Triangles.{semiperimeter_of, at_least_zero, lambda_of, triangle_of, shape_of}
use Rattle.geometry.specs.Conditions.{outside_of, radius_outside, no_plane, short_chord, flat_triangle}
use Rattle.little_endian.specs.Bytes.{bytes_of, number_at}
use Rattle.records.specs.Layout.{answer_room, encode, question_fields}
use Rattle.records.specs.Records.{question_of, question_bytes}
use Rattle.entrance.specs.Conditions.{malformed, far_off, position_far, positions_far, mu_outside, time_outside, many_revolutions}
use Rattle.entrance.specs.Conditions.{small_buffer}
use Rattle.entrance.specs.Judge.{checks, is_long_way, first_of, judge_of}
use Rattle.entrance.proofs.Table.{accepted_exactly, accepted_when}
use Rattle.closed_case_laws.specs.Given.{ONE, flat, asked, with_lambda}
use Rattle.closed_case_laws.specs.Worked.{Row, result_of, like, rows}
use Rattle.hypergeometric.specs.Steps.{y_of, eta_of, c1_of, next_c, half_angles_of, ratio_of, series_from, series_of, s4_of, back_of}
use Rattle.hypergeometric.specs.Steps.{g_of}
use Rattle.flight_time.specs.Steps.{outside_range, x_of, u_of, direct_of, with_revolutions}
use Rattle.flight_time.specs.Time.{steps_of, time_of}
use Rattle.solver.specs.Solve.{solve_of}
use Rattle.demand_laws.specs.Demand.{Past}

pub each_row_holds : map (λ (r : Row). result_of r.case) rows ≡ map (λ (r : Row). r.result) rows
unfolding rows result_of with_lambda like asked solve_of judge_of checks first_of malformed far_off position_far positions_far mu_outside
    time_outside many_revolutions small_buffer outside_of radius_outside no_plane short_chord flat_triangle semiperimeter_of at_least_zero
    lambda_of triangle_of shape_of norm_squared difference cross or_nan root_or_nan question_of question_bytes encode question_fields
    bytes_of
    number_at root_of magnitude_of finite_of time_of steps_of outside_range x_of u_of y_of eta_of c1_of next_c half_angles_of ratio_of
    series_from
    series_of s4_of
    back_of g_of direct_of with_revolutions add sub mul div round units odd size neg lt le eq of_bits of_int to_bits
each_row_holds = refl

-- 01's worked question. It passes the entrance checks, so the theorems about questions that pass them do not hold
-- vacuously.
pub worked : List ℕ
worked = like 7 1 (flat ONE 0) (flat 0 ONE) ONE

no_fault : first_of (let q = question_of worked in checks (length worked) answer_room q (shape_of q.r1 q.r2 (is_long_way q))) ≡ None
unfolding worked like asked checks first_of malformed far_off position_far positions_far mu_outside time_outside many_revolutions
    small_buffer
    outside_of radius_outside no_plane short_chord flat_triangle semiperimeter_of at_least_zero lambda_of triangle_of shape_of
    norm_squared
    difference cross or_nan root_or_nan question_of question_bytes encode question_fields bytes_of number_at root_of magnitude_of
    finite_of add
    sub mul div neg lt le eq of_bits to_bits
no_fault = refl

pub worked_past : Past worked answer_room
worked_past = (accepted_exactly worked answer_room).only (accepted_when worked answer_room no_fault)
