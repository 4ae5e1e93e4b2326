-- The outcome of a call of `solve` as one word, for hosts in other languages. Definitions only.
use Rattle.std.specs.Prelude.{Result, Ok, Err}
use Rattle.std.specs.Prelude.{ℕ, ◌+◌, ◌*◌, ◌^◌}
use Rattle.little_endian.specs.Bytes.{signed32_bits}
use Rattle.hypergeometric.specs.Reasons.{reason_number}
use Rattle.records.specs.Layout.{void_number}
use Rattle.sweep.specs.declared.walks.VoidStation.{VoidStation}
use Rattle.solver.specs.declared.Cause.{Cause}
use Rattle.solver.specs.declared.Cause.TheVariants.{StationVoid}
use Rattle.solver.specs.Table.{cause_number}

-- The word for refusal 12: its number in bits 0 to 15, the number of the reason why the first void station is void in bits 16 to 31, and
-- the j of this station in two's complement in bits 32 to 63.
abbrev pub void_word : VoidStation → ℕ
void_word station = void_number + 2 ^ 16 * reason_number station.reason + 2 ^ 32 * signed32_bits station.j

-- The word for an outcome: 0 for an answer, and the number of any other refusal.
abbrev pub outcome_word : Result ℕ Cause → ℕ
outcome_word (Ok n) = 0
outcome_word (Err (StationVoid station)) = void_word station
outcome_word (Err cause) = cause_number cause
