-- The number of a reason is at most 4 (`number_most`), by cases.
use Prim.Native.Nat.{◌≤◌}
use native.Mathlib.Omega.{arith}
use Rattle.hypergeometric.specs.Reasons.{reason_number}
use Rattle.hypergeometric.specs.declared.reasons.Reason.{Reason}
use Rattle.hypergeometric.specs.declared.reasons.Reason.TheVariants.{OutsideRange, RefusedRoot, ZeroDivisor, NotFinite}

pub number_most : (reason : Reason) → reason_number reason ≤ 4
unfolding reason_number
number_most OutsideRange = omega arith
number_most RefusedRoot = omega arith
number_most ZeroDivisor = omega arith
number_most NotFinite = omega arith
