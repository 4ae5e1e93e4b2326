-- The numbers of the reasons why a place is void (02, A4). Definitions only.
use Rattle.std.specs.Prelude.{ℕ}
use Rattle.hypergeometric.specs.declared.reasons.Reason.{Reason}
use Rattle.hypergeometric.specs.declared.reasons.Reason.TheVariants.{OutsideRange, RefusedRoot, ZeroDivisor, NotFinite}

unfoldable pub reason_number : Reason → ℕ
reason_number OutsideRange = 1
reason_number RefusedRoot = 2
reason_number ZeroDivisor = 3
reason_number NotFinite = 4
