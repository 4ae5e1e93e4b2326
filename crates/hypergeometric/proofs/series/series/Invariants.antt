-- `series::series` meets its contract. The loop invariant is that n is at most 16 and that applying the n remaining
-- terms to g gives the whole series. The measure is n, the number of remaining terms.
use Prim.Native.Nat.{◌≤◌}
use mathlib.Core.Path.{◌≡◌}
use Rattle.hypergeometric.specs.Steps.{series_from, series_of}
use Rattle.hypergeometric.proofs.series.series.Given as goal

abbrev pub invariant-loop-n : goal.invariant-loop-n
invariant-loop-n l = (l.n ≤ 16) × (series_from l.z l.n l.g ≡ series_of l.z)

abbrev pub decreases-loop-n : goal.decreases-loop-n
decreases-loop-n l = l.n
