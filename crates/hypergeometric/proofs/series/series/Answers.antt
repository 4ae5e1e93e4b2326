-- `series::series` meets its contract. The loop invariant is that n is at most 16 and that applying the n remaining
-- terms to g gives the whole series. The measure is n, the number of remaining terms.
use Prim.Native.Nat.{◌-◌, suc}
use mathlib.Core.Path.{◌≡◌, refl}
use native.Mathlib.Omega.{arith}
use Rattle.hypergeometric.specs.Steps.{series_from, series_of}
use Rattle.hypergeometric.proofs.series.series.Goals as goal

pub loop-n-init : goal.loop-n-init
unfolding series_of
loop-n-init c = (omega arith, refl)

pub loop-n-preserved : goal.loop-n-preserved
unfolding series_from
loop-n-preserved c =
    let n = c.loop-n.n in
    let s : suc (n - 1) ≡ n = omega arith in
    (omega arith, rw c.ratio.ensures (rw (← s) at c.loop-n.invariant.1))

pub returns : goal.returns
unfolding series_from
returns c = let z : c.loop-n.n ≡ 0 = omega arith in rw z at c.loop-n.invariant.1
