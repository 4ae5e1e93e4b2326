-- `bytes::put_number` meets its contract. The loop invariant is that storing the rest of the number from the current offset
-- on completes what the function has to store.
use Prim.Native.Nat.{suc, ◌+◌, ◌-◌}
use mathlib.Core.Path.{◌≡◌}
use native.Mathlib.Omega.{arith}
use lib.ListN.{length-set}
use Rattle.little_endian.specs.Bytes.{bytes_of}
use Rattle.little_endian.proofs.bytes.put_number.Goals as goal

pub loop-i-preserved : goal.loop-i-preserved
unfolding bytes_of
loop-i-preserved c =
    let w = c.args.width in
    let i = c.loop-i.i in
    let at = c.args.at in
    let s : w - i ≡ suc (w - (i + 1)) = omega arith in
    let e : at + (i + 1) ≡ suc (at + i) = omega arith in
    (simp length-set c.loop-i.invariant.0, rw e (rw s at c.loop-i.invariant.1))

pub returns : goal.returns
unfolding bytes_of
returns c =
    let s : c.args.width - c.loop-i.i ≡ 0 = omega arith in
    rw s at c.loop-i.invariant.1
