-- `bytes::number_at` meets its contract. The loop invariant is that `value` is the number stored in the bytes read so far,
-- which are the highest ones, and that it fits in that many bytes.
use Prim.Native.Nat.{◌-◌}
use mathlib.Core.Path.{◌≡◌, ◌∙◌}
use native.Mathlib.Nat.{sub_self, sub-zero, add-zero}
use native.Mathlib.Omega.{arith}
use Rattle.little_endian.specs.Bytes.{number_at}
use Rattle.little_endian.proofs.Numbers.{within, more, more_lt}
use Rattle.little_endian.proofs.bytes.number_at.Goals as goal

pub loop-i-init : goal.loop-i-init
unfolding number_at
loop-i-init c = (rw sub_self, rw sub_self (omega arith))

pub overflow_mul-value : goal.overflow_mul-value
overflow_mul-value c =
    let l = c.loop-i in
    omega (arith, within (c.args.width - l.i) l.value (omega (arith, c.requires, c.loop-i-test.true)) l.invariant.1)

pub overflow_add-value : goal.overflow_add-value
overflow_add-value c =
    let l = c.loop-i in
    let small = within (c.args.width - l.i) l.value (omega (arith, c.requires, c.loop-i-test.true)) l.invariant.1 in
    omega (arith, c.byte_at.ensures.bound, small)

pub loop-i-preserved : goal.loop-i-preserved
loop-i-preserved c =
    let l = c.loop-i in
    let a = c.args in
    let byte = c.byte_at in
    let some = c.loop-i-test.true in
    let number = more a.s.now a.at a.width l.i l.value byte.result some l.auto.i byte.ensures.byte l.invariant.0 in
    (number, more_lt a.width l.i l.value byte.result some l.auto.i l.invariant.1 byte.ensures.bound)

pub returns : goal.returns
returns c =
    let none : c.loop-i.i ≡ 0 = omega arith in
    record { number = c.loop-i.invariant.0 ∙ rw (none, sub-zero, add-zero); bound = rw (none, sub-zero) at c.loop-i.invariant.1 }
