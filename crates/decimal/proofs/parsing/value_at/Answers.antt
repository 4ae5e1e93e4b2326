-- `parsing::value_at` meets its contract. The loop's invariant: the value is the number that the bytes so far show, and it is below
-- 2 * 10 ^ i after i bytes.
use native.Mathlib.Omega.{arith}
use mathlib.Core.Path.{◌≡◌, refl, ◌∙◌}
use Prim.Native.Nat.{◌<◌}
use lib.Dec.{lit≤}
use Rattle.decimal.specs.Texts.{value_at}
use Rattle.decimal.proofs.Digits.{most, one_more, bounded, byte_at, many_bytes}
use Rattle.decimal.proofs.parsing.value_at.Goals as goal
use Rattle.decimal.proofs.parsing.value_at.Goals.{In-loop-b}

pub loop-b-init : goal.loop-b-init
unfolding value_at
loop-b-init c = (refl, lit≤ tt)

-- The slice has k bytes.
few : (c : In-loop-b) → c.loop-b.b-index < c.args.k
few c = rw (← many_bytes c.args.s.now c.args.at c.args.k c.requires.0) c.loop-b-test.true

pub overflow_mul-value : goal.overflow_mul-value
overflow_mul-value c = omega (arith, most c.loop-b.b-index (omega (arith, few (goal.at.overflow_mul-value c).In-loop-b)))

pub overflow_add-value : goal.overflow_add-value
overflow_add-value c = omega (arith, most c.loop-b.b-index (omega (arith, few (goal.at.overflow_add-value c).In-loop-b)))

pub loop-b-preserved : goal.loop-b-preserved
loop-b-preserved c =
    let l = c.loop-b in
    let a = c.args in
    let i = l.b-index in
    let byte = c.from.ensures ∙ byte_at a.s.now a.at a.k i (few (goal.at.loop-b-preserved c).In-loop-b) in
    (one_more a.s.now a.at i l.value c.from.result l.invariant.0 byte, bounded i l.value c.from.result l.invariant.1)

pub returns : goal.returns
returns c =
    let many = many_bytes c.args.s.now c.args.at c.args.k c.requires.0 in
    let end : c.loop-b.b-index ≡ c.args.k = omega arith in
    rw (← end) c.loop-b.invariant.0
