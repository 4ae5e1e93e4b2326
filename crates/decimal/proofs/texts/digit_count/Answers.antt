-- `digit_count` meets its contract. The loop's invariant: the digits that are needed are those that are needed from `count` on.
use mathlib.Core.Path.{◌≡◌, refl, sym, ap, ◌∙◌}
use Prim.Native.Nat.{ℕ, ◌-◌}
use native.Mathlib.Omega.{arith}
use Rattle.decimal.specs.Texts.{digit_count_from, digit_count}
use Rattle.decimal.proofs.Digits.{enough, more_needed}
use Rattle.decimal.proofs.texts.digit_count.Goals as goal

pub loop-count-init : goal.loop-count-init
unfolding digit_count
loop-count-init c = (omega arith, omega arith, refl)

pub returns-then-n-pow : goal.returns-then-n-pow
returns-then-n-pow c =
    let count = c.loop-count.count in
    let needed = enough count c.args.n (omega arith) (rw c.pow.ensures at c.if-n-pow.true) in
    (sym (c.loop-count.invariant.2 ∙ needed), omega arith, omega arith)

pub loop-count-preserved : goal.loop-count-preserved
loop-count-preserved c =
    let count = c.loop-count.count in
    let more = more_needed count c.args.n (omega arith) (rw c.pow.ensures at c.if-n-pow.false) in
    (omega arith, omega arith, c.loop-count.invariant.2 ∙ more)

pub returns : goal.returns
unfolding digit_count_from
returns c =
    let seven : c.loop-count.count ≡ 7 = omega arith in
    let needed = c.loop-count.invariant.2 ∙ ap (λ (p : ℕ). digit_count_from (7 - p) p c.args.n) seven in
    (sym needed, omega arith, omega arith)
