-- `bytes::is_zero` meets its contract. The loop invariant: the result so far is `is_zero` of the bytes so far.
use mathlib.Core.Path.{refl, sym, ap, ◌∙◌}
use mathlib.Core.Bool.{Bool, ◌&&◌}
use native.Mathlib.Omega.{arith}
use lib.Dec.{eqb}
use lib.ListN.{get_or}
use Rattle.std.proofs.lemmas.List.Folds.{list_all_more}
use Rattle.slots.specs.Slots.{is_zero}
use Rattle.slots.proofs.bytes.is_zero.Goals as goal

pub loop-byte-init : goal.loop-byte-init
unfolding is_zero
loop-byte-init c = refl

pub loop-byte-preserved : goal.loop-byte-preserved
unfolding is_zero
loop-byte-preserved c =
    let l = c.loop-byte in
    let s = c.args.s.now in
    ap (λ (zero : Bool). zero && eqb (get_or s l.byte-index 0) 0) l.invariant
    ∙ sym (list_all_more (λ b. eqb b 0) s l.byte-index 0 (omega (arith, c.loop-byte-test.true)))
