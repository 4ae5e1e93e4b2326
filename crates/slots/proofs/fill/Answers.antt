-- `fill` meets its contract. The loop invariant: the slot keeps its length, and its first i bytes are the first i of
-- the padded bytes.
use mathlib.Core.Path.{◌≡◌, refl, sym, ◌∙◌}
use native.Mathlib.Omega.{arith}
use Rattle.std.proofs.Common.{rules}
use lib.ListN.{length, get_or, length-set}
use lib.Seq.{take_all}
use Rattle.slots.specs.Slots.{padded}
use Rattle.slots.proofs.Padding.{padded_length}
use Rattle.slots.proofs.Filling.{fill_next}
use Rattle.slots.proofs.fill.Goals as goal

pub loop-i-init : goal.loop-i-init
loop-i-init c = (omega arith, refl, refl)

pub loop-i-preserved : goal.loop-i-preserved
loop-i-preserved c =
    let l = c.loop-i in
    let args = c.args in
    let byte : c.unwrap_or.result ≡ get_or args.bytes.now l.i 0 = search rules in (
      omega arith,
      simp length-set l.invariant.1,
      rw byte (fill_next (length args.slot.now) args.bytes.now l.slot l.i (omega arith) l.invariant.1 l.invariant.2),
    )

pub returns : goal.returns
returns c =
    let l = c.loop-i in
    let args = c.args in
    let p = padded (length args.slot.now) args.bytes.now in
    sym (take_all l.i l.slot (omega arith)) ∙ l.invariant.2
    ∙ take_all l.i p (omega (arith, padded_length (length args.slot.now) args.bytes.now))
