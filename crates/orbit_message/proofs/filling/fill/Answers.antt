-- `fill` meets its contract. The invariant's parts follow from the lemmas of `proofs/FillSteps.antt`.
use native.Mathlib.Omega.{arith}
use Rattle.orbit_message.proofs.FillSteps.{next_byte, filled_next, filled_at_end}
use Rattle.orbit_message.proofs.filling.fill.Goals as goal

pub fill_step-requires : goal.fill_step-requires
fill_step-requires c =
    let l = c.loop-byte in
    let test = c.loop-byte-test.true in
    let placeholders = (next_byte c.args.template.now l.byte-index test).placeholders in
    (c.requires.0, omega (arith, placeholders, l.invariant.1, c.requires.1), omega (arith, placeholders, l.invariant.2, test))

pub loop-byte-preserved : goal.loop-byte-preserved
loop-byte-preserved c =
    let l = c.loop-byte in
    let a = c.args in
    let t = a.template.now in
    let test = c.loop-byte-test.true in
    let placeholders = (next_byte t l.byte-index test).placeholders in
    let e = c.fill_step.ensures in
    let same = filled_next t a.s.now a.values l.byte-index l.done c.fill_step.new.self test e l.invariant.3 in
    (omega arith, omega (arith, placeholders, l.invariant.1, e.counted), omega (arith, placeholders, l.invariant.2, e.bounded, test), same)

pub returns : goal.returns
returns c =
    let l = c.loop-byte in
    let a = c.args in
    let whole = filled_at_end a.template.now a.s.now a.values l.byte-index l.done c.loop-byte-test.false l.invariant.3 in
    (whole, omega (arith, l.invariant.2))
