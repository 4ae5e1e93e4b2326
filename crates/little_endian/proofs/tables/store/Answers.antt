-- `tables::store` meets its contract. The loop invariant is that the numbers left fit in the buffer, and that storing them
-- from the current offset on completes what the function has to store.
use Prim.Native.Nat.{◌+◌, ◌≤◌}
use mathlib.Core.Path.{sym, ap, ◌∙◌}
use native.Mathlib.Omega.{arith}
use lib.ListN.{length}
use Rattle.std.proofs.lemmas.Slice.Zip.{either_empty_from_Zip}
use Rattle.little_endian.specs.Tables.{total}
use Rattle.little_endian.proofs.Tabled.{put_more, put_none}
use Rattle.little_endian.proofs.tables.store.Goals as goal
use Rattle.little_endian.proofs.tables.store.Goals.{In-Some}

-- The next number fits in the buffer.
next_fits : (c : In-Some) → c.loop-width.at + c.in-Some.field-0-0.now ≤ length c.loop-width.out
unfolding total
next_fits c =
    let l = c.loop-width in
    let first = ap total c.in-Some.ensures.steps.0 in
    omega (arith, first, l.invariant.0, l.invariant.1, c.requires)

pub put_number-requires : goal.put_number-requires
put_number-requires c = next_fits (goal.at.put_number-requires c).In-Some

pub overflow_add-at : goal.overflow_add-at
overflow_add-at c = omega (arith, next_fits (goal.at.overflow_add-at c).In-Some, c.loop-width.invariant.0, c.well_formed.0)

pub loop-width-preserved : goal.loop-width-preserved
unfolding total
loop-width-preserved c =
    let l = c.loop-width in
    let steps = c.in-Some.ensures.steps in
    let first = ap total steps.0 in
    let put = put_more c.in-Some.field-0-0.now c.in-Some.field-0-1.now l.at _ _ l.out c.put_number.new.out c.put_number.ensures in
    (c.put_number.auto.out ∙ l.invariant.0, omega (arith, first, l.invariant.1), put ∙ (rw (steps.0, steps.1) at l.invariant.2))

pub returns : goal.returns
returns c =
    let l = c.loop-width in
    let none = either_empty_from_Zip _ c.next.new.self _ c.in-None.is c.next.ensures.steps in
    sym (put_none _ _ l.out l.at none) ∙ l.invariant.2
