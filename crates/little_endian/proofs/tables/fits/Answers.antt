-- `tables::fits` meets its contract. The loop invariant is that the difference between the room left and the sum of the
-- widths left is the same as that between the whole room and the sum of all widths.
use mathlib.Core.Path.{sym}
use native.Mathlib.Omega.{arith}
use borrow.Author.Tests.{le-leb, lt-leb}
use Rattle.little_endian.specs.Tables.{total}
use Rattle.little_endian.proofs.Tabled.{total_at, total_past}
use Rattle.little_endian.proofs.tables.fits.Goals as goal

pub returns-then-left-width : goal.returns-then-left-width
returns-then-left-width c =
    let l = c.loop-width in
    let a = c.args in
    let next = total_at a.widths.now l.width-index c.loop-width-test.true in
    sym (lt-leb (total a.widths.now) a.room (omega (arith, next, l.invariant, c.if-left-width.true)))

pub loop-width-preserved : goal.loop-width-preserved
loop-width-preserved c =
    let l = c.loop-width in
    omega (arith, total_at c.args.widths.now l.width-index c.loop-width-test.true, l.invariant, c.if-left-width.false)

pub returns : goal.returns
returns c =
    let l = c.loop-width in
    let a = c.args in
    let none = total_past a.widths.now l.width-index c.loop-width-test.false in
    sym (le-leb (total a.widths.now) a.room (omega (arith, none, l.invariant)))
