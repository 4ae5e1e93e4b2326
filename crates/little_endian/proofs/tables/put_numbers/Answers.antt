-- `tables::put_numbers` meets its contract: without room it stores nothing, and with room it stores the numbers' bytes.
use mathlib.Core.Path.{sym, ◌∙◌}
use borrow.Author.Rules.{rules}
use Prim.Native.Nat.{◌≤◌}
use lib.ListN.{length}
use Rattle.little_endian.specs.Tables.{total, packed}
use Rattle.little_endian.proofs.Tabled.{packed_length}
use Rattle.little_endian.proofs.Writing.{no_room, stored}
use Rattle.little_endian.proofs.tables.put_numbers.Goals as goal

pub returns-then-fits : goal.returns-then-fits
returns-then-fits g c =
    let a = c.args in
    let long : length a.widths ≤ length a.values = search (rules, c.well_formed) in
    let both = stored a.out.now (packed a.widths a.values) (total a.widths) (packed_length a.widths a.values long) _
    (sym c.fits.ensures ∙ c.if-fits.true)
    c.store.ensures in
    record { room = both.0; bytes = both.1 }

pub returns : goal.returns
returns g c =
    let a = c.args in
    let long : length a.widths ≤ length a.values = search (rules, c.well_formed) in
    let both = no_room a.out.now (packed a.widths a.values) (total a.widths) (packed_length a.widths a.values long)
    (sym c.fits.ensures ∙ c.if-fits.false) in
    record { room = both.0; bytes = both.1 }
