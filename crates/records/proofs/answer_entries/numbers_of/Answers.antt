-- `answer_entries::numbers_of` meets its contract. This follows from the contracts of the functions it calls.
use mir.Facts.{to_z-of_z}
use mir.Syntax.{w64}
use mir.Val.{SFits}
use borrow.Author.Rules.{rules}
use Rattle.records.proofs.answer_entries.numbers_of.Goals as goal

pub returns : goal.returns
returns c =
    let f : SFits w64 c.args.e.lower = search rules in
    simp (
      c.to_bits-6.ensures,
      c.to_bits-5.ensures,
      c.to_bits-4.ensures,
      c.to_bits-3.ensures,
      c.to_bits-2.ensures,
      c.to_bits.ensures,
      c.signed_bits.ensures,
      to_z-of_z f,
    )
