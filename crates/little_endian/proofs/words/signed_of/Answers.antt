-- `words::signed_of` meets its contract: the signed number of the definition is that of `cast_signed`.
use mathlib.Core.Path.{◌∙◌}
use borrow.Author.Rules.{rules}
use mir.Facts.{to_z-of_z}
use mir.Syntax.{w64}
use mir.Val.{SFits}
use Rattle.little_endian.proofs.Twos.{signed_is}
use Rattle.little_endian.proofs.words.signed_of.Goals as goal

pub returns : goal.returns
returns c =
    let fits : SFits w64 c.cast_signed.result = search rules in
    to_z-of_z fits ∙ c.cast_signed.ensures ∙ signed_is w64 c.args.b
