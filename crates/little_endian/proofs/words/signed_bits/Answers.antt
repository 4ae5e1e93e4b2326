-- `words::signed_bits` meets its contract: the two's complement of the definition is that of `cast_unsigned`.
use mathlib.Core.Path.{ap, ◌∙◌}
use mir.Facts.{to_z-of_z}
use mir.Syntax.{w64}
use mir.Val.{of_z}
use Rattle.little_endian.proofs.Twos.{bits_is}
use Rattle.little_endian.proofs.words.signed_bits.Goals as goal

pub returns : goal.returns
returns c = c.cast_unsigned.ensures ∙ ap (of_z w64) (to_z-of_z c.ranges.k) ∙ bits_is w64 c.args.k
