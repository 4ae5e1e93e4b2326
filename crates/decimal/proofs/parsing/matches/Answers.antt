-- `parsing::matches` meets its contract: the bytes are compared with the text.
use mathlib.Core.Path.{ap, ◌∙◌}
use Rattle.std.specs.Str.{bytes_eq}
use Rattle.decimal.proofs.HeldTexts.{text_held}
use Rattle.decimal.proofs.parsing.matches.Goals as goal

pub returns : goal.returns
returns c =
    let text = c.text_of-text in
    c.eq.ensures ∙ ap (bytes_eq c.args.s.now) (text_held text.result c.args.d text.ensures.0 text.ensures.1)
