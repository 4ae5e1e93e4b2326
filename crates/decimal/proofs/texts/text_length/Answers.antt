-- `texts::text_length` meets its contract, by `length_is`.
use Rattle.decimal.proofs.TextBytes.{length_is}
use borrow.Author.Rules.{rules}
use Rattle.decimal.proofs.texts.text_length.Goals as goal

pub returns : goal.returns
returns c =
    let d = c.args.d in
    (length_is d 0 _ _ c.from.ensures c.digit_count.ensures.0, search rules)
