-- `texts::text_of` meets its contract: the closure returns the byte of the text at each index.
use native.Mathlib.Omega.{arith}
use borrow.Author.Rules.{rules}
use lib.ListN.{get_or}
use Rattle.decimal.specs.Texts.{text_of}
use Rattle.decimal.proofs.HeldTexts.{calls_give, all_bytes}
use Rattle.decimal.proofs.texts.text_of.Goals as goal

pub returns : goal.returns
returns c =
    let text = text_of c.args.d in
    let size = c.text_length.ensures in
    let items = c.from_fn.ensures.items in
    let each = calls_give _ _ (λ i. get_or text i 0) (λ i y q k. search rules) c.from_fn.result 18 items in
    (all_bytes text c.from_fn.result items.long (omega arith) each, size.0)
