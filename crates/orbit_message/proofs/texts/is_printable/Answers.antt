-- `is_printable` meets its contract: the call tests every byte.
use mathlib.Core.Path.{sym, ◌∙◌}
use mathlib.Core.Bool.{◌&&◌}
use borrow.Author.Rules.{rules}
use lib.Dec.{leb}
use Rattle.std.proofs.Common.{tests}
use Rattle.std.proofs.lemmas.Iterator.{YieldsList-from_slice}
use Rattle.std.proofs.lemmas.Iterator.Search.{all_from_yields_List}
use Rattle.orbit_message.specs.Texts.{is_printable}
use Rattle.orbit_message.proofs.EveryElement.{every_is}
use Rattle.orbit_message.proofs.texts.is_printable.Goals as goal

pub returns : goal.returns
unfolding is_printable
returns c =
    let s = c.args.s.now in
    all_from_yields_List (λ b. leb 0x20 b && leb b 0x7E) _ _ c.all.result c.all.ensures.ran
    (YieldsList-from_slice s cc) (λ x b q k. search (rules, tests))
    ∙ sym (every_is is_printable s)
