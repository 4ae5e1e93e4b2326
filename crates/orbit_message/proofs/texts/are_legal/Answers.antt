-- `are_legal` meets its contract: the call tests each of the first eight values.
use mathlib.Core.Path.{refl}
use mathlib.Core.Bool.{Bool}
use Prim.Native.Nat.{ℕ}
use borrow.Author.Rules.{rules}
use Rattle.std.proofs.Common.{tests}
use Rattle.std.proofs.lemmas.Iterator.{YieldsList-from_range}
use Rattle.std.proofs.lemmas.Iterator.Search.{all_from_yields_List}
use Rattle.orbit_message.specs.Texts.{every, is_legal}
use Rattle.orbit_message.specs.Matches.{matched_value, values_between}
use Rattle.orbit_message.proofs.texts.are_legal.Goals as goal

pub returns : goal.returns
unfolding every values_between
returns c =
    let value_legal : ℕ → Bool = λ k. is_legal (matched_value c.args.s.now c.args.found k) in
    all_from_yields_List value_legal _ _ c.all.result c.all.ensures.ran
    (YieldsList-from_range 0 8 8 refl refl) (λ x b q k. search (rules, tests))
