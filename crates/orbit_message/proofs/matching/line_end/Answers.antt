-- `line_end` meets its contract: the line ends at the first LF, or at the end of the bytes.
use native.Mathlib.Omega.{arith}
use mathlib.Core.Path.{◌≡◌, sym, ◌∙◌}
use mathlib.Core.List.{[]}
use Prim.Native.Nat.{◌-◌}
use borrow.Author.Rules.{rules}
use lib.ListN.{length, drop, length-drop, drop_of_length-le}
use lib.Seq.{drop-drop, take_all}
use Rattle.std.proofs.Common.{tests}
use Rattle.std.proofs.lemmas.Iterator.{YieldsList-from_slice}
use Rattle.std.proofs.lemmas.Iterator.Search.{position_from_yields_List}
use Rattle.std.specs.List.{position}
use Rattle.orbit_message.proofs.LineEnds.{is_feed, feed_found, no_feed}
use Rattle.orbit_message.proofs.matching.line_end.Goals as goal
use Rattle.orbit_message.proofs.matching.line_end.Goals.{After-position}

-- The call gives the position of the first LF.
found : (c : After-position) → c.position.result ≡ position is_feed (drop c.args.from c.args.s.now)
found c =
    let s = c.args.s.now in
    let from = drop c.args.from s in
    let size = length-drop c.args.from s in
    let all = c.iter.ensures.rest ∙ take_all (length s - c.args.from) from (omega arith) in
    position_from_yields_List is_feed _ _ c.position.result c.position.ensures.ran
    (YieldsList-from_slice from all) (λ x b q k. search (rules, tests))

pub returns-in-Some : goal.returns-in-Some
returns-in-Some c =
    let s = c.args.s.now in
    let from = c.args.from in
    let k = c.in-Some.k in
    let here = feed_found (drop from s) c.position.result k (found (goal.at.returns-in-Some c).After-position) c.in-Some.is in
    let size = length-drop from s in
    (omega arith, omega (arith, here.0), sym (drop-drop k from s) ∙ here.1)

pub returns-in-None : goal.returns-in-None
returns-in-None c =
    let s = c.args.s.now in
    let from = drop c.args.from s in
    let none = no_feed from c.position.result (found (goal.at.returns-in-None c).After-position) c.in-None.is in
    let end : drop (length s) s ≡ [] = drop_of_length-le s (omega arith) in
    (c.requires, omega arith, end ∙ none)
