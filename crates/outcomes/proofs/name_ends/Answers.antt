-- `name_ends` meets its contract: the closure tests the chosen end of the entry of each index below n.
use Prim.Native.Nat.{◌<◌, ◌≤◌}
use mathlib.Core.Path.{refl}
use native.Mathlib.Omega.{arith}
use borrow.Author.Rules.{rules}
use Rattle.std.proofs.Common.{tests}
use Rattle.std.proofs.lemmas.Iterator.{cases_from_all, YieldsList-from_range}
use Rattle.records.specs.Layout.{chosen_at}
use Rattle.outcomes.proofs.Ends.{searched}
use Rattle.outcomes.proofs.name_ends.Goals as goal

pub returns : goal.returns
returns c =
    let n = c.args.n in
    let s = c.args.s.now in
    let below = YieldsList-from_range 0 n n refl (omega arith) in
    let found = cases_from_all _ _ _ (λ i. chosen_at i s ≤ 1) (λ i. 1 < chosen_at i s) c.all.ensures.ran below
    (λ x q k. search (rules, tests)) (λ x q k. search (rules, tests)) in
    searched n s c.all.result found
