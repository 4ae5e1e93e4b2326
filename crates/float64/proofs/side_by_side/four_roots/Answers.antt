-- `side_by_side::four_roots` meets its contract: estimates that are above zero are the roots, and `in_turn` has the same contract.
use Rattle.float64.specs.Notation.{◌≺◌, 0F}
use Rattle.float64.proofs.FourRootsLemmas.{all_roots, all_true}
use Rattle.float64.proofs.side_by_side.four_roots.Goals as goal

pub returns-then-roots : goal.returns-then-roots
returns-then-roots c =
    let r = c.estimated_roots-roots.result in
    let e = c.estimated_roots-roots.ensures in
    let t = all_true (0F ≺ r.a) (0F ≺ r.b) (0F ≺ r.c) (0F ≺ r.d) c.if-roots.true in
    all_roots c.args.x r (e.first t.first) (e.second t.second) (e.third t.third) (e.fourth t.fourth)
