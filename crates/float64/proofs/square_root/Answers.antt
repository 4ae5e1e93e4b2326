-- `square_root` meets its contract: an estimate that passes the exact test is the root, and `root_by_digits` has the same contract.
use Rattle.float64.proofs.Range.{inside_positive}
use Rattle.float64.proofs.square_root.Goals as goal

pub estimated_root-root-requires : goal.estimated_root-root-requires
estimated_root-root-requires c = inside_positive c.args.x c.if-x.true

pub returns-then-is_root : goal.returns-then-is_root
returns-then-is_root c = c.is_root.ensures c.if-is_root.true
