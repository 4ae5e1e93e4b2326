-- `texts::digit` meets its contract: the power of ten is above zero.
use native.Mathlib.Nat.{one-le-pow}
use lib.Dec.{lit<}
use Rattle.decimal.proofs.texts.digit.Goals as goal

pub nonzero_div-result : goal.nonzero_div-result
nonzero_div-result c = rw c.pow.ensures (one-le-pow c.args.k 10 (lit< tt))
