-- `counts::scaled` meets its contract: the product in two parts, or a quotient below one half.
use native.Mathlib.Omega.{arith}
use Rattle.decimal.proofs.Products.{in_two_parts, below_half}
use Rattle.decimal.proofs.counts.scaled.Goals as goal

pub returns-then-s-lt87 : goal.returns-then-s-lt87
returns-then-s-lt87 c =
    in_two_parts c.args.m c.args.s c.rounded.result c.requires.1 c.rounded.ensures

pub returns-else-s-lt87 : goal.returns-else-s-lt87
returns-else-s-lt87 c = below_half c.args.m c.args.s c.requires.0 (omega (arith, c.if-s-lt87.false))
