-- `counts::rounded` meets its contract: both results are cases of `proofs/Halves.antt`.
use native.Mathlib.Omega.{arith}
use Rattle.decimal.proofs.Products.{one_shifted}
use Rattle.decimal.proofs.Halves.{rounded_up, rounded_down}
use Rattle.decimal.proofs.counts.rounded.Goals as goal

pub overflow_mul-quotient : goal.overflow_mul-quotient
overflow_mul-quotient c = omega (arith, one_shifted c.args.k c.requires.2)

pub overflow_mul-rest : goal.overflow_mul-rest
overflow_mul-rest c = omega (arith, one_shifted c.args.k c.requires.2)

pub returns-then-half-rest : goal.returns-then-half-rest
returns-then-half-rest c =
    let args = c.args in
    let pre = c.requires in
    rounded_up args.high args.low args.k _ pre.1 (one_shifted args.k pre.2).0 c.if-half-rest.true

pub returns-else-half-rest : goal.returns-else-half-rest
returns-else-half-rest c =
    let args = c.args in
    let pre = c.requires in
    rounded_down args.high args.low args.k _ pre.1 (one_shifted args.k pre.2).0 c.if-half-rest.false
