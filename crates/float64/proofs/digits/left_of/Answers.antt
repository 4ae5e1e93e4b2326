-- `digits::left_of` meets its contract. For y and t below 2 ^ 63, the wrapped
-- difference is at least 2 ^ 63 exactly if y is below t.
use Rattle.std.proofs.Common.{arith, rules}
use Rattle.float64.proofs.Trials.{taken, not_taken}
use Rattle.float64.proofs.digits.left_of.Goals as goal

pub returns-then-less-lt9223372036854775808 : goal.returns-then-less-lt9223372036854775808
returns-then-less-lt9223372036854775808 c =
    taken c.args.y c.args.t c.wrapping_sub_u64-less.result c.requires.0 c.requires.1 c.wrapping_sub_u64-less.ensures.value
    (omega (arith, c.if-less-lt9223372036854775808.true))

pub returns-else-less-lt9223372036854775808 : goal.returns-else-less-lt9223372036854775808
returns-else-less-lt9223372036854775808 c =
    not_taken c.args.y c.args.t c.wrapping_sub_u64-less.result c.requires.0 c.requires.1
    (search (rules, c.wrapping_sub_u64-less.type_inv)) c.wrapping_sub_u64-less.ensures.value (omega (
      arith,
      c.if-less-lt9223372036854775808.false,
    ))
