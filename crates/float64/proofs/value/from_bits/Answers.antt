-- `value::from_bits` meets its contract: a pattern that is above infinity's once the sign bit is cleared is
-- a NaN, and any other pattern is read unchanged.
use Rattle.std.proofs.Common.{refl}
use Rattle.float64.proofs.Bits.{above, not_above}
use Rattle.float64.proofs.value.from_bits.Goals as goal

pub returns-then-b-gt-INFINITY : goal.returns-then-b-gt-INFINITY
returns-then-b-gt-INFINITY c = above c.args.b c.if-b-gt-INFINITY.true

pub float_from_bits-result : goal.float_from_bits-result
float_from_bits-result c = not_above c.args.b c.if-b-gt-INFINITY.false

pub returns : goal.returns
returns c = refl
