-- `value::to_bits` meets its contract: a NaN gives the fixed NaN pattern, and any other f64 gives its own bits.
use Rattle.std.proofs.Common.{sym, ◌∙◌}
use Rattle.float64.proofs.Bits.{bits_of_nan}
use Rattle.float64.proofs.value.to_bits.Goals as goal

pub returns-then-is_nan : goal.returns-then-is_nan
returns-then-is_nan c = bits_of_nan c.args.x (sym c.is_nan.ensures.value ∙ c.if-is_nan.true)
