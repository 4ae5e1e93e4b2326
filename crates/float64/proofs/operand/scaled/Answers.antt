-- `operand::scaled` meets its contract. This follows from `shifted_of`.
use Rattle.std.proofs.Common.{rules}
use Rattle.float64.proofs.Lengths.{shifted_of}
use Rattle.float64.proofs.operand.scaled.Goals as goal

pub returns : goal.returns
returns c = record { scaled = λ n m. shifted_of n _ _ m; small = search rules }
