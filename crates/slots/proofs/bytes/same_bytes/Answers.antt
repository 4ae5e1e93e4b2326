-- `bytes::same_bytes` meets its contract. The definition is the test that `==` makes.
use Rattle.std.proofs.Common.{rules}
use Rattle.slots.specs.Slots.{same_bytes}
use Rattle.slots.proofs.bytes.same_bytes.Goals as goal

pub returns : goal.returns
unfolding same_bytes
returns c = search rules
