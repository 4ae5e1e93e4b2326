-- `positive_root` meets its contract: `assembled` combines the contracts of `operand_of` and `floor_root`.
use Rattle.std.proofs.Common.{ℕ, ◌+◌, ◌^◌, ◌<◌, ◌≤◌, arith}
use Rattle.float64.specs.Internals.{units_of_bits}
use Rattle.float64.proofs.Assembly.{Assembled, assembled}
use Rattle.float64.proofs.Bits.{not_above}
use Rattle.float64.proofs.positive_root.Goals as goal
use Rattle.float64.proofs.positive_root.Goals.{After-struct_known-1}

-- The assembled bits are those of the root.
made : (c : After-struct_known-1)
    → let o = c.before.before in
    Assembled (units_of_bits o.args.b) o.operand_of-operand.result.k c.floor_root-root.result
made c =
    assembled (units_of_bits c.args.b) c.operand_of-operand.result.a c.operand_of-operand.result.k c.floor_root-root.result
    c.operand_of-operand.ensures.scaled c.operand_of-operand.ensures.small c.floor_root-root.ensures

below : (a : ℕ) → a + 2 ≤ 2 ^ 54 → a < 2 ^ 54
below a h = omega arith

pub floor_root-root-requires : goal.floor_root-root-requires
floor_root-root-requires c = below c.operand_of-operand.result.a c.operand_of-operand.ensures.scaled.high

pub overflow_add-result-2 : goal.overflow_add-result-2
overflow_add-result-2 c = omega (arith, (made c).root_fits)

pub float_from_bits-result : goal.float_from_bits-result
float_from_bits-result c = not_above _ (omega (arith, (made c).root_fits, c.operand_of-operand.ensures.small))

pub returns : goal.returns
returns c = (made c).is_root
