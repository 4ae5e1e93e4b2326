-- `operand::operand_of` meets its contract. A subnormal pattern is one of the two cases of `proofs/Normalising.antt`, and the contract
-- of `scaled` gives the rest. A normal pattern is the case of `normal_operand`.
use Rattle.std.proofs.Common.{◌≡◌, ℕ, ◌/◌, ◌^◌, ◌≤◌, le_trans, arith, lit≤}
use lib.Count.{leading_le}
use mir.Facts.{Fits-below}
use Rattle.float64.specs.Internals.{units_of_bits}
use Rattle.float64.proofs.Normalising.{length_short, normalised_low}
use Rattle.float64.proofs.operand.operand_of.Goals as goal

pub overflow_cast-length : goal.overflow_cast-length
overflow_cast-length c = Fits-below tt (leading_le 64 _)

pub overflow_sub-length : goal.overflow_sub-length
overflow_sub-length c = leading_le 64 _

pub overflow_sub-length-then-b-eq0 : goal.overflow_sub-length-then-b-eq0
overflow_sub-length-then-b-eq0 c = le_trans (length_short c.args.b c.requires.0 c.if-b-eq0.true) (lit≤ tt)

pub scaled-requires : goal.scaled-requires
scaled-requires c =
    let b = c.args.b in
    ((normalised_low b c.requires.0 c.if-b-eq0.true).high, le_trans (length_short b c.requires.0 c.if-b-eq0.true) (lit≤ tt))

pub normal_operand-requires : goal.normal_operand-requires
normal_operand-requires c = (normal c.args.b c.if-b-eq0.false, c.requires.1)
  where
    normal : (b : ℕ) → (b / 2 ^ 52 ≡ 0 → ⊥) → 2 ^ 52 ≤ b
    normal b f = omega arith

pub returns-then-b-eq0 : goal.returns-then-b-eq0
returns-then-b-eq0 c =
    record {
      scaled = c.scaled.ensures.scaled (units_of_bits c.args.b)
          (normalised_low c.args.b c.requires.0 c.if-b-eq0.true);
      small = c.scaled.ensures.small;
    }

pub returns-else-b-eq0 : goal.returns-else-b-eq0
returns-else-b-eq0 c = c.normal_operand.ensures
