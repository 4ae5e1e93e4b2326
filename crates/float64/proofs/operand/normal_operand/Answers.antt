-- `operand::normal_operand` meets its contract. This is the case of a normal pattern of `proofs/Normalising.antt`, and the contract of
-- `scaled` gives the rest.
use Rattle.std.proofs.Common.{◌≡◌, ℕ, ◌/◌, ◌^◌, ◌≤◌, arith}
use Rattle.float64.specs.Internals.{units_of_bits}
use Rattle.float64.proofs.Normalising.{normalised_high}
use Rattle.float64.proofs.operand.normal_operand.Goals as goal

has_field : (b : ℕ) → 2 ^ 52 ≤ b → b / 2 ^ 52 ≡ 0 → ⊥
has_field b h e = omega arith

pub returns : goal.returns
returns c =
    let b = c.args.b in
    record {
      scaled = c.scaled.ensures.scaled (units_of_bits b) (normalised_high b
          (has_field b c.requires.0));
      small = c.scaled.ensures.small;
    }
