-- `estimate::estimated_root` is defined for every positive finite number: the bits that it makes are not those of a NaN.
use Rattle.std.proofs.Common.{ℕ, ◌-◌, ◌/◌, ◌%◌, ◌<◌, ◌≤◌, T, sym, subst, arith}
use lib.Ieee.{binary64, fits}
use Rattle.float64.proofs.Bits.{not_above}
use Rattle.float64.proofs.Cases.{no_nan, positive_bits}
use Rattle.float64.proofs.estimate.estimated_root.Goals as goal
use Rattle.float64.proofs.estimate.estimated_root.Goals.{Start}

-- An argument of the type f64 fits the format.
held : (c : Start) → T (fits binary64 c.args.x)
held c = subst T (sym c.well_formed.0.1) tt

half_small : (b : ℕ) → b < 0x7FF0_0000_0000_0000 → b / 2 ≤ 0x5FDB_F6D6_E3E5_1EB6
half_small b h = omega arith

start_small : (b : ℕ) → (0x5FDB_F6D6_E3E5_1EB6 - b) % 0x8000_0000_0000_0000 ≤ 0x7FF0_0000_0000_0000
start_small b = omega arith

pub float_to_bits-h0 : goal.float_to_bits-h0
float_to_bits-h0 c = no_nan c.args.x c.requires

pub overflow_sub-h0 : goal.overflow_sub-h0
overflow_sub-h0 c = half_small _ (positive_bits c.args.x c.requires (held c)).1

pub float_from_bits-h0 : goal.float_from_bits-h0
float_from_bits-h0 c = not_above _ (start_small _)
