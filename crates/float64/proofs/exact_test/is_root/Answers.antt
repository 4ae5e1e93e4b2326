-- `exact_test::is_root` meets its contract: a number between the ends is normal, and a number below `high` is not a NaN.
use Rattle.std.proofs.Common.{T, sym, subst, eqb-true}
use mathlib.Core.Bool.{false≢true}
use lib.Ieee.{binary64, fits}
use Rattle.float64.proofs.Cases.{no_nan, positive_bits, root_by_bits}
use Rattle.float64.proofs.Range.{inside_positive, inside_normal, below_not_nan}
use Rattle.float64.proofs.exact_test.is_root.Goals as goal
use Rattle.float64.proofs.exact_test.is_root.Goals.{Start}

-- The arguments of the type f64 fit the format.
x_held : (c : Start) → T (fits binary64 c.args.x)
x_held c = subst T (sym c.well_formed.0.1) tt

root_held : (c : Start) → T (fits binary64 c.args.root)
root_held c = subst T (sym c.well_formed.1.0.1) tt

pub float_to_bits-x : goal.float_to_bits-x
float_to_bits-x c = no_nan c.args.x (inside_positive c.args.x c.requires)

pub float_to_bits-root : goal.float_to_bits-root
float_to_bits-root c = below_not_nan c.args.root c.if-root.true

pub mismatch_of-requires : goal.mismatch_of-requires
mismatch_of-requires c =
    let x = c.args.x in (
      inside_normal x c.requires (x_held (goal.at.mismatch_of-requires c).Start),
      (positive_bits x (inside_positive x c.requires) (x_held (goal.at.mismatch_of-requires c).Start)).1,
    )

pub returns-then-root : goal.returns-then-root
returns-then-root c =
    λ t. root_by_bits c.args.x c.args.root (inside_positive c.args.x c.requires) (x_held (goal.at.returns-then-root c).Start) (root_held
    (goal.at.returns-then-root c).Start)
    (c.mismatch_of.ensures.exact (eqb-true _ _ t))

pub returns : goal.returns
returns c = λ t. absurd (false≢true t)
