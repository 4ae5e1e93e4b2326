-- `root_by_digits` meets its contract: each return is one case of `proofs/Cases.antt`.
use Rattle.std.proofs.Common.{◌≡◌, Bool, ◌&&◌, T, sym, ap, ◌∙◌, subst}
use lib.Ieee.{binary64, fits}
use Rattle.float64.specs.Notation.{◌≺◌, 0F}
use Rattle.float64.specs.Value.{finite_of}
use Rattle.float64.specs.Internals.{Positive}
use Rattle.float64.proofs.Cases.{no_nan, of_zero, of_refused, positive_bits, of_positive}
use Rattle.float64.proofs.root_by_digits.Goals as goal
use Rattle.float64.proofs.root_by_digits.Goals.{Start, After-is_finite, Then-x-is_finite}

-- An argument of the type f64 fits the format.
held : (c : Start) → T (fits binary64 c.args.x)
held c = subst T (sym c.well_formed.0.1) tt

pub returns-then-x : goal.returns-then-x
returns-then-x c = of_zero c.args.x c.if-x.true

-- By the contract of `is_finite`, the code's second test is the same as the test with `finite_of`.
test_is : (c : After-is_finite)
    → (0F ≺ c.args.x) && finite_of c.args.x ≡ (0F ≺ c.args.x) && c.is_finite.result
test_is c = ap (λ (b : Bool). (0F ≺ c.args.x) && b) (sym c.is_finite.ensures)

is_positive : (c : Then-x-is_finite) → Positive c.args.x
is_positive c = test_is c.before ∙ c.if-x-is_finite.true

pub float_to_bits-x : goal.float_to_bits-x
float_to_bits-x c = no_nan c.args.x (is_positive c)

pub positive_root-requires : goal.positive_root-requires
positive_root-requires c = positive_bits c.args.x (is_positive c) (held (goal.at.positive_root-requires c).Start)

pub returns-then-x-is_finite : goal.returns-then-x-is_finite
returns-then-x-is_finite c =
    let b = positive_bits c.args.x (is_positive (goal.at.returns-then-x-is_finite c).Then-x-is_finite) (held
    (goal.at.returns-then-x-is_finite c).Start) in
    of_positive c.args.x c.positive_root.result (held (goal.at.returns-then-x-is_finite c).Start) b.0 b.1 c.positive_root.ensures

pub returns-else-x-is_finite : goal.returns-else-x-is_finite
returns-else-x-is_finite c =
    of_refused c.args.x c.if-x.false (test_is (goal.at.returns-else-x-is_finite c).After-is_finite ∙ c.if-x-is_finite.false)
