-- `lambert_four_roots` meets its contract. This follows from the contract of `four_roots`.
use mathlib.Core.Path.{◌≡◌, refl, sym, ap, ◌∙◌}
use mathlib.Core.Bool.{true, false}
use mathlib.Core.List.{List, [], ◌∷◌}
use lib.ListN.{get_or}
use lib.Ieee.{Float, nan}
use Rattle.float64.specs.FourRoots.{four_roots_of}
use Rattle.float64.specs.declared.side_by_side.Four.{Four}
use Rattle.std.specs.Prelude.{Option, Some, None}
use Rattle.c_root.specs.FourNumbers.{four_of, all_found, numbers_after}
use Rattle.c_root.proofs.lambert_four_roots.Goals as goal

-- The two parts of the contract, if the roots are r, and if a root is refused.
found : (numbers : List Float) (r : Four) → four_roots_of (four_of numbers) ≡ Some r
    → (true ≡ all_found (four_roots_of (four_of numbers)))
    × (r.a ∷ r.b ∷ r.c ∷ r.d ∷ [] ≡ numbers_after (four_roots_of (four_of numbers)) numbers)
unfolding all_found numbers_after
found numbers r e = (ap all_found (sym e), ap (λ (o : Option Four). numbers_after o numbers) (sym e))

refused : (numbers : List Float) → four_roots_of (four_of numbers) ≡ None
    → (false ≡ all_found (four_roots_of (four_of numbers))) × (numbers ≡ numbers_after (four_roots_of (four_of numbers)) numbers)
unfolding all_found numbers_after
refused numbers e = (ap all_found (sym e), ap (λ (o : Option Four). numbers_after o numbers) (sym e))

four_of_lem : (numbers : List Float)
    → four_of numbers ≡ record { a = get_or numbers 0 nan; b = get_or numbers 1 nan; c = get_or numbers 2 nan; d = get_or numbers 3 nan }
unfolding four_of
four_of_lem numbers = refl

pub returns-in-Some : goal.returns-in-Some
returns-in-Some c =
    let f =
    found c.args.numbers.now c.in-Some.r
    (ap four_roots_of (four_of_lem _) ∙ sym c.four_roots.ensures ∙ c.in-Some.is)
    in
    record { result = f.0; buffer = f.1 }

pub returns-in-None : goal.returns-in-None
returns-in-None c =
    let f = refused c.args.numbers.now (ap four_roots_of (four_of_lem _) ∙ sym c.four_roots.ensures ∙ c.in-None.is) in
    record { result = f.0; buffer = f.1 }
