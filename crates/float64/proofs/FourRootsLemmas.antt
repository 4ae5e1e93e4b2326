-- What `four_roots_of` gives if all four numbers have a root (`all_roots`), and what a conjunction of four tests says (`all_true`).
use Rattle.std.proofs.Common.{◌≡◌, Bool, true, false, ◌&&◌, sym, refl, Some}
use mathlib.Core.Bool.{false≢true}
use Rattle.float64.specs.Root.{root_of}
use Rattle.float64.specs.FourRoots.{four_roots_of}
use Rattle.float64.specs.declared.side_by_side.Four.{Four}

pub all_roots : (x r : Four) → Some r.a ≡ root_of x.a → Some r.b ≡ root_of x.b → Some r.c ≡ root_of x.c
    → Some r.d ≡ root_of x.d → Some r ≡ four_roots_of x
unfolding four_roots_of
all_roots x r e f g h = simp (sym e, sym f, sym g, sym h)

-- The four conditions that a conjunction of four tests contains.
pub record AllTrue (p q r s : Bool) : Type 0 where
  pub first : p ≡ true
  pub second : q ≡ true
  pub third : r ≡ true
  pub fourth : s ≡ true

pub all_true : (p q r s : Bool) → p && q && r && s ≡ true → AllTrue p q r s
all_true true true true true e = record { first = refl; second = refl; third = refl; fourth = refl }
all_true true true true false e = absurd (false≢true e)
all_true true true false s e = absurd (false≢true e)
all_true true false r s e = absurd (false≢true e)
all_true false q r s e = absurd (false≢true e)
