-- What the four tests say if a given row from 11 to 14, or none of them, is the first that applies (`is_none` to `only_four`), and the
-- first row that applies in two lists of rows joined together (`first_append`).
use mathlib.Core.Path.{◌≡◌, refl, sym}
use mathlib.Core.Bool.{Bool, true, false, cond}
use mathlib.Core.Logic.{◌⊎◌, inl, inr}
use mathlib.Core.List.{List, [], ◌∷◌, ◌++◌}
use Prim.Native.Nat.{ℕ, ◌<◌}
use native.Mathlib.Omega.{arith}
use borrow.Author.Tests.{ne_eqb}
use lib.Dec.{eqb}
use Rattle.entrance.specs.Table.{Row}
use Rattle.entrance.proofs.Table.{Rising, none, more, first_in}
use Rattle.solver.proofs.Numbering.{rows}

pub is_none : (z v n f : Bool) → rows z v n f ≡ 0 → (z ≡ false) × (n ≡ false) × (f ≡ true)
is_none false v false true e = (refl, refl, refl)
is_none false v false false e = absurd (omega (arith, e))
is_none false v true f e = absurd (omega (arith, e))
is_none true true n f e = absurd (omega (arith, e))
is_none true false n f e = absurd (omega (arith, e))

pub is_eleven : (z v n f : Bool) → rows z v n f ≡ 11 → (z ≡ true) × (v ≡ false)
is_eleven true false n f e = (refl, refl)
is_eleven true true n f e = absurd (omega (arith, e))
is_eleven false v true f e = absurd (omega (arith, e))
is_eleven false v false true e = absurd (omega (arith, e))
is_eleven false v false false e = absurd (omega (arith, e))

pub is_twelve : (z v n f : Bool) → rows z v n f ≡ 12 → (z ≡ true) × (v ≡ true)
is_twelve true true n f e = (refl, refl)
is_twelve true false n f e = absurd (omega (arith, e))
is_twelve false v true f e = absurd (omega (arith, e))
is_twelve false v false true e = absurd (omega (arith, e))
is_twelve false v false false e = absurd (omega (arith, e))

pub is_thirteen : (z v n f : Bool) → rows z v n f ≡ 13 → n ≡ true
is_thirteen z v true f e = refl
is_thirteen true true false f e = absurd (omega (arith, e))
is_thirteen true false false f e = absurd (omega (arith, e))
is_thirteen false v false true e = absurd (omega (arith, e))
is_thirteen false v false false e = absurd (omega (arith, e))

pub is_fourteen : (z v n f : Bool) → rows z v n f ≡ 14 → (z ≡ false) × (n ≡ false) × (f ≡ false)
is_fourteen false v false false e = (refl, refl, refl)
is_fourteen false v false true e = absurd (omega (arith, e))
is_fourteen false v true f e = absurd (omega (arith, e))
is_fourteen true true n f e = absurd (omega (arith, e))
is_fourteen true false n f e = absurd (omega (arith, e))

pub only_four : (z v n f : Bool) (k : ℕ) → rows z v n f ≡ k → 0 < k → (k ≡ 11) ⊎ ((k ≡ 12) ⊎ ((k ≡ 13) ⊎ (k ≡ 14)))
only_four true false n f k e h = inl (sym e)
only_four true true n f k e h = inr (inl (sym e))
only_four false v true f k e h = inr (inr (inl (sym e)))
only_four false v false false k e h = inr (inr (inr (sym e)))
only_four false v false true k e h = absurd (omega (arith, e, h))

-- ---- the first row that applies in two joined lists: it is in the second list if none in the first applies
pub first_append : (low : ℕ) (xs ys : List Row) → Rising low xs
    → first_in (xs ++ ys) ≡ cond (eqb (first_in xs) 0) (first_in ys) (first_in xs)
unfolding first_in
first_append low [] ys none = refl
first_append low (c ∷ cs) ys (more l r) = by c.applies (first_append c.number cs ys r)
  where
    by : (b : Bool) → first_in (cs ++ ys) ≡ cond (eqb (first_in cs) 0) (first_in ys) (first_in cs) →
        cond b c.number (first_in (cs ++ ys))
        ≡ cond (eqb (cond b c.number (first_in cs)) 0) (first_in ys) (cond b c.number (first_in cs))
    by true e = rw (ne_eqb c.number 0 (λ z. omega (arith, z, l)))
    by false e = e
