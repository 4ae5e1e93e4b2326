-- `every` is the library's test of all elements (`every_is`). What it says of two lists (`every_append`), and the two parts of a
-- conjunction (`both`).
use mathlib.Core.Path.{◌≡◌, refl, sym, ap, ◌∙◌}
use mathlib.Core.Bool.{Bool, true, false, ◌&&◌, and_assoc, false≢true}
use mathlib.Core.List.{List, [], ◌∷◌, ◌++◌}
use Rattle.std.specs.List.{list_all}
use Rattle.orbit_message.specs.Texts.{every}

pub both : (a b : Bool) → a && b ≡ true → (a ≡ true) × (b ≡ true)
both true true e = (refl, refl)
both true false e = absurd (false≢true e)
both false b e = absurd (false≢true e)

-- `every` is the library's test of all elements.
pub every_is : {A : Type 0} (test : A → Bool) (l : List A) → every test l ≡ list_all test l
unfolding every
every_is test [] = refl
every_is test (a ∷ l) = ap (λ (b : Bool). test a && b) (every_is test l)

pub every_append : {A : Type 0} (test : A → Bool) (k l : List A) → every test (k ++ l) ≡ every test k && every test l
unfolding every
every_append test [] l = refl
every_append test (a ∷ k) l =
    ap (λ (b : Bool). test a && b) (every_append test k l) ∙ sym (and_assoc (test a) (every test k) (every test l))
