-- A template is bytes in which each 0 is a placeholder for a value and every other byte stands for itself. A value is everything up to the
-- next LF (10). In our templates an LF follows each placeholder (`ValuesEndLines`, shown in proofs/MessageTemplate.antt and
-- proofs/ValueLines.antt). Definitions only.
use Rattle.std.specs.Prelude.{ℕ, zero, suc, ◌≡◌, cond, List, [], ◌∷◌, ◌++◌, eqb, length, Option, Some, None}

-- ---- the values in bytes that follow a template

-- The bytes before the first LF, or all of them if there is none.
unfoldable pub line_in : List ℕ → List ℕ
line_in [] = []
line_in (c ∷ s) = cond (eqb c 10) [] (c ∷ line_in s)

-- The bytes from the first LF on, or none if there is none.
unfoldable pub after_line : List ℕ → List ℕ
after_line [] = []
after_line (c ∷ s) = cond (eqb c 10) (c ∷ s) (after_line s)

-- The values found in bytes, or `None` if the bytes do not follow the template.
abbrev pub Values : Type 0
Values = Option (List (List ℕ))

-- The given values, and then those found. If there is no match, there is still none.
abbrev pub prepend : List (List ℕ) → Values → Values
prepend us (Some vs) = Some (us ++ vs)
prepend us None = None

-- The values in bytes that follow the template. A byte of the template that is not 0 must be the next byte. A 0 takes the bytes up to the
-- next LF, or to the end. No byte may be left.
unfoldable pub values_in : List ℕ → List ℕ → Values
unfolding line_in after_line
values_in [] [] = Some []
values_in [] (c ∷ s) = None
values_in (zero ∷ t) s = prepend (line_in s ∷ []) (values_in t (after_line s))
values_in (suc c ∷ t) [] = None
values_in (suc c ∷ t) (b ∷ s) = cond (eqb b (suc c)) (values_in t s) None

-- ---- a template filled with values

-- The template with its placeholders filled, the first 0 by the first value.
unfoldable pub filled : List ℕ → List (List ℕ) → List ℕ
filled [] vs = []
filled (zero ∷ t) [] = filled t []
filled (zero ∷ t) (v ∷ vs) = v ++ filled t vs
filled (suc c ∷ t) vs = suc c ∷ filled t vs

-- How many placeholders a template has.
unfoldable pub placeholders_in : List ℕ → ℕ
placeholders_in [] = 0
placeholders_in (zero ∷ t) = suc (placeholders_in t)
placeholders_in (suc c ∷ t) = placeholders_in t

-- The bytes begin with an LF.
abbrev pub StartsWithLineFeed : List ℕ → Type 0
StartsWithLineFeed [] = ⊥
StartsWithLineFeed (c ∷ t) = c ≡ 10

-- An LF follows each placeholder of the template.
unfoldable pub ValuesEndLines : List ℕ → Type 0
ValuesEndLines [] = Unit
ValuesEndLines (zero ∷ t) = StartsWithLineFeed t × ValuesEndLines t
ValuesEndLines (suc c ∷ t) = ValuesEndLines t

-- The value has no LF.
unfoldable pub OneLine : List ℕ → Type 0
OneLine [] = Unit
OneLine (c ∷ v) = (c ≡ 10 → ⊥) × OneLine v

-- No value has an LF.
unfoldable pub OneLineEach : List (List ℕ) → Type 0
unfolding OneLine
OneLineEach [] = Unit
OneLineEach (v ∷ vs) = OneLine v × OneLineEach vs

-- s is the template t, filled with these values.
pub record IsFilled (t s : List ℕ) (vs : List (List ℕ)) : Type 0 where
  pub as_many : length vs ≡ placeholders_in t
  pub one_line : OneLineEach vs
  pub same : s ≡ filled t vs
