-- Properties of a list of numbers: which numbers are in it, and that it rises.
use Rattle.std.specs.Prelude.{◌≡◌, ◌⊎◌, List, [], ◌∷◌, ℕ, ◌<◌}

-- The number i is in the list.
unfoldable pub Listed : ℕ → List ℕ → Type 0
Listed i [] = ⊥
Listed i (x ∷ xs) = (i ≡ x) ⊎ Listed i xs

-- Each number is below all numbers after it.
unfoldable pub Rising : List ℕ → Type 0
Rising [] = Unit {0}
Rising (x ∷ xs) = ((i : ℕ) → Listed i xs → x < i) × Rising xs
