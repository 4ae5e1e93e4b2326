-- Four numbers in a list, and the list after their roots are computed. Definitions only.
use Rattle.std.specs.Prelude.{Bool, true, false, List, [], ◌∷◌, get_or, Float, Option, Some, None}
use Rattle.std.specs.Float.{nan}
use Rattle.float64.specs.declared.side_by_side.Four.{Four}

-- The first four numbers of a list. A number that is missing counts as a NaN, but the list has four numbers wherever this is used.
unfoldable pub four_of : List Float → Four
four_of numbers = record { a = get_or numbers 0 nan; b = get_or numbers 1 nan; c = get_or numbers 2 nan; d = get_or numbers 3 nan }

-- Whether all four roots were found.
unfoldable pub all_found : Option Four → Bool
all_found (Some r) = true
all_found None = false

-- The roots if all of them were found, and otherwise the numbers as they were.
unfoldable pub numbers_after : Option Four → List Float → List Float
numbers_after (Some r) numbers = r.a ∷ r.b ∷ r.c ∷ r.d ∷ []
numbers_after None numbers = numbers
