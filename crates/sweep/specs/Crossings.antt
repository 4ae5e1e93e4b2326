-- Crossings and their brackets (01, Stations, sides, crossings). The side of each place is a parameter σ, so these definitions depend
-- neither on times nor on the state of a loop. Only the last one, `sweep_for`, takes the sides from the times of a search. Definitions
-- only.
use Rattle.std.specs.Prelude.{ℕ, zero, suc, ◌+◌, ◌-◌, min, Bool, false, cond, ◌||◌, ltb, ℤ, pos}
use Rattle.std.specs.Prelude.{List, [], ◌∷◌, ◌++◌, map, length, take, replicate}
use Rattle.bisection.specs.declared.Bracket.{Bracket}
use Rattle.stations.specs.declared.search.Search.{Search}
use Rattle.stations.specs.declared.side.Side.{Side}
use Rattle.sweep.specs.declared.Crossings.{Crossings}
use Rattle.sweep.specs.declared.walks.Walk.{Walk}
use Rattle.stations.specs.Sides.{side_at, is_unknown}
use Rattle.stations.specs.Grid.{Grid}
use Rattle.stations.specs.SearchGrid.{grid_for, last_for}
use Rattle.bisection.specs.Pairs.{crosses, bracket_of}
use Rattle.sweep.specs.Walks.{first_void, walk_of}

-- The list 0, 1, .., n - 1.
unfoldable pub up_to : ℕ → List ℕ
up_to zero = []
up_to (suc n) = up_to n ++ (n ∷ [])

-- The elements of a list that pass a test, in the order of the list.
unfoldable pub keep : (ℕ → Bool) → List ℕ → List ℕ
keep p [] = []
keep p (x ∷ xs) = cond (p x) (x ∷ keep p xs) (keep p xs)

-- Whether some element of a list passes a test.
unfoldable pub some : (ℕ → Bool) → List ℕ → Bool
some p [] = false
some p (x ∷ xs) = p x || some p xs

-- The crossings among the places 0 to `last` of a grid, in rising order. Each is given by the index of its lower place.
unfoldable pub crossings : (ℤ → Side) → Grid → ℕ → List ℕ
crossings σ g last = keep (crosses σ g) (up_to last)

-- Whether some place of the grid is void, from index 0 to index `last`, both included.
unfoldable pub some_void : (ℤ → Side) → Grid → ℕ → Bool
some_void σ g last = some (λ i. is_unknown (σ (g.place i))) (up_to (last + 1))

-- The brackets of all crossings, in the order of the crossings.
unfoldable pub brackets : (ℤ → Side) → Grid → ℕ → List Bracket
brackets σ g last = map (bracket_of σ g) (crossings σ g last)

-- An unused element of the list of brackets.
abbrev pub blank : Bracket
blank = record { lower = pos 0; upper = pos 0; halvings = 0 }

-- A list of eight elements that begins with the given brackets, at most eight, and continues with unused elements.
abbrev pub eight : List Bracket → List Bracket
eight bs = bs ++ replicate (8 - length bs) blank

-- What a sweep reports, given all brackets and the report about the times at all places: the first eight brackets, their count, and the
-- report of the whole sweep.
unfoldable pub reported : List Bracket → Walk → Crossings
reported bs seen =
    record {
      list = eight (take 8 bs);
      count = min 8 (length bs);
      walk = walk_of (ltb 8 (length bs)) seen;
    }

-- The result of a sweep over the places of a grid up to `last`.
unfoldable pub sweep_of : (ℤ → Side) → Grid → ℕ → Crossings
sweep_of σ g last = reported (brackets σ g last) (first_void σ g (up_to (last + 1)))

-- The result of a search: the sweep over its grid, with its sides.
abbrev pub sweep_for : Search → Crossings
sweep_for search = sweep_of (side_at search) (grid_for search) (last_for search)
