-- A neighbouring pair of places of a grid (01, Stations, sides, crossings): whether it crosses, and its bracket. The side of each place
-- is a parameter σ. Definitions only.
use Rattle.std.specs.Prelude.{ℕ, ◌+◌, ◌-◌, Bool, ℤ}
use Rattle.bisection.specs.declared.Bracket.{Bracket}
use Rattle.stations.specs.declared.side.Side.{Side}
use Rattle.stations.specs.Sides.{opposite}
use Rattle.stations.specs.Grid.{Grid}
use Rattle.bisection.specs.Halving.{with_side, bisect_of}

-- Whether the neighbouring places i and i + 1 of the grid have times on different sides.
unfoldable pub crosses : (ℤ → Side) → Grid → ℕ → Bool
crosses σ g i = opposite (σ (g.place i)) (σ (g.place (i + 1)))

-- The bracket of a pair: the interval where its bisection stops. A pair that does not cross is bisected by the same rule, and then the
-- ends of its bracket may be on any side.
unfoldable pub bracket_of : (ℤ → Side) → Grid → ℕ → Bracket
bracket_of σ g i = bisect_of σ (20 - g.halvings i) (g.halvings i) (g.place i) (g.place (i + 1))

-- The bracket of a pair if its lower place counts as being on the side `low`. With the place's own side this is the bracket of the pair:
-- see `own_bracket` in proofs/LowerSide.
unfoldable pub bracket_from : (ℤ → Side) → Side → Grid → ℕ → Bracket
bracket_from σ low g i = bracket_of (with_side σ (g.place i) low) g i
