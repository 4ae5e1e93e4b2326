-- The report about some places names a void place exactly if some of these places is void (`agrees`). `first_void` and `some` go through
-- the same list of indices, so the proof follows that list.
use mathlib.Core.Bool.{Bool, true, false, ◌||◌}
use mathlib.Core.List.{List, [], ◌∷◌}
use Prim.Native.Nat.{ℕ}
use lib.IntN.{ℤ}
use Rattle.stations.specs.declared.side.Side.{Side}
use Rattle.stations.specs.declared.side.Side.TheVariants.{Below, NotBelow, Unknown}
use Rattle.stations.specs.Sides.{is_unknown}
use Rattle.stations.specs.Grid.{Grid}
use Rattle.sweep.specs.Crossings.{some}
use Rattle.sweep.specs.Walks.{void_at, or_later, first_void}
use Rattle.sweep.specs.declared.walks.VoidStation.{VoidStation}
use Rattle.sweep.specs.declared.walks.Walk.{Walk}
use Rattle.sweep.specs.declared.walks.Walk.TheVariants.{AllTimed, SomeVoid}

-- A report about some places, and whether one of them is void.
pub data Agrees : Walk → Bool → Type 0 where
  none_void : Agrees AllTimed false
  some_void_lem : (station : VoidStation) → Agrees (SomeVoid station) true

one_more : (side : Side) (k : ℤ) {later : Walk} {any : Bool} → Agrees later any →
    Agrees (or_later (void_at side k) later) (is_unknown side || any)
one_more Below k a = a
one_more NotBelow k a = a
one_more (Unknown reason) k a = some_void_lem _

pub agrees : (σ : ℤ → Side) (g : Grid) (is : List ℕ) → Agrees (first_void σ g is) (some (λ i. is_unknown (σ (g.place i))) is)
unfolding first_void some
agrees σ g [] = none_void
agrees σ g (i ∷ is) = one_more (σ (g.place i)) (g.place i) (agrees σ g is)
