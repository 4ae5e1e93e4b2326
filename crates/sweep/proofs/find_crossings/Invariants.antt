-- `find_crossings` meets its contract: the invariant is `Passed`, which states what is known about the stations below i. The measure is
-- the number of stations left.
use Prim.Native.Nat.{◌+◌, ◌-◌}
use Rattle.stations.specs.Grid.{stations}
use Rattle.stations.specs.Sides.{side_at}
use Rattle.sweep.proofs.Turns.{Passed}
use Rattle.sweep.proofs.find_crossings.Given as goal

abbrev pub invariant-stations : goal.invariant-stations
invariant-stations l = Passed (side_at l.search) stations l.last l.list l.count l.seen l.low l.i

abbrev pub decreases-stations : goal.decreases-stations
decreases-stations l = l.last + 1 - l.i
