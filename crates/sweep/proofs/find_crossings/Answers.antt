-- `find_crossings` meets its contract: the invariant is `Passed`, which states what is known about the stations below i. The measure is
-- the number of stations left.
use mathlib.Core.Path.{sym, ◌∙◌}
use Prim.Native.Nat.{◌+◌, ◌-◌, ◌≤◌, ◌<◌}
use native.Mathlib.Omega.{arith}
use Rattle.stations.specs.Grid.{stations}
use Rattle.stations.specs.SearchGrid.{grid_for, last_for}
use Rattle.stations.proofs.Places.{last_small}
use Rattle.sweep.proofs.Turns.{starts, pair, turned, ended}
use Rattle.stations.specs.Sides.{opposite, side_at}
use lib.ListN.{set}
use mathlib.Core.Path.{◌≡◌}
use mathlib.Core.Bool.{true, false}
use Rattle.bisection.specs.Pairs.{bracket_from}
use Rattle.sweep.proofs.find_crossings.Goals as goal
use Rattle.sweep.proofs.find_crossings.Goals.{In-stations}

pub stations-init : goal.stations-init
stations-init c = starts _ _ _

-- In an iteration, i is at most the index of the last station, so i + 1 fits in a u16.
small : (c : In-stations) → c.stations.i + 1 < 65536
small c =
    let search = c.args.search in
    omega (arith, c.stations-test.true, c.last_station-last.ensures, last_small search.revolutions)

pub overflow_sub-i : goal.overflow_sub-i
overflow_sub-i c =
    let apart = sym c.are_opposite.ensures ∙ c.if-are_opposite.true in
    omega (arith, (pair c.stations.invariant c.side_of_station-high.ensures apart).positive)

pub overflow_add-i : goal.overflow_add-i
overflow_add-i c =
    omega (arith, small (goal.at.overflow_add-i c).In-stations)

pub stations-smaller : goal.stations-smaller
stations-smaller c =
    omega (arith, c.stations-test.true)

pub stations-preserved : goal.stations-preserved
stations-preserved c =
    let inv = c.stations.invariant in
    let within : c.stations.i ≤ c.last_station-last.result = omega (arith, c.stations-test.true) in
    let apart = opposite c.stations.low c.side_of_station-high.result ≡ true in
    let alike = opposite c.stations.low c.side_of_station-high.result ≡ false in
    let bracket = bracket_from (side_at c.args.search) c.stations.low stations (c.stations.i - 1) in
    let written : apart → c.if-are_opposite.list ≡ set c.stations.list c.stations.count bracket = λ o. grind arith in
    let more : apart → c.if-are_opposite.count ≡ c.stations.count + 1 = λ o. grind arith in
    let room : apart → c.stations.count ≡ 8 → ⊥ = λ o e. grind arith in
    let kept : alike → c.if-are_opposite.list ≡ c.stations.list = λ o. grind arith in
    let same : alike → c.if-are_opposite.count ≡ c.stations.count = λ o. grind arith in
    turned inv c.side_of_station-high.ensures c.report_with-seen.ensures within written more room kept same

pub returns : goal.returns
unfolding grid_for last_for
returns c =
    let last = c.last_station-last.result in
    let full : c.stations.i ≤ last → c.stations.count ≡ 8 = λ h. grind arith in
    let high = side_at c.args.search (stations.place c.stations.i) in
    let crossing : c.stations.i ≤ last → opposite c.stations.low high ≡ true = λ h. grind arith in
    rw (c.walk_of.ensures, ← c.last_station-last.ensures) (ended c.stations.invariant full crossing)
