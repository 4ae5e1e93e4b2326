-- `bracket_of` meets its contract: the pair, 2^20 wide and not halved yet, meets the precondition of `bisect`.
use native.Mathlib.Omega.{arith}
use Rattle.bisection.specs.Pairs.{bracket_of, bracket_from}
use Rattle.stations.proofs.Places.{station_room, station_read, next_station, upper_fits, upper_read}
use Rattle.bisection.proofs.bracket_of.Goals as goal

pub overflow_add-a : goal.overflow_add-a
overflow_add-a c = upper_fits c.station-a.ensures (omega arith)

pub bisect-requires : goal.bisect-requires
bisect-requires c =
    let upper = upper_read c.station-a.ensures (omega arith) in
    let lower = station_read c.station-a.ensures (omega arith) in
    rw (upper, lower) (record { upper_is = next_station _; most = omega arith; room = station_room _ (omega arith) })

pub returns : goal.returns
unfolding bracket_of bracket_from
returns c =
    let upper = upper_read c.station-a.ensures (omega arith) in
    let lower = station_read c.station-a.ensures (omega arith) in
    rw (c.bisect.ensures, upper, lower)
