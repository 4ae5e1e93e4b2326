-- Stations (01, Stations, sides, crossings): the fixed places where a sweep computes the time. Definitions only.
use Rattle.std.specs.Prelude.{ℕ, ◌+◌, ◌^◌, cond, eqb, ℤ, pos, ◌-ℤ◌, ◌*ℤ◌}
use Rattle.std.specs.Int.Signed.{quot_z}
use Rattle.flight_time.specs.Steps.{station_spacing}

-- The number of stations below k = 0: j begins at -4095.
abbrev pub stations_below : ℕ
stations_below = 4095

-- The j of the last station: 16384 for M = 0, and 4095 for M ≥ 1.
abbrev pub last_j : ℕ → ℕ
last_j revolutions = cond (eqb revolutions 0) 16384 4095

-- The place of station i, counted from 0.
unfoldable pub station_of : ℕ → ℤ
station_of i = (pos i -ℤ pos stations_below) *ℤ pos station_spacing

-- The j of the station at place k, which is j·2^20. At a place that is no station, the quotient is rounded toward zero.
unfoldable pub j_of : ℤ → ℤ
j_of k = quot_z k (pos station_spacing)

-- The index of the last station, counted from 0, for a number of whole revolutions.
unfoldable pub last_of : ℕ → ℕ
last_of revolutions = last_j revolutions + stations_below

-- A bound on how far a place, or the upper end of a pair that begins there, is from k = 0. An i64 holds the sum of two places within this
-- bound. Every station whose index fits in a u16 is well within it.
abbrev pub farthest : ℕ
farthest = 2 ^ 40
