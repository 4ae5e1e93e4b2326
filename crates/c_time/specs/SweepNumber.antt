-- The result of a sweep as one number: how many crossings it lists, how the walk ended, and the first void station. Definitions only.
use Rattle.std.specs.Prelude.{ℕ, ◌+◌, ◌*◌, ◌^◌}
use Rattle.float64.specs.Notation.{bits}
use Rattle.little_endian.specs.Bytes.{signed32_bits}
use Rattle.hypergeometric.specs.Reasons.{reason_number}
use Rattle.stations.specs.declared.search.Search.{Search}
use Rattle.sweep.specs.Crossings.{sweep_for}
use Rattle.sweep.specs.declared.Crossings.{Crossings}
use Rattle.sweep.specs.declared.walks.VoidStation.{VoidStation}
use Rattle.sweep.specs.declared.walks.Walk.{Walk}
use Rattle.sweep.specs.declared.walks.Walk.TheVariants.{AllTimed, SomeVoid, NinthFound}
use Rattle.c_time.specs.TimeBits.{with_lambda}

-- The number that names a void station: the number of its reason in bits 8 to 10, and the two's complement of its j in bits 32 to 63.
abbrev pub station_number : VoidStation → ℕ
station_number station = 2 ^ 8 * reason_number station.reason + 2 ^ 32 * signed32_bits station.j

-- The number that says how the walk ended. Bit 4 is set if there is no ninth crossing and some station is void, and bit 5 if there is a
-- ninth crossing. Bits 0 to 3 are free for the count of listed crossings, which is at most eight.
abbrev pub walk_number : Walk → ℕ
walk_number AllTimed = 0
walk_number (SomeVoid station) = 16 + station_number station
walk_number NinthFound = 32

-- The number that says how the walk ended, plus the count of listed crossings.
unfoldable pub found_number : Crossings → ℕ
found_number found = walk_number found.walk + found.count

-- The search for the wanted time with the bits w, in the triangle whose L has the bits b.
abbrev pub search_for : ℕ → ℕ → ℕ → Search
search_for b revolutions w = record { triangle = with_lambda b; revolutions = revolutions; wanted = bits w }

-- The result, as one number, of the sweep for the search that `search_for` gives.
unfoldable pub sweep_number_of : ℕ → ℕ → ℕ → ℕ
sweep_number_of b revolutions w = found_number (sweep_for (search_for b revolutions w))
