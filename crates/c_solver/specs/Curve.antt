-- The values for a host that draws a question's curve. Definitions only.
use Rattle.std.specs.Prelude.{Result, Ok, Err}
use Rattle.std.specs.Prelude.{ℕ, ◌+◌, List, ℤ}
use Rattle.float64.specs.Notation.{bits_of}
use Rattle.entrance.specs.declared.Problem.{Problem}
use Rattle.entrance.specs.declared.Fault.{Fault}
use Rattle.entrance.specs.Judge.{judge_of}
use Rattle.flight_time.specs.Time.{place_bits}
use Rattle.entries.specs.Entries.{place_of}
use Rattle.solver.specs.Crossed.{last_station}
use Rattle.records.specs.Layout.{answer_room}

-- The value in place of a time for a refused question: all bits are ones. This is our own choice. A void place of an accepted question
-- has another value, which `place_bits` defines.
abbrev pub refused_bits : ℕ
refused_bits = 0xFFFF_FFFF_FFFF_FFFF

-- The bits of the wanted time, given the verdict of the entrance checks. A refused question has none.
abbrev pub wanted_after : Result Problem Fault → ℕ
wanted_after (Err fault) = refused_bits
wanted_after (Ok p) = bits_of p.wanted

-- How many stations a question has, given the verdict of the entrance checks. A refused question
-- has none.
abbrev pub stations_after : Result Problem Fault → ℕ
stations_after (Err fault) = 0
stations_after (Ok p) = last_station p + 1

-- The bits of the time at a place, given the verdict of the entrance checks. If the place is void, they are the bits of a NaN that carry
-- the number of the reason (`place_bits`). A refused question has no time anywhere.
abbrev pub time_after : Result Problem Fault → ℤ → ℕ
time_after (Err fault) k = refused_bits
time_after (Ok p) k = place_bits (place_of p k)

-- The bits of the wanted time of a question, judged with room for the longest answer.
unfoldable pub wanted_bits : List ℕ → ℕ
wanted_bits question = wanted_after (judge_of question answer_room)

-- How many stations a question has, judged with room for the longest answer.
unfoldable pub station_count : List ℕ → ℕ
station_count question = stations_after (judge_of question answer_room)

-- The bits of the time at a place, for a question judged with room for the longest answer.
unfoldable pub time_bits : List ℕ → ℤ → ℕ
time_bits question k = time_after (judge_of question answer_room) k
