-- What the private functions compute. These definitions are not needed to read the contract of `post`. Definitions
-- only.
use Rattle.std.specs.Prelude.{ℕ, zero, suc, ◌+◌, ◌-◌, ◌*◌, Bool, true, cond, not, ◌&&◌, List, ◌++◌, eqb, ltb, take, drop}
use Rattle.records.specs.Layout.{LENGTH, answer_room, value_of, job_of, revision_of}
use Rattle.records.specs.Records.{conflict_bytes}
use Rattle.slots.specs.Slots.{is_filled}
use Rattle.board.specs.declared.moves.Route.{Route}
use Rattle.board.specs.declared.moves.Route.TheVariants.{Joins, Enters, NoneFree}
use Rattle.board.specs.declared.moves.Change.{Change}
use Rattle.board.specs.declared.moves.Change.TheVariants.{Nothing, Replaced, Conflict}
use Rattle.board.specs.Board.{SLOTS}

-- How many of n slots come before the first one that fails a test. The test gets all bytes from the slot on.
unfoldable pub slots_while : (List ℕ → Bool) → ℕ → List ℕ → ℕ
slots_while test zero b = 0
slots_while test (suc n) b = cond (test b) (suc (slots_while test n (drop answer_room b))) 0

-- Whether the length field of the first slot is not 0.
abbrev pub has_length : List ℕ → Bool
has_length b = not (eqb (value_of LENGTH b) 0)

-- How many of n slots come before the first one whose length field is 0.
abbrev pub slots_before_free : ℕ → List ℕ → ℕ
slots_before_free n b = slots_while has_length n b

-- Whether the job of the first slot is below the given job.
abbrev pub is_below : ℕ → List ℕ → Bool
is_below job b = ltb (job_of b) job

-- How many of n slots come before the first one whose job is not below the given job.
abbrev pub slots_below : ℕ → ℕ → List ℕ → ℕ
slots_below n job b = slots_while (is_below job) n b

-- Whether n slots are filled and have rising job numbers above the job `above`.
unfoldable pub filled_rising : ℕ → ℕ → List ℕ → Bool
filled_rising zero above b = true
filled_rising (suc n) above b =
    let slot = take answer_room b in
    is_filled slot && ltb above (job_of slot) && filled_rising n (job_of slot) (drop answer_room b)

-- How a record of the given job is put into a board. On a board, the number of slots with lower jobs is the index of
-- its slot.
unfoldable pub route_of : List ℕ → ℕ → Route
route_of b job =
    let n = slots_before_free SLOTS b in
    let i = slots_below n job b in
    let from = i * answer_room in
    cond (ltb i n && eqb (job_of (drop from b)) job) (Joins from) (cond (eqb n SLOTS) NoneFree (Enters from (n * answer_room)))

-- What is held for a job after each kind of change.
abbrev pub changed : Change → List ℕ → List ℕ → List ℕ
changed Nothing held new = held
changed Replaced held new = new
changed Conflict held new = conflict_bytes (job_of new) (revision_of new)

-- The board after its bytes from offset `from` to just before offset `to` are moved up by one slot. The slot at `from`
-- keeps its old bytes.
unfoldable pub moved_up : ℕ → ℕ → List ℕ → List ℕ
moved_up from to b = take (from + answer_room) b ++ take (to - from) (drop from b) ++ drop (to + answer_room) b
