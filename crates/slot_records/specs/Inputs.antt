-- The output for an input of slots, and for one slot (01, Records on the wire). Definitions only.
use Rattle.std.specs.Prelude.{ℕ, zero, suc, ◌≡◌, cond, List, [], ◌∷◌, ◌++◌, eqb, length, take, drop}
use Rattle.question_record.specs.Record.{record_of}
use Rattle.records.specs.Layout.{question_size}
use Rattle.slot_records.specs.declared.SlotReply.{SlotReply}

-- Up to n slots of an input. Each has 82 bytes; the last one is shorter if the input ends within it.
unfoldable pub slots_in : ℕ → List ℕ → List (List ℕ)
slots_in zero input = []
slots_in (suc n) [] = []
slots_in (suc n) (b ∷ bs) = take question_size (b ∷ bs) ∷ slots_in n (drop question_size (b ∷ bs))

-- All slots of an input. No slot is empty, so there are no more slots than bytes.
unfoldable pub slots_of : List ℕ → List (List ℕ)
slots_of input = slots_in (length input) input

-- The records of the given slots, one for each, in order.
unfoldable pub records_for : List (List ℕ) → List ℕ
records_for [] = []
records_for (slot ∷ slots) = record_of slot ++ records_for slots

-- The output for a whole input. An empty input has no slot, so its output is empty.
unfoldable pub records_of : List ℕ → List ℕ
records_of input = records_for (slots_of input)

-- The output for one slot, from the bytes of it that were read. If there are none, the input has ended and the output is empty.
unfoldable pub slot_record : List ℕ → List ℕ
slot_record came = cond (eqb (length came) 0) [] (record_of came)

-- The size of that output, and whether another slot may follow. After a short slot none does.
unfoldable pub slot_reply : List ℕ → SlotReply
slot_reply came = record { size = length (slot_record came); another = eqb (length came) question_size }

-- The output for an input is the output for its first slot, followed by the output for the rest if another slot may follow.
abbrev pub BySteps : List ℕ → Type 0
BySteps input =
    let slot = take question_size input in
    records_of input ≡ slot_record slot ++ cond (slot_reply slot).another (records_of (drop question_size input)) []
