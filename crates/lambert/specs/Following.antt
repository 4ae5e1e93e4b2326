-- What `lambert` returns about the next slot of the input, and what it does to the bytes of its input and its output, where those are
-- known. A result says whether another slot may follow, or that reading the slot or writing its record failed. Definitions only.
use Rattle.std.specs.Prelude.{◌≡◌, Bool, true, false, List, ℕ, Option, Some, Result, Ok, Err, take, drop}
use Rattle.std.specs.Io.KnownBytes.{Appends}
use Rattle.records.specs.Layout.{question_size}
use Rattle.slot_records.specs.Inputs.{records_of, slot_record, slot_reply}
use Rattle.lambert.specs.declared.Failure.{Failure}

-- The result says whether another slot may follow, as `slot_reply` gives it for the bytes that were read. After a failed write nothing is
-- promised.
abbrev pub Follows : List ℕ → Result Bool Failure → Type 0
Follows came (Ok another) = (slot_reply came).another ≡ another
Follows came (Err e) = Unit {0}

-- Unless the result is a failure, the output grows by the given bytes.
abbrev pub Grows : (output after : Option (List ℕ)) → List ℕ → Result Bool Failure → Type 0
Grows output after bytes (Ok another) = Appends output after bytes
Grows output after bytes (Err e) = Unit {0}

-- The first slot of the input xs is answered: the output grows by its record. If another slot may follow, the rest of the input is left.
abbrev pub SlotAnswered : List ℕ → (rest output after : Option (List ℕ)) → Result Bool Failure → Type 0
SlotAnswered xs rest output after (Ok true) =
    (rest ≡ Some (drop question_size xs))
    × Appends output after (slot_record (take question_size xs))
    × ((slot_reply (take question_size xs)).another ≡ true)
SlotAnswered xs rest output after (Ok false) =
    Appends output after (slot_record (take question_size xs)) × ((slot_reply (take question_size xs)).another ≡ false)
SlotAnswered xs rest output after (Err e) = Unit {0}

-- If the result says that no slot follows, the whole input xs is answered: the output grows by the records of all its slots. For any
-- other result nothing is promised.
abbrev pub InputAnswered : List ℕ → (output after : Option (List ℕ)) → Result Bool Failure → Type 0
InputAnswered xs output after (Ok true) = Unit {0}
InputAnswered xs output after (Ok false) = Appends output after (records_of xs)
InputAnswered xs output after (Err e) = Unit {0}
