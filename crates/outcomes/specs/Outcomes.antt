-- Which bytes are a well-formed outcome: an answer or a refusal that is not malformed (02, A1 and A4). Definitions only.
use Rattle.std.specs.Prelude.{ℕ, zero, suc, Bool, true, ◌&&◌, ◌||◌, List, eqb, leb, length}
use Rattle.records.specs.Layout.{answer_kind, refusal_kind, first_number, last_number, most_entries, refusal_size, answer_size}
use Rattle.records.specs.Layout.{kind_of, number_of, size_of, chosen_at}

-- Whether there are exactly n bytes and the length field at their start gives the same size.
unfoldable pub is_sized : List ℕ → ℕ → Bool
is_sized s n = eqb (length s) n && eqb (size_of s) n

-- Whether low ≤ n ≤ high.
abbrev pub is_between : ℕ → ℕ → ℕ → Bool
is_between low high n = leb low n && leb n high

-- Whether the bytes are a refusal: the kind is that of a refusal, the number is in 01's table, and the size and the
-- length field are those of a refusal with this number. So the longer form, with a station and a reason, goes with
-- number 12 and with no other. The job, the revision, the station and the reason may be anything.
unfoldable pub is_refusal : List ℕ → Bool
is_refusal s =
    let number = number_of s in
    eqb (kind_of s) refusal_kind && is_sized s (refusal_size number) && is_between first_number last_number number

-- Whether the chosen end of each of the first n entries is 0 (the lower end) or 1 (the upper end).
unfoldable pub all_name_an_end : ℕ → List ℕ → Bool
all_name_an_end zero s = true
all_name_an_end (suc i) s = all_name_an_end i s && leb (chosen_at i s) 1

-- Whether the bytes are an answer: the kind is that of an answer, there are one to eight entries, the size and the
-- length field are those of an answer with this number of entries, and every chosen end is 0 or 1. The job and the
-- revision may be anything.
unfoldable pub is_answer : List ℕ → Bool
is_answer s =
    let n = number_of s in
    eqb (kind_of s) answer_kind && is_between 1 most_entries n && is_sized s (answer_size n) && all_name_an_end n s

-- Whether the bytes are a well-formed outcome: a refusal or an answer.
unfoldable pub is_outcome : List ℕ → Bool
is_outcome s = is_refusal s || is_answer s
