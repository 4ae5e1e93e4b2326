-- The slots of a board: what a slot may hold, and its bytes (02, A1). Definitions only.
use Rattle.std.specs.Prelude.{ℕ, Bool, ◌&&◌, ◌||◌, List, ◌++◌, eqb, take, drop, replicate}
use Rattle.std.specs.List.{list_all}
use Rattle.std.specs.Str.{bytes_eq}
use Rattle.records.specs.Layout.{answer_room, conflict_kind, conflict_size, kind_of, size_of}
use Rattle.outcomes.specs.Outcomes.{is_sized, is_outcome}

-- The bytes followed by zeros, up to the given size. Bytes beyond that size are cut off.
unfoldable pub padded : ℕ → List ℕ → List ℕ
padded size bytes = take size (bytes ++ replicate size 0)

-- The slot that holds the given bytes. A slot has room for the longest answer.
abbrev pub slot_of : List ℕ → List ℕ
slot_of bytes = padded answer_room bytes

-- The content of a slot: the bytes at its start, up to the size that its length field gives.
unfoldable pub content_of : List ℕ → List ℕ
content_of s = take (size_of s) s

-- Whether the bytes are a conflict. The job and the revision may be anything.
unfoldable pub is_conflict : List ℕ → Bool
is_conflict s = eqb (kind_of s) conflict_kind && is_sized s conflict_size

-- Whether a slot may hold these bytes: they are a well-formed outcome or a conflict.
unfoldable pub is_held : List ℕ → Bool
is_held s = is_outcome s || is_conflict s

-- Whether all bytes are 0.
unfoldable pub is_zero : List ℕ → Bool
is_zero s = list_all (λ b. eqb b 0) s

-- Whether a slot is filled: its content is what a slot may hold, and all bytes after the content are 0.
unfoldable pub is_filled : List ℕ → Bool
is_filled s = is_held (content_of s) && is_zero (drop (size_of s) s)

-- Whether two lists of bytes are equal.
unfoldable pub same_bytes : List ℕ → List ℕ → Bool
same_bytes a b = bytes_eq a b
