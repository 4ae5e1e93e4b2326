-- The reasons for a refusal as texts in bytes. Definitions only.
use Rattle.std.specs.Prelude.{ℕ, cond, List, [], ◌∷◌, eqb}
use Prim.Native.Char.{code}
use Prim.Native.String.{String, [] as end, ◌∷◌ as ◌then◌}

-- The bytes of an ASCII text.
unfoldable pub text_bytes : String → List ℕ
text_bytes end = []
text_bytes (c then text) = code c ∷ text_bytes text

-- The text for each refusal, B0 to B3, given by its number. Any other number has an empty text.
unfoldable pub reason_of : ℕ → List ℕ
reason_of number =
    cond (eqb number 0) (text_bytes "B0: the board is not one")
    (cond (eqb number 1) (text_bytes "B1: it is malformed")
    (cond (eqb number 2) (text_bytes "B2: its job is 0")
    (cond (eqb number 3) (text_bytes "B3: no slot is free for a new job") [])))

-- The text for a length above that of the longest record.
unfoldable pub length_reason : List ℕ
length_reason = text_bytes "B1: no record has its length, so nothing tells where the next starts, and no board is written"

-- The number of bytes of the longest of these texts.
abbrev pub reason_room : ℕ
reason_room = 93
