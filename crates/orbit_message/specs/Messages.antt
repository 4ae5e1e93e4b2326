-- The orbit parameter message of CCSDS 502.0-B in the form of 02, A10: fifteen lines of a key and a value. Definitions only.
use Rattle.std.specs.Prelude.{ℕ, List, [], ◌∷◌, ◌++◌, map, replicate}
use Rattle.decimal.specs.declared.Decimal.{Decimal}
use Rattle.decimal.specs.Texts.{text_of}
use Rattle.orbit_message.specs.Ascii.{ascii}

-- The keys, in their order.
unfoldable pub keys : List (List ℕ)
keys =
    ascii "CCSDS_OPM_VERS"
    ∷ ascii "CREATION_DATE"
    ∷ ascii "ORIGINATOR"
    ∷ ascii "OBJECT_NAME"
    ∷ ascii "OBJECT_ID"
    ∷ ascii "CENTER_NAME"
    ∷ ascii "REF_FRAME"
    ∷ ascii "TIME_SYSTEM"
    ∷ ascii "EPOCH"
    ∷ ascii "X"
    ∷ ascii "Y"
    ∷ ascii "Z"
    ∷ ascii "X_DOT"
    ∷ ascii "Y_DOT"
    ∷ ascii "Z_DOT"
    ∷ []

-- The value of the first key.
unfoldable pub version : List ℕ
version = ascii "2.0"

-- A line: the key, an equals sign between two blanks, the value, and an LF (10).
unfoldable pub line : List ℕ → List ℕ → List ℕ
line key value = key ++ (ascii " = " ++ (value ++ (10 ∷ [])))

-- A line for each key with its value.
unfoldable pub lines : List (List ℕ) → List (List ℕ) → List ℕ
lines [] vs = []
lines (k ∷ ks) [] = []
lines (k ∷ ks) (v ∷ vs) = line k v ++ lines ks vs

-- The message of eight texts and six numbers.
unfoldable pub message_of : List (List ℕ) → List Decimal → List ℕ
message_of ts ns = lines keys (version ∷ (ts ++ map text_of ns))

-- The template of a message: the same lines with a 0 for each of the fourteen values, eight texts and six numbers.
unfoldable pub template : List ℕ
template = lines keys (version ∷ replicate 14 (0 ∷ []))
