-- The eight texts of a message, and which texts are legal (02, A10). Definitions only.
use Rattle.std.specs.Prelude.{ℕ, zero, suc, ◌-◌, Bool, true, not, ◌&&◌, List, [], ◌∷◌, eqb, leb, length, get_or}
use Rattle.std.specs.Prelude.{Some, None}
use Rattle.orbit_message.specs.Templates.{Values, values_in}

-- Whether every element passes the test.
unfoldable pub every : {A : Type 0} → (A → Bool) → List A → Bool
every test [] = true
every test (a ∷ rest) = test a && every test rest

-- Whether the byte is printable ASCII. The blank (20 hexadecimal) is the first printable byte.
unfoldable pub is_printable : ℕ → Bool
is_printable c = leb 0x20 c && leb c 0x7E

-- Whether the bytes are a legal text: 1 to 60 bytes of printable ASCII, with no blank first or last.
unfoldable pub is_legal : List ℕ → Bool
is_legal v =
    leb 1 (length v)
    && leb (length v) 60
    && every is_printable v
    && not (eqb (get_or v 0 0) 0x20)
    && not (eqb (get_or v (length v - 1) 0) 0x20)

-- The template of n lines. Each is a value and an LF (10).
unfoldable pub lines_template : ℕ → List ℕ
lines_template zero = []
lines_template (suc n) = 0 ∷ (10 ∷ lines_template n)

-- The values found, or none.
abbrev pub found_in : Values → List (List ℕ)
found_in (Some vs) = vs
found_in None = []

-- How many texts a message has.
abbrev pub text_count : ℕ
text_count = 8

-- The texts that are handed in: eight lines that end with an LF each. For any other bytes the list is empty.
unfoldable pub texts_in : List ℕ → List (List ℕ)
texts_in s = found_in (values_in (lines_template text_count) s)

-- Whether these are eight legal texts.
unfoldable pub are_texts : List (List ℕ) → Bool
are_texts ts = eqb (length ts) text_count && every is_legal ts
