-- Numbers stored one after another in bytes, by a table of their widths. Definitions only.
use Rattle.std.specs.Prelude.{ℕ, ◌+◌, List, [], ◌∷◌, ◌++◌}
use Rattle.little_endian.specs.Bytes.{bytes_of, number_at}

-- The number of bytes that fields of these widths take together.
unfoldable pub total : List ℕ → ℕ
total [] = 0
total (w ∷ ws) = w + total ws

-- The numbers of these widths that are stored one after another from the offset `at` on.
unfoldable pub decode : List ℕ → List ℕ → ℕ → List ℕ
decode [] s at = []
decode (w ∷ ws) s at = number_at w s at ∷ decode ws s (at + w)

-- The bytes of the numbers, one after another, each number in its width.
unfoldable pub packed : List ℕ → List ℕ → List ℕ
packed [] vs = []
packed (w ∷ ws) [] = []
packed (w ∷ ws) (v ∷ vs) = bytes_of w v ++ packed ws vs
