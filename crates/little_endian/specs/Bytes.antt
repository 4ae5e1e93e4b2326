-- Numbers as little-endian bytes, and bytes written to the start of a buffer (01, Records on the wire). Definitions only.
use Rattle.std.specs.Prelude.{ℕ, zero, suc, ◌+◌, ◌-◌, ◌*◌, ◌/◌, ◌%◌, ◌^◌, ◌<◌, Bool, cond, List, [], ◌∷◌, ◌++◌, leb, ltb, ℤ, pos, negsuc}
use Rattle.std.specs.Prelude.{length, get_or, drop}

-- Every element of the list is a byte. This holds for the contents of every slice of bytes.
abbrev pub AreBytes : List ℕ → Type 0
AreBytes s = (i : ℕ) → get_or s i 0 < 256

-- The lowest w bytes of a number, lowest byte first.
unfoldable pub bytes_of : ℕ → ℕ → List ℕ
bytes_of zero x = []
bytes_of (suc w) x = x % 256 ∷ bytes_of w (x / 256)

-- The number stored in the w bytes from the offset `at` on, lowest byte first. A byte past the end counts as 0.
unfoldable pub number_at : ℕ → List ℕ → ℕ → ℕ
number_at zero s at = 0
number_at (suc w) s at = get_or s at 0 + 256 * number_at w s (at + 1)

-- The two's complement of a signed number as a word of w bits. `negsuc n` is -(n + 1).
unfoldable pub twos_complement : ℕ → ℤ → ℕ
twos_complement w (pos n) = n
twos_complement w (negsuc n) = 2 ^ w - suc n

-- The signed number whose two's complement in w bits is b.
unfoldable pub from_twos_complement : ℕ → ℕ → ℤ
from_twos_complement w b = cond (ltb b (2 ^ (w - 1))) (pos b) (negsuc (2 ^ w - suc b))

-- Both for words of 64 bits, and then for words of 32 bits.
abbrev pub signed_bits : ℤ → ℕ
signed_bits k = twos_complement 64 k

abbrev pub signed_of : ℕ → ℤ
signed_of b = from_twos_complement 64 b

abbrev pub signed32_bits : ℤ → ℕ
signed32_bits k = twos_complement 32 k

abbrev pub signed32_of : ℕ → ℤ
signed32_of b = from_twos_complement 32 b

-- Whether the buffer has room for the bytes.
unfoldable pub has_room : List ℕ → List ℕ → Bool
has_room buffer bytes = leb (length bytes) (length buffer)

-- The buffer with the bytes at its start and the rest unchanged. If there is no room, the whole buffer is unchanged.
unfoldable pub written : List ℕ → List ℕ → List ℕ
written buffer bytes = cond (has_room buffer bytes) (bytes ++ drop (length bytes) buffer) buffer
