-- The sizes, in units of 2 ^ -1074, that are halfway between two neighbouring counts of billionths (02, A10). Definitions only;
-- proofs/Ties.antt shows which they are.
use Rattle.std.specs.Prelude.{◌≡◌, ℕ, ◌+◌, ◌*◌, ◌^◌}

-- n units of 2 ^ -1074 are halfway between the counts k and k + 1: n * 10 ^ 9 / 2 ^ 1074 is k + 1/2.
abbrev pub IsTie : ℕ → Type 0
IsTie n = (k : ℕ) × (2 * n * 10 ^ 9 ≡ (2 * k + 1) * 2 ^ 1074)

-- n units of 2 ^ -1074 are an odd multiple of 2 ^ -10.
abbrev pub IsOddMultiple : ℕ → Type 0
IsOddMultiple n = (j : ℕ) × (n ≡ (2 * j + 1) * 2 ^ 1064)

-- A size is a tie exactly if it is an odd multiple of 2 ^ -10.
pub record TieExactly (n : ℕ) : Type 0 where
  pub there : IsTie n → IsOddMultiple n
  pub back : IsOddMultiple n → IsTie n
