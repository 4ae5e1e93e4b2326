-- The time at a place, with L and the time given as their 64 bits. Definitions only.
use Rattle.std.specs.Prelude.{ℕ, ℤ}
use Rattle.float64.specs.Notation.{◌⊖◌, ◌⊗◌, bits, 0F, 1F}
use Rattle.geometry.specs.declared.Triangle.{Triangle}
use Rattle.flight_time.specs.Time.{time_of, place_bits}

-- A triangle whose L has the bits b. Its c/s is 1 − L². ρ and σ are arbitrary, because the time does not depend on them.
unfoldable pub with_lambda : ℕ → Triangle
with_lambda b = record { lambda = bits b; semiperimeter = 1F; chord = 1F ⊖ bits b ⊗ bits b; rho = 0F; sigma = 1F }

-- The bits of the time at the place k with the given number of whole revolutions, for the L with the bits b. If the place is
-- void, the result is 0x7FF8_0000_0000_0000 plus the number of the reason.
unfoldable pub time_bits_of : ℕ → ℤ → ℕ → ℕ
time_bits_of b k revolutions = place_bits (time_of (with_lambda b) k revolutions)
