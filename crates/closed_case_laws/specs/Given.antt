-- The parts of the tables of computed cases: numbers as bits, the bytes of a question, and a triangle with a given L.
-- Definitions only.
use Rattle.std.specs.Prelude.{ℕ, List}
use Rattle.float64.specs.Notation.{◌⊖◌, ◌⊗◌, bits, 0F, 1F}
use Rattle.float64.specs.declared.Vector.{Vector}
use Rattle.geometry.specs.declared.Triangle.{Triangle}
use Rattle.records.specs.Layout.{question_kind, question_length}
use Rattle.records.specs.Records.{question_bytes}

-- The bits of 0.5, 1 and 2.
abbrev pub HALF : ℕ
HALF = 0x3FE0_0000_0000_0000

abbrev pub ONE : ℕ
ONE = 0x3FF0_0000_0000_0000

abbrev pub TWO : ℕ
TWO = 0x4000_0000_0000_0000

-- A vector in the plane z = 0. The arguments are the bits of its x and y.
abbrev pub flat : ℕ → ℕ → Vector
flat x y = record { x = bits x; y = bits y; z = bits 0 }

-- The bytes of a question with revision 2. The arguments are the job, M, the way, the spare byte, the two positions,
-- and the bits of mu and the time.
unfoldable pub asked : ℕ → ℕ → ℕ → ℕ → Vector → Vector → ℕ → ℕ → List ℕ
asked job m way spare p1 p2 mu time =
    question_bytes
    (record {
      length = question_length;
      kind = question_kind;
      job = job;
      revision = 2;
      revolutions = m;
      way = way;
      spare = spare;
      r1 = p1;
      r2 = p2;
      mu = bits mu;
      time = bits time;
    })

-- A triangle whose L has the given bits. Its c/s is 1 − L². ρ and σ are arbitrary, because the time does not depend on
-- them.
unfoldable pub with_lambda : ℕ → Triangle
with_lambda L = record { lambda = bits L; semiperimeter = 1F; chord = 1F ⊖ bits L ⊗ bits L; rho = 0F; sigma = 1F }
