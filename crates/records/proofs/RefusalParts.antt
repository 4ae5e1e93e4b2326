-- Shows that the bytes of a refusal are those of its head and then, for number 12 alone, those of station and reason
-- (`refusal_parts`). The proof computes both cases.
use mathlib.Core.Path.{◌≡◌, refl, ap, ◌∙◌}
use mathlib.Core.Bool.{Bool, true, false, cond}
use mathlib.Core.List.{List, [], ◌++◌, append_assoc}
use Prim.Native.Nat.{ℕ}
use lib.Dec.{eqb}
use Rattle.little_endian.specs.Bytes.{bytes_of, signed32_bits}
use Rattle.records.specs.Layout.{STATION, REASON, encode, head_fields, void_refusal_fields, void_number}
use Rattle.records.specs.Records.{head_bytes, refusal_head_of, refusal_numbers, refusal_bytes}
use Rattle.records.specs.declared.Refusal.{Refusal}

-- The bytes of a refusal after its head.
pub after_head : Refusal → List ℕ
after_head r =
    cond (eqb r.number void_number) (bytes_of STATION.width (signed32_bits r.station) ++ bytes_of REASON.width r.reason) []

pub refusal_parts : (r : Refusal) → refusal_bytes r ≡ head_bytes (refusal_head_of r) ++ after_head r
unfolding refusal_bytes refusal_head_of head_bytes after_head encode head_fields void_refusal_fields bytes_of
refusal_parts r = by (eqb r.number void_number)
  where
    by : (b : Bool) →
        encode (cond b void_refusal_fields head_fields) (refusal_numbers r)
        ≡ head_bytes (refusal_head_of r)
        ++ cond b (bytes_of STATION.width (signed32_bits r.station) ++ bytes_of REASON.width r.reason) []
    by true = refl
    by false = refl

pub refusal_starts : (r : Refusal) (rest : List ℕ) → refusal_bytes r ++ rest ≡ head_bytes (refusal_head_of r) ++ (after_head r ++ rest)
refusal_starts r rest =
    ap (λ (l : List ℕ). l ++ rest) (refusal_parts r) ∙ append_assoc (head_bytes (refusal_head_of r)) (after_head r) rest
