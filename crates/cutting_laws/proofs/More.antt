-- More bytes change the verdict only if it was nothing yet: a bad length remains a bad length (`bad_more`), and a whole question remains
-- a whole question (`whole_more`), because only the bytes of the length decide. If more bytes finish a question, it ends within these
-- (`part_ends`).
use mathlib.Core.Path.{◌≡◌, sym, ap, ◌∙◌}
use mathlib.Core.List.{List, ◌++◌}
use Prim.Native.Nat.{ℕ, ◌≤◌, ◌<◌}
use native.Mathlib.Omega.{arith}
use lib.ListN.{length, take, drop, length-append, take-append-drop}
use lib.Seq.{length-take-le}
use Rattle.little_endian.proofs.Same.{number_front}
use Rattle.records.specs.Layout.{LENGTH, value_of}
use Rattle.std.specs.Prelude.{Some, None, Ok, Err}
use Rattle.link_reader.specs.declared.Refusal.TheVariants.{BadLength}
use Rattle.link_reader.specs.Verdicts.{Verdict, few, bad, part, whole}
use Rattle.cutting_laws.specs.Feeding.{IsQuestion}

-- Once all bytes of a length have arrived, more bytes do not change its value.
value_front : (s p : List ℕ) → LENGTH.width ≤ length s → value_of LENGTH (s ++ p) ≡ value_of LENGTH s
value_front s p n = number_front LENGTH.width LENGTH.offset s p n

longer : (s p : List ℕ) {n : ℕ} → n ≤ length s → n ≤ length (s ++ p)
longer s p h = omega (arith, length-append s p)

pub bad_more : {s : List ℕ} (p : List ℕ) → Verdict s (Err BadLength) → Verdict (s ++ p) (Err BadLength)
bad_more {s} p (bad n f) = bad (longer s p n) (rw (value_front s p n) f)

pub whole_more : {s : List ℕ} {size : ℕ} (p : List ℕ) → Verdict s (Ok (Some size)) → Verdict (s ++ p) (Ok (Some size))
whole_more {s} {size} p (whole n f l e) =
    let same = value_front s p n in
    whole {size = size} (longer s p n) (rw same f) (rw same (longer s p l)) (rw same e)

-- If more bytes finish a question, its last byte is one of these.
pub part_ends : {s : List ℕ} {size : ℕ} (p : List ℕ) → Verdict s (Ok None) → Verdict (s ++ p) (Ok (Some size)) → length s < size
part_ends p (few l) (whole m h k e) = omega arith
part_ends {s} p (part n f l) (whole m h k e) = omega (arith, value_front s p n)

-- The first bytes of a stream that form a whole question are the bytes of a question.
pub whole_is : {s : List ℕ} {size : ℕ} → Verdict s (Ok (Some size)) → IsQuestion (take size s)
whole_is {s} {size} (whole n f l e) =
    let q = take size s in
    let long : length q ≡ size = length-take-le size s (omega arith) in
    let same : value_of LENGTH s ≡ value_of LENGTH q =
    ap (value_of LENGTH) (sym (take-append-drop size s)) ∙ value_front q (drop size s) (omega arith) in
    record { sized = omega arith; in_force = rw (← same) f }

pub whole_alone : {s : List ℕ} {size : ℕ} → Verdict s (Ok (Some size)) → Verdict (take size s) (Ok (Some size))
whole_alone {s} {size} (whole n f l e) =
    let q = whole_is (whole {size = size} n f l e) in
    let long : length (take size s) ≡ size = length-take-le size s (omega arith) in
    whole {size = size} (omega arith) q.in_force (omega (arith, q.sized)) (omega (arith, q.sized))
