-- `refusals::write_refusal` meets its contract: the numbers, each stored in the width
-- that the table gives, are the bytes of a refusal with number 12, and any other refusal is its head.
use mathlib.Core.Path.{◌≡◌, sym, ap}
use mathlib.Core.Bool.{Bool, true, false, cond}
use mathlib.Core.List.{[], ◌∷◌}
use borrow.Author.Tests.{eq-eqb, ne_eqb}
use lib.Dec.{eqb}
use Rattle.little_endian.specs.Bytes.{bytes_of}
use Rattle.little_endian.specs.Tables.{packed}
use Rattle.records.specs.Layout.{encode, head_fields, void_refusal_fields, void_number}
use Rattle.records.specs.Records.{head_bytes, refusal_head_of, refusal_numbers, refusal_bytes}
use Rattle.records.specs.declared.Refusal.{Refusal}
use Rattle.records.proofs.refusals.write_refusal.Goals as goal

void_bytes : (r : Refusal) → eqb r.number void_number ≡ true →
    packed (4 ∷ 2 ∷ 4 ∷ 4 ∷ 2 ∷ 4 ∷ 2 ∷ []) (refusal_numbers r) ≡ refusal_bytes r
unfolding refusal_bytes encode void_refusal_fields packed bytes_of
void_bytes r is_12 = ap (λ (b : Bool). encode (cond b void_refusal_fields head_fields) (refusal_numbers r)) (sym is_12)

other_bytes : (r : Refusal) → eqb r.number void_number ≡ false → head_bytes (refusal_head_of r) ≡ refusal_bytes r
unfolding refusal_bytes refusal_head_of head_bytes encode head_fields
other_bytes r not_12 = ap (λ (b : Bool). encode (cond b void_refusal_fields head_fields) (refusal_numbers r)) (sym not_12)

pub returns-then-r-eq-VOID_NUMBER : goal.returns-then-r-eq-VOID_NUMBER
returns-then-r-eq-VOID_NUMBER c =
    let r = c.args.r in
    let bytes = void_bytes r (eq-eqb r.number void_number c.if-r-eq-VOID_NUMBER.true) in
    simp (c.numbers_of.ensures, bytes) at c.put_numbers.ensures

pub returns-else-r-eq-VOID_NUMBER : goal.returns-else-r-eq-VOID_NUMBER
returns-else-r-eq-VOID_NUMBER c =
    let r = c.args.r in
    let bytes = other_bytes r (ne_eqb r.number void_number c.if-r-eq-VOID_NUMBER.false) in
    simp (c.head_of.ensures, bytes) at c.write_head.ensures
