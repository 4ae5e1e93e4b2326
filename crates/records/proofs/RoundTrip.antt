-- Shows that reading the bytes of a record returns the record, whatever follows them, if its values fit their fields
-- (`question_back`, `head_back`, `refusal_back`, `entry_back`). Each proof applies `table_back` to the record's table. A refusal
-- has one of two tables, by its number.
use mathlib.Core.Path.{◌≡◌, refl, sym, ap, ◌∙◌}
use mathlib.Core.Bool.{Bool, true, false, cond}
use mathlib.Core.List.{List, [], ◌∷◌, ◌++◌}
use Prim.Native.Nat.{ℕ, ◌^◌, ◌<◌}
use native.Mathlib.Omega.{arith}
use borrow.Author.Tests.{eqb-false}
use lib.Dec.{T, eqb}
use lib.Ieee.{Float, binary64, fits}
use lib.Ieee.Bits.{to_bits-lt}
use lib.IntN.{ℤ}
use lib.ListN.{get_or}
use mir.Syntax.{w32, w64}
use Rattle.float64.specs.Notation.{bits, bits_of}
use Rattle.float64.specs.declared.Vector.{Vector}
use Rattle.float64.proofs.Bits.{read_back}
use Rattle.little_endian.specs.Bytes.{signed_of, signed32_of}
use Rattle.little_endian.specs.Tables.{decode, packed}
use Rattle.little_endian.proofs.RoundTrip.{InRange, done, ◌⟫◌, table_back}
use Rattle.little_endian.proofs.Twos.{signed_lt, signed_back}
use Rattle.records.specs.Layout.{encode, question_fields, head_fields, void_refusal_fields, entry_fields}
use Rattle.records.specs.Layout.{refusal_size, length_for, number_of, void_number}
use Rattle.records.specs.Records.{question_of, question_bytes, head_of, head_numbers, head_bytes, refusal_of, refusal_with, refusal_numbers}
use Rattle.records.specs.Records.{refusal_bytes, refusal_head_of, entry_of, entry_bytes}
use Rattle.records.specs.Ranges.{VectorHeld, QuestionHeld, HeadHeld, RefusalHeld, EntryHeld}
use Rattle.records.specs.declared.Question.{Question}
use Rattle.records.specs.declared.Head.{Head}
use Rattle.records.specs.declared.Refusal.{Refusal}
use Rattle.records.specs.declared.Entry.{Entry}
use Rattle.records.proofs.Sizes.{refusal_between}

-- ---- floats
float_lt : (x : Float) → T (fits binary64 x) → bits_of x < 2 ^ 64
float_lt x h = to_bits-lt binary64 x h

-- The three fields of a vector are in range, together with any fields in range that follow them.
vector_lt : (v : Vector) {ws vs : List ℕ} → VectorHeld v → InRange ws vs →
    InRange (8 ∷ 8 ∷ 8 ∷ ws) (bits_of v.x ∷ bits_of v.y ∷ bits_of v.z ∷ vs)
vector_lt v h r = float_lt v.x h.x ⟫ float_lt v.y h.y ⟫ float_lt v.z h.z ⟫ r

vector_back : (v : Vector) → VectorHeld v → record { x = bits (bits_of v.x); y = bits (bits_of v.y); z = bits (bits_of v.z) } ≡ v
vector_back v h = simp (read_back v.x h.x, read_back v.y h.y, read_back v.z h.z)

-- ---- the records, each built from the values of its fields
question_from : List ℕ → Question
question_from v = record {
  length = get_or v 0 0;
  kind = get_or v 1 0;
  job = get_or v 2 0;
  revision = get_or v 3 0;
  revolutions = get_or v 4 0;
  way = get_or v 5 0;
  spare = get_or v 6 0;
  r1 = record { x = bits (get_or v 7 0); y = bits (get_or v 8 0); z = bits (get_or v 9 0) };
  r2 = record { x = bits (get_or v 10 0); y = bits (get_or v 11 0); z = bits (get_or v 12 0) };
  mu = bits (get_or v 13 0);
  time = bits (get_or v 14 0);
}

pub question_back : (q : Question) (after : List ℕ) → QuestionHeld q → question_of (question_bytes q ++ after) ≡ q
unfolding question_of question_bytes question_from encode question_fields decode packed
question_back q after h =
    ap question_from
    (table_back (4 ∷ 2 ∷ 4 ∷ 4 ∷ 2 ∷ 1 ∷ 1 ∷ 8 ∷ 8 ∷ 8 ∷ 8 ∷ 8 ∷ 8 ∷ 8 ∷ 8 ∷ []) _ [] after
    (h.length ⟫ h.kind ⟫ h.job ⟫ h.revision ⟫ h.revolutions ⟫ h.way ⟫ h.spare ⟫ vector_lt q.r1 h.r1
    (vector_lt q.r2 h.r2 (float_lt q.mu h.mu ⟫ float_lt q.time h.time ⟫ done))))
    ∙ simp (vector_back q.r1 h.r1, vector_back q.r2 h.r2, read_back q.mu h.mu, read_back q.time h.time)

-- The widths of a head's fields, and of those of a refusal with number 12.
abbrev head_widths : List ℕ
head_widths = 4 ∷ 2 ∷ 4 ∷ 4 ∷ 2 ∷ []

abbrev void_widths : List ℕ
void_widths = 4 ∷ 2 ∷ 4 ∷ 4 ∷ 2 ∷ 4 ∷ 2 ∷ []

head_from : List ℕ → Head
head_from v = record { length = get_or v 0 0; kind = get_or v 1 0; job = get_or v 2 0; revision = get_or v 3 0; number = get_or v 4 0 }

pub head_back : (h : Head) (after : List ℕ) → HeadHeld h → head_of (head_bytes h ++ after) ≡ h
unfolding head_of head_bytes head_from encode head_fields decode packed
head_back h after r =
    ap head_from (table_back head_widths _ [] after (r.length ⟫ r.kind ⟫ r.job ⟫ r.revision ⟫ r.number ⟫ done))

-- A refusal with number 12, and one with another number.
void_refusal_from : List ℕ → Refusal
void_refusal_from v = record {
  job = get_or v 2 0;
  revision = get_or v 3 0;
  number = get_or v 4 0;
  station = signed32_of (get_or v 5 0);
  reason = get_or v 6 0;
}

other_refusal_from : List ℕ → Refusal
other_refusal_from v = refusal_with (get_or v 2 0) (get_or v 3 0) (get_or v 4 0)

-- Bytes are read as one or the other, by the number in them.
read_by : (s : List ℕ) (b : Bool) → eqb (number_of s) void_number ≡ b →
    refusal_of s ≡ cond b (void_refusal_from (decode void_widths s 0)) (other_refusal_from (decode head_widths s 0))
unfolding refusal_of void_refusal_from other_refusal_from decode
read_by s b e = rw e

pub refusal_back : (r : Refusal) (after : List ℕ) → RefusalHeld r → refusal_of (refusal_bytes r ++ after) ≡ r
unfolding refusal_bytes refusal_head_of void_refusal_from other_refusal_from encode head_fields void_refusal_fields decode packed
refusal_back r after h = by (eqb r.number void_number) refl
  where
    small : length_for (refusal_size r.number) < 2 ^ 32
    small = omega (arith, refusal_between r.number)

    by : (b : Bool) → eqb r.number void_number ≡ b →
        refusal_of (encode (cond b void_refusal_fields head_fields) (refusal_numbers r) ++ after) ≡ r
    by true e =
        let s = encode void_refusal_fields (refusal_numbers r) ++ after in
        let last = h.job ⟫ h.revision ⟫ h.number ⟫ signed_lt w32 r.station h.station ⟫ h.reason ⟫ done in
        let values = table_back void_widths (refusal_numbers r) [] after (small ⟫ omega arith ⟫ last) in
        let number : number_of s ≡ r.number = ap (λ (v : List ℕ). get_or v 4 0) values in
        read_by s true (ap (λ (n : ℕ). eqb n void_number) number ∙ e)
        ∙ ap void_refusal_from values
        ∙ simp (signed_back w32 r.station h.station)
    by false e =
        let s = encode head_fields (refusal_numbers r) ++ after in
        let last = h.job ⟫ h.revision ⟫ h.number ⟫ done in
        let values = table_back head_widths (head_numbers (refusal_head_of r)) [] after (small ⟫ omega arith ⟫ last) in
        let number : number_of s ≡ r.number = ap (λ (v : List ℕ). get_or v 4 0) values in
        let zeros = h.absent (eqb-false r.number void_number e) in
        read_by s false (ap (λ (n : ℕ). eqb n void_number) number ∙ e)
        ∙ ap other_refusal_from values
        ∙ ap (λ (z : ℤ). record { job = r.job; revision = r.revision; number = r.number; station = z; reason = 0 }) (sym zeros.0)
        ∙ ap (λ (n : ℕ). record { job = r.job; revision = r.revision; number = r.number; station = r.station; reason = n })
        (sym zeros.1)

entry_from : List ℕ → Entry
entry_from v = record {
  lower = signed_of (get_or v 0 0);
  halvings = get_or v 1 0;
  chosen = get_or v 2 0;
  v1 = record { x = bits (get_or v 3 0); y = bits (get_or v 4 0); z = bits (get_or v 5 0) };
  v2 = record { x = bits (get_or v 6 0); y = bits (get_or v 7 0); z = bits (get_or v 8 0) };
}

pub entry_back : (e : Entry) (after : List ℕ) → EntryHeld e → entry_of (entry_bytes e ++ after) ≡ e
unfolding entry_of entry_bytes entry_from encode entry_fields decode packed
entry_back e after h =
    ap entry_from
    (table_back (8 ∷ 4 ∷ 4 ∷ 8 ∷ 8 ∷ 8 ∷ 8 ∷ 8 ∷ 8 ∷ []) _ [] after
    (signed_lt w64 e.lower h.lower ⟫ h.halvings ⟫ h.chosen ⟫ vector_lt e.v1 h.v1 (vector_lt e.v2 h.v2 done)))
    ∙ simp (signed_back w64 e.lower h.lower, vector_back e.v1 h.v1, vector_back e.v2 h.v2)
