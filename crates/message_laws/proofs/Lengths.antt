-- Every message has 248 to 762 bytes (`length_bounds`): 174 bytes of keys, version, blanks, equals signs and LFs, eight texts of 1 to 60
-- bytes and six numbers of 11 to 18 bytes.
use mathlib.Core.Path.{◌≡◌, refl, sym, ap, ◌∙◌}
use mathlib.Core.Bool.{true}
use mathlib.Core.List.{List, [], ◌∷◌, ◌++◌, map}
use Prim.Native.Nat.{ℕ, suc, ◌+◌, ◌*◌, ◌≤◌}
use native.Mathlib.Nat.{suc_inj}
use native.Mathlib.Omega.{arith}
use borrow.Author.Tests.{eqb-true}
use lib.Dec.{eqb}
use lib.ListN.{length, length-append}
use Rattle.decimal.specs.Texts.{text_of}
use Rattle.decimal.specs.declared.Decimal.{Decimal}
use Rattle.decimal.proofs.TextBytes.{length_range}
use Rattle.orbit_message.specs.Ascii.{ascii}
use Rattle.orbit_message.specs.Texts.{every, is_legal, are_texts}
use Rattle.orbit_message.specs.Messages.{keys, version, line, lines, message_of}
use Rattle.orbit_message.proofs.EveryElement.{both}
use Rattle.orbit_message.proofs.ValueLines.{legal_facts, fourteen_values}
use Rattle.message_laws.specs.Exactness.{IsMessage, LengthBounds}

-- The sum of the lengths.
unfoldable total : List (List ℕ) → ℕ
total [] = 0
total (v ∷ vs) = length v + total vs

total_append : (us vs : List (List ℕ)) → total (us ++ vs) ≡ total us + total vs
unfolding total
total_append [] vs = omega arith
total_append (u ∷ us) vs = let e = total_append us vs in omega arith

-- ---- lines

line_length : (k v : List ℕ) → length (line k v) ≡ length k + length v + 4
unfolding line ascii
line_length k v =
    let whole = length-append k (32 ∷ 61 ∷ 32 ∷ (v ++ (10 ∷ []))) in
    let value = length-append v (10 ∷ []) in
    omega arith

lines_length : (ks vs : List (List ℕ)) → length vs ≡ length ks → length (lines ks vs) ≡ total ks + total vs + 4 * length ks
unfolding lines total
lines_length [] [] e = refl
lines_length [] (v ∷ vs) e = absurd (omega arith)
lines_length (k ∷ ks) [] e = absurd (omega arith)
lines_length (k ∷ ks) (v ∷ vs) e =
    let both-parts = length-append (line k v) (lines ks vs) in
    let first = line_length k v in
    let rest = lines_length ks vs (suc_inj e) in
    omega arith

keys_many : length keys ≡ 15
unfolding keys
keys_many = refl

keys_total : total keys ≡ 111
unfolding total keys ascii
keys_total = refl

version_length : length version ≡ 3
unfolding version ascii
version_length = refl

-- ---- texts and numbers

legal_length : (v : List ℕ) → is_legal v ≡ true → (1 ≤ length v) × (length v ≤ 60)
legal_length v e = let facts = legal_facts v e in (facts.not_empty, facts.short)

texts_total : (ts : List (List ℕ)) → every is_legal ts ≡ true → (length ts ≤ total ts) × (total ts ≤ 60 * length ts)
unfolding every total
texts_total [] e = (omega arith, omega arith)
texts_total (t ∷ ts) e =
    let parts = both (is_legal t) (every is_legal ts) e in
    let first = legal_length t parts.0 in
    let rest = texts_total ts parts.1 in
    (omega (arith, first.0, rest.0), omega (arith, first.1, rest.1))

numbers_total : (ns : List Decimal) → (11 * length ns ≤ total (map text_of ns)) × (total (map text_of ns) ≤ 18 * length ns)
unfolding total
numbers_total [] = (omega arith, omega arith)
numbers_total (n ∷ ns) =
    let first = length_range n in
    let rest = numbers_total ns in
    (omega (arith, first.0, rest.0), omega (arith, first.1, rest.1))

-- ---- the message

pub length_bounds : (s : List ℕ) (ts : List (List ℕ)) (ns : List Decimal) → IsMessage s ts ns → LengthBounds s
unfolding message_of are_texts total
length_bounds s ts ns m =
    let values = ts ++ map text_of ns in
    let parts = both (eqb (length ts) 8) (every is_legal ts) m.legal in
    let eight = eqb-true (length ts) 8 parts.0 in
    let many = fourteen_values ts ns m.legal m.six in
    let fifteen : length (version ∷ values) ≡ length keys = ap suc many ∙ sym keys_many in
    let size = ap length m.same ∙ lines_length keys (version ∷ values) fifteen in
    let sums = total_append ts (map text_of ns) in
    let texts = texts_total ts parts.1 in
    let numbers = numbers_total ns in
    let six = m.six in
    let key-bytes = keys_total in
    let keys-are = keys_many in
    let three = version_length in
    record { least = omega (arith, texts.0, numbers.0); most = omega (arith, texts.1, numbers.1) }
