-- Values as lines, for the functions of src/messages.rt: each value is on one line (`all_one_line`) and short (`all_short`), the
-- fourteen lines are what was appended (`lined`), and the values found in them are the values (`lines_found`).
use mathlib.Core.Path.{◌≡◌, refl, sym, ap, ◌∙◌}
use mathlib.Core.Bool.{true, not, ◌&&◌}
use mathlib.Core.List.{List, [], ◌∷◌, ◌++◌, map, append_assoc}
use Prim.Native.Nat.{ℕ, zero, suc, ◌+◌, ◌-◌, ◌*◌, ◌≤◌, ◌<◌}
use native.Mathlib.Nat.{suc_inj}
use native.Mathlib.Omega.{arith}
use borrow.Author.Tests.{leb-true, eqb-true}
use lib.Dec.{eqb, leb}
use lib.ListN.{length, get_or, length-append, length-map}
use Rattle.decimal.specs.declared.Decimal.{Decimal}
use Rattle.decimal.specs.Texts.{text_of}
use Rattle.decimal.proofs.TextBytes.{length_range}
use Rattle.decimal.proofs.NoLineFeed.{no_line_feed}
use Rattle.std.specs.Prelude.{Some, None}
use Rattle.orbit_message.specs.Templates.{Values, values_in, filled, placeholders_in}
use Rattle.orbit_message.specs.Templates.{ValuesEndLines, OneLine, OneLineEach}
use Rattle.orbit_message.specs.Texts.{every, is_printable, is_legal, lines_template, texts_in, are_texts, found_in}
use Rattle.orbit_message.specs.Matches.{part, span_at, matched_values, IsMatch}
use Rattle.orbit_message.specs.Fillings.{Fits}
use Rattle.orbit_message.specs.States.{lines_of, Lined}
use Rattle.orbit_message.specs.declared.matching.Match.{Match}
use Rattle.orbit_message.proofs.EveryElement.{both}
use Rattle.orbit_message.proofs.TemplateValues.{zero_is_one, values_sound, values_complete}
use Rattle.orbit_message.proofs.FillSteps.{part_size, value_is}

-- ---- a value is on one line

one_line_at : (v : List ℕ) → ((i : ℕ) → i < length v → get_or v i 0 ≡ 10 → ⊥) → OneLine v
unfolding OneLine
one_line_at [] f = tt
one_line_at (c ∷ v) f = (f 0 (omega arith), one_line_at v (λ i h. f (suc i) (omega arith)))

-- A printable byte is not an LF.
printable_line : (v : List ℕ) → every is_printable v ≡ true → OneLine v
unfolding every is_printable OneLine
printable_line [] e = tt
printable_line (c ∷ v) e =
    let parts = both (leb 0x20 c && leb c 0x7E) (every is_printable v) e in
    let low = leb-true 0x20 c (both (leb 0x20 c) (leb c 0x7E) parts.0).0 in
    (λ f. omega arith, printable_line v parts.1)

-- The facts about a legal text that the proofs use.
pub record LegalFacts (v : List ℕ) : Type 0 where
  pub not_empty : 1 ≤ length v
  pub short : length v ≤ 60
  pub one_line : OneLine v

pub legal_facts : (v : List ℕ) → is_legal v ≡ true → LegalFacts v
unfolding is_legal
legal_facts v e =
    let first = not (eqb (get_or v 0 0) 0x20) in
    let last = not (eqb (get_or v (length v - 1) 0) 0x20) in
    let bytes = every is_printable v in
    let sized = leb 1 (length v) && leb (length v) 60 in
    let rest = (both (sized && bytes && first) last e).0 in
    let sized-bytes = (both (sized && bytes) first rest).0 in
    let sizes = both sized bytes sized-bytes in
    let bounds = both (leb 1 (length v)) (leb (length v) 60) sizes.0 in
    record {
      not_empty = leb-true 1 (length v) bounds.0;
      short = leb-true (length v) 60 bounds.1;
      one_line = printable_line v sizes.1;
    }

texts_one_line : (ns : List Decimal) → OneLineEach (map text_of ns)
unfolding OneLineEach
texts_one_line [] = tt
texts_one_line (n ∷ ns) = (one_line_at (text_of n) (no_line_feed n), texts_one_line ns)

pub all_one_line : (ts : List (List ℕ)) (ns : List Decimal) → every is_legal ts ≡ true → OneLineEach (ts ++ map text_of ns)
unfolding OneLineEach every
all_one_line [] ns e = texts_one_line ns
all_one_line (t ∷ ts) ns e =
    let parts = both (is_legal t) (every is_legal ts) e in
    ((legal_facts t parts.0).one_line, all_one_line ts ns parts.1)

-- ---- a value is short

texts_short : (ns : List Decimal) (k : ℕ) → length (get_or (map text_of ns) k []) ≤ 60
texts_short [] k = omega arith
texts_short (n ∷ ns) zero = let r = (length_range n).1 in omega arith
texts_short (n ∷ ns) (suc k) = texts_short ns k

all_short : (ts : List (List ℕ)) (ns : List Decimal) → every is_legal ts ≡ true → (k : ℕ) → length (get_or (ts ++ map text_of ns) k []) ≤ 60
unfolding every
all_short [] ns e k = texts_short ns k
all_short (t ∷ ts) ns e zero = (legal_facts t (both (is_legal t) (every is_legal ts) e).0).short
all_short (t ∷ ts) ns e (suc k) = all_short ts ns (both (is_legal t) (every is_legal ts) e).1 k

pub lines_length : (ts : List (List ℕ)) → every is_legal ts ≡ true → length (lines_of ts) ≤ 61 * length ts
unfolding lines_of every
lines_length [] e = omega arith
lines_length (t ∷ ts) e =
    let parts = both (is_legal t) (every is_legal ts) e in
    let short = (legal_facts t parts.0).short in
    let rest = lines_length ts parts.1 in
    let size = length-append t (10 ∷ lines_of ts) in
    omega arith

-- ---- what is appended

pub three_appended : (x y z old a b all : List ℕ) → a ≡ old ++ (x ++ (10 ∷ [])) → b ≡ a ++ (y ++ (10 ∷ [])) →
    all ≡ b ++ (z ++ (10 ∷ [])) → all ≡ old ++ lines_of (x ∷ (y ∷ (z ∷ [])))
unfolding lines_of
three_appended x y z old a b all e f g = g ∙ rw (f, e) (simp append_assoc)

lines_append : (us vs : List (List ℕ)) → lines_of us ++ lines_of vs ≡ lines_of (us ++ vs)
unfolding lines_of
lines_append [] vs = refl
lines_append (u ∷ us) vs = append_assoc u (10 ∷ lines_of us) (lines_of vs) ∙ ap (λ (l : List ℕ). u ++ (10 ∷ l)) (lines_append us vs)

pub all_appended : (t : List ℕ) (us vs : List (List ℕ)) (a b all : List ℕ) → a ≡ t → b ≡ a ++ lines_of us →
    all ≡ b ++ lines_of vs → all ≡ t ++ lines_of (us ++ vs)
all_appended t us vs a b all e f g =
    g
    ∙ ap (λ (l : List ℕ). l ++ lines_of vs) (f ∙ ap (λ (l : List ℕ). l ++ lines_of us) e)
    ∙ append_assoc t (lines_of us) (lines_of vs)
    ∙ ap (λ (l : List ℕ). t ++ l) (lines_append us vs)

-- ---- lines and their template

lines_template_filled : (n : ℕ) (vs : List (List ℕ)) → length vs ≡ n → filled (lines_template n) vs ≡ lines_of vs
unfolding lines_template lines_of filled
lines_template_filled zero [] e = refl
lines_template_filled zero (v ∷ vs) e = zero_is_one cc
lines_template_filled (suc n) [] e = zero_is_one cc
lines_template_filled (suc n) (v ∷ vs) e = ap (λ (l : List ℕ). v ++ (10 ∷ l)) (lines_template_filled n vs (suc_inj e))

lines_end : (n : ℕ) → ValuesEndLines (lines_template n)
unfolding lines_template ValuesEndLines
lines_end zero = tt
lines_end (suc n) = (refl, lines_end n)

pub placeholders_of_lines : (n : ℕ) → placeholders_in (lines_template n) ≡ n
unfolding lines_template placeholders_in
placeholders_of_lines zero = refl
placeholders_of_lines (suc n) = ap suc (placeholders_of_lines n)

pub values_of_lines : (n : ℕ) (s : List ℕ) (vs : List (List ℕ)) → length vs ≡ n → OneLineEach vs → s ≡ lines_of vs →
    values_in (lines_template n) s ≡ Some vs
values_of_lines n s vs e p f =
    values_complete (lines_template n) s vs (lines_end n)
    (record { as_many = e ∙ sym (placeholders_of_lines n); one_line = p; same = f ∙ sym (lines_template_filled n vs e) })

-- What a match with n lines found.
pub lines_found : (n : ℕ) (s : List ℕ) (m : Match) → IsMatch (lines_template n) s m → (vs : List (List ℕ)) → length vs ≡ n →
    OneLineEach vs →
    s ≡ lines_of vs → matched_values s m ≡ vs
lines_found n s m is vs e p f =
    let found : Some (matched_values s m) ≡ Some vs = sym is.outcome ∙ values_of_lines n s vs e p f in
    cc

-- The texts that are handed in are the lines of the bytes.
pub texts_lined : (s : List ℕ) → are_texts (texts_in s) ≡ true → s ≡ lines_of (texts_in s)
unfolding texts_in are_texts
texts_lined s e = by (values_in (lines_template 8) s) refl e
  where
    by : (r : Values) → values_in (lines_template 8) s ≡ r →
        eqb (length (found_in r)) 8 && every is_legal (found_in r) ≡ true → s ≡ lines_of (found_in r)
    by (Some vs) f g =
        let eight = eqb-true (length vs) 8 (both (eqb (length vs) 8) (every is_legal vs) g).0 in
        (values_sound (lines_template 8) s vs f).same ∙ lines_template_filled 8 vs eight
    by None f g = zero_is_one cc

-- ---- fourteen lines

-- Fourteen lines follow their template.
pub lines_follow : (s : List ℕ) (vs : List (List ℕ)) → Lined s vs → values_in (lines_template 14) s ≡ None → ⊥
lines_follow s vs l e =
    let found = values_of_lines 14 s vs l.many l.one_line l.same in
    zero_is_one cc

pub lines_fit : (s : List ℕ) (m : Match) → IsMatch (lines_template 14) s m → (vs : List (List ℕ)) → Lined s vs → Fits s m
lines_fit s m is vs l =
    let count : m.count ≡ 14 = is.count_is ∙ placeholders_of_lines 14 in
    let values = lines_found 14 s m is vs l.many l.one_line l.same in
    record {
      few = omega arith;
      inside = is.inside;
      short = λ k h.
          let from = (span_at m.spans k).start in
          let to = (span_at m.spans k).end in
          let ends = is.inside k h in
          let size : length (part s from to) ≡ to - from = part_size s from to ends.0 ends.1 in
          let same : length (get_or vs k []) ≡ length (part s from to) =
          ap (λ (us : List (List ℕ)). length (get_or us k [])) (sym values) ∙ ap length (value_is s m.spans m.count k h) in
          let bound = l.short k in
          omega arith;
    }

-- Eight legal texts and six numbers.
module _ (ts : List (List ℕ)) (ns : List Decimal) (legal : are_texts ts ≡ true) (six : length ns ≡ 6) where
  parts : (length ts ≡ 8) × (every is_legal ts ≡ true)
  unfolding are_texts
  parts = let p = both (eqb (length ts) 8) (every is_legal ts) legal in (eqb-true (length ts) 8 p.0, p.1)

  pub fourteen_values : length (ts ++ map text_of ns) ≡ 14
  fourteen_values =
      let eight = parts.0 in
      length-append ts (map text_of ns) ∙ ap (λ (x : ℕ). length ts + x) (length-map ns text_of) ∙ omega arith

  pub lined : (s all : List ℕ) → s ≡ lines_of ts → all ≡ s ++ lines_of (map text_of ns) → Lined all (ts ++ map text_of ns)
  lined s all h e =
      record {
        many = fourteen_values;
        one_line = all_one_line ts ns parts.1;
        short = all_short ts ns parts.1;
        same = e ∙ ap (λ (l : List ℕ). l ++ lines_of (map text_of ns)) h ∙ lines_append ts (map text_of ns);
      }

  pub texts_room : length (lines_of ts) ≤ 488
  texts_room =
      let eight = parts.0 in
      let sum = lines_length ts parts.1 in
      omega arith
