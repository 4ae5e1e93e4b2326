-- `read` accepts exactly the messages (`reads_exactly`), and a message has one set of texts and numbers (`one_message`). Both follow
-- from the values that a message has in its template (`message_values`) and from the texts of well-formed decimals.
use mathlib.Core.Path.{◌≡◌, refl, sym, ap, ◌∙◌, subst}
use mathlib.Core.Bool.{Bool, true, false, cond}
use mathlib.Core.List.{List, [], ◌∷◌, ◌++◌, map}
use Prim.Native.Nat.{ℕ}
use native.Mathlib.Omega.{arith}
use borrow.Author.Tests.{eqb-true, eq-eqb}
use lib.Dec.{eqb}
use lib.ListN.{length, take, drop, length-drop, length-map, take-append-drop}
use lib.Seq.{take_at, drop_at, length-take-le}
use Rattle.std.specs.Prelude.{Result, Ok, Err}
use Rattle.decimal.specs.Texts.{text_of, decimal_in, is_well_formed, is_decimal_text}
use Rattle.decimal.specs.declared.Decimal.{Decimal}
use Rattle.decimal_laws.proofs.Parsing.{decimal_in_text, is_text, text_shown}
use Rattle.std.specs.Prelude.{Some, None}
use Rattle.orbit_message.specs.Templates.{Values, values_in}
use Rattle.orbit_message.specs.Texts.{every, is_legal, are_texts}
use Rattle.orbit_message.specs.Messages.{keys, version, lines, message_of, template}
use Rattle.orbit_message.specs.Reading.{vector_in, state_in, are_values, result_for, read_of}
use Rattle.orbit_message.specs.States.{state_numbers}
use Rattle.orbit_message.specs.declared.states.State.{State}
use Rattle.orbit_message.specs.Refusals.{refusal_number}
use Rattle.orbit_message.specs.declared.refusals.Refusal.{Refusal}
use Rattle.orbit_message.specs.declared.refusals.Refusal.TheVariants.{NotAMessage}
use Rattle.orbit_message.proofs.EveryElement.{both}
use Rattle.orbit_message.proofs.TemplateValues.{zero_is_one, values_sound, values_complete}
use Rattle.orbit_message.proofs.MessageTemplate.{message_filled, values_end_lines, fourteen_placeholders}
use Rattle.orbit_message.proofs.ValueLines.{all_one_line, fourteen_values}
use Rattle.message_laws.specs.Exactness.{IsMessage, ReadsExactly}

-- Eight legal texts.
eight_texts : (ts : List (List ℕ)) → are_texts ts ≡ true → (length ts ≡ 8) × (every is_legal ts ≡ true)
unfolding are_texts
eight_texts ts e =
    let parts = both (eqb (length ts) 8) (every is_legal ts) e in
    (eqb-true (length ts) 8 parts.0, parts.1)

are_eight : (ts : List (List ℕ)) → length ts ≡ 8 → every is_legal ts ≡ true → are_texts ts ≡ true
unfolding are_texts
are_eight ts e f = rw (eq-eqb (length ts) 8 e, f)

-- ---- texts of decimals

-- Texts of decimals are the texts of the decimals that they show.
texts_shown : (ws : List (List ℕ)) → every is_decimal_text ws ≡ true → ws ≡ map text_of (map decimal_in ws)
unfolding every
texts_shown [] e = refl
texts_shown (w ∷ ws) e =
    let parts = both (is_decimal_text w) (every is_decimal_text ws) e in
    let first = (text_shown w parts.0).text in
    let rest = texts_shown ws parts.1 in
    cc

shown_well_formed : (ws : List (List ℕ)) → every is_decimal_text ws ≡ true → every is_well_formed (map decimal_in ws) ≡ true
unfolding every
shown_well_formed [] e = refl
shown_well_formed (w ∷ ws) e =
    let parts = both (is_decimal_text w) (every is_decimal_text ws) e in
    rw (text_shown w parts.0).well_formed (shown_well_formed ws parts.1)

are_decimals : (ns : List Decimal) → every is_well_formed ns ≡ true → every is_decimal_text (map text_of ns) ≡ true
unfolding every
are_decimals [] e = refl
are_decimals (n ∷ ns) e =
    let parts = both (is_well_formed n) (every is_well_formed ns) e in
    rw (is_text n parts.0) (are_decimals ns parts.1)

decimals_back : (ns : List Decimal) → every is_well_formed ns ≡ true → map decimal_in (map text_of ns) ≡ ns
unfolding every
decimals_back [] e = refl
decimals_back (n ∷ ns) e =
    let parts = both (is_well_formed n) (every is_well_formed ns) e in
    let first = decimal_in_text n parts.0 in
    let rest = decimals_back ns parts.1 in
    cc

-- The numbers of the state that six values show.
state_numbers_lem : (ws : List (List ℕ)) → length ws ≡ 6 → state_numbers (state_in ws) ≡ map decimal_in ws
unfolding state_in vector_in
state_numbers_lem [] e = absurd (omega arith)
state_numbers_lem (a ∷ []) e = absurd (omega arith)
state_numbers_lem (a ∷ (b ∷ [])) e = absurd (omega arith)
state_numbers_lem (a ∷ (b ∷ (c ∷ []))) e = absurd (omega arith)
state_numbers_lem (a ∷ (b ∷ (c ∷ (d ∷ [])))) e = absurd (omega arith)
state_numbers_lem (a ∷ (b ∷ (c ∷ (d ∷ (f ∷ []))))) e = absurd (omega arith)
state_numbers_lem (a ∷ (b ∷ (c ∷ (d ∷ (f ∷ (g ∷ [])))))) e = refl
state_numbers_lem (a ∷ (b ∷ (c ∷ (d ∷ (f ∷ (g ∷ (h ∷ ws))))))) e = absurd (omega arith)

-- ---- the values of a message

pub message_values : (s : List ℕ) (ts : List (List ℕ)) (ns : List Decimal) → IsMessage s ts ns →
    values_in template s ≡ Some (ts ++ map text_of ns)
unfolding message_of
message_values s ts ns m =
    let values = ts ++ map text_of ns in
    let many = fourteen_values ts ns m.legal m.six in
    values_complete template s values values_end_lines
    (record {
      as_many = many ∙ sym fourteen_placeholders;
      one_line = all_one_line ts ns (eight_texts ts m.legal).1;
      same = m.same ∙ sym (message_filled values many);
    })

-- The texts and the numbers among the values.
first_eight : (ts ws : List (List ℕ)) → are_texts ts ≡ true → take 8 (ts ++ ws) ≡ ts
first_eight ts ws e = take_at ts ws 8 (eight_texts ts e).0

after_eight : (ts ws : List (List ℕ)) → are_texts ts ≡ true → drop 8 (ts ++ ws) ≡ ws
after_eight ts ws e = drop_at ts ws 8 (eight_texts ts e).0

-- ---- what is accepted

accepted_values : (s : List ℕ) (vs : List (List ℕ)) → values_in template s ≡ Some vs → are_values vs ≡ true →
    IsMessage s (take 8 vs) (state_numbers (state_in (drop 8 vs)))
unfolding are_values message_of
accepted_values s vs e f =
    let ts = take 8 vs in
    let ws = drop 8 vs in
    let parts = both (every is_legal ts) (every is_decimal_text ws) f in
    let is = values_sound template s vs e in
    let fourteen : length vs ≡ 14 = is.as_many ∙ fourteen_placeholders in
    let eight : length ts ≡ 8 = length-take-le 8 vs (omega arith) in
    let six : length ws ≡ 6 = length-drop 8 vs ∙ omega arith in
    let numbers : state_numbers (state_in ws) ≡ map decimal_in ws = state_numbers_lem ws six in
    let texts : map text_of (state_numbers (state_in ws)) ≡ ws = ap (map text_of) numbers ∙ sym (texts_shown ws parts.1) in
    let whole : ts ++ map text_of (state_numbers (state_in ws)) ≡ vs = ap (λ (l : List (List ℕ)). ts ++ l) texts ∙ take-append-drop 8 vs in
    record {
      legal = are_eight ts eight parts.0;
      six = refl;
      well_formed = ap (every is_well_formed) numbers ∙ shown_well_formed ws parts.1;
      same = is.same ∙ message_filled vs fourteen ∙ ap (λ (l : List (List ℕ)). lines keys (version ∷ l)) (sym whole);
    }

accepted : (s : List ℕ) (n : State) → read_of s ≡ Ok n → (ts : List (List ℕ)) × IsMessage s ts (state_numbers n)
unfolding read_of result_for
accepted s n e = by (values_in template s) refl e
  where
    by : (r : Values) → values_in template s ≡ r → result_for r ≡ Ok n → (ts : List (List ℕ)) × IsMessage s ts (state_numbers n)
    by None f g = zero_is_one (cc)
    by (Some vs) f g = tested (are_values vs) refl g
      where
        tested : (b : Bool) → are_values vs ≡ b → cond b (Ok (state_in (drop 8 vs))) (Err NotAMessage) ≡ Ok n →
            (ts : List (List ℕ)) × IsMessage s ts (state_numbers n)
        tested true h i =
            let same : state_in (drop 8 vs) ≡ n = cc in
            (take 8 vs, subst (λ (x : State). IsMessage s (take 8 vs) (state_numbers x)) same (accepted_values s vs f h))
        tested false h i = zero_is_one (cc)

-- ---- what is complete

complete : (s : List ℕ) (ts : List (List ℕ)) (ns : List Decimal) → IsMessage s ts ns →
    (n : State) × (read_of s ≡ Ok n) × (state_numbers n ≡ ns)
unfolding read_of result_for are_values
complete s ts ns m =
    let ws = map text_of ns in
    let legal = ap (every is_legal) (first_eight ts ws m.legal) ∙ (eight_texts ts m.legal).1 in
    let rest = after_eight ts ws m.legal in
    let decimals = ap (every is_decimal_text) rest ∙ are_decimals ns m.well_formed in
    let six : length ws ≡ 6 = length-map ns text_of ∙ m.six in
    let numbers = state_numbers_lem ws six ∙ decimals_back ns m.well_formed in
    (state_in ws, ap result_for (message_values s ts ns m) ∙ rw (legal, decimals, rest), numbers)

-- ---- what is refused

only_refusal : (s : List ℕ) (r : Refusal) → read_of s ≡ Err r → r ≡ NotAMessage
unfolding read_of result_for
only_refusal s r e = by (values_in template s) e
  where
    tested : (vs : List (List ℕ)) (b : Bool) → cond b (Ok (state_in (drop 8 vs))) (Err NotAMessage) ≡ Err r → r ≡ NotAMessage
    tested vs true i = zero_is_one (cc)
    tested vs false i = cc

    by : (found_values : Values) → result_for found_values ≡ Err r → r ≡ NotAMessage
    by None g = cc
    by (Some vs) g = tested vs (are_values vs) g

refused : (s : List ℕ) (r : Refusal) → read_of s ≡ Err r →
    (r ≡ NotAMessage) × ((ts : List (List ℕ)) (ns : List Decimal) → IsMessage s ts ns → ⊥)
refused s r e = (only_refusal s r e, λ ts ns m. let is = (complete s ts ns m).1 in zero_is_one (cc))

refused_number : (s : List ℕ) (r : Refusal) → read_of s ≡ Err r → refusal_number r ≡ 10
refused_number s r e = ap refusal_number (only_refusal s r e)

pub reads_exactly : (s : List ℕ) → ReadsExactly s
reads_exactly s = record { accepted = accepted s; complete = complete s; refused = refused s; number = refused_number s }

-- ---- one set of texts and numbers

same_numbers : (ns ms : List Decimal) → every is_well_formed ns ≡ true → every is_well_formed ms ≡ true →
    map text_of ns ≡ map text_of ms → ns ≡ ms
same_numbers ns ms e f g = sym (decimals_back ns e) ∙ ap (map decimal_in) g ∙ decimals_back ms f

pub one_message : (s : List ℕ) (ts us : List (List ℕ)) (ns ms : List Decimal) → IsMessage s ts ns → IsMessage s us ms →
    (ts ≡ us) × (ns ≡ ms)
one_message s ts us ns ms p q =
    let first = message_values s ts ns p in
    let second = message_values s us ms q in
    let same : ts ++ map text_of ns ≡ us ++ map text_of ms = both_found first second in
    let texts = sym (first_eight ts (map text_of ns) p.legal) ∙ ap (take 8) same ∙ first_eight us (map text_of ms) q.legal in
    let values = sym (after_eight ts (map text_of ns) p.legal) ∙ ap (drop 8) same ∙ after_eight us (map text_of ms) q.legal in
    (texts, same_numbers ns ms p.well_formed q.well_formed values)
  where
    both_found : {a b : List (List ℕ)} → values_in template s ≡ Some a → values_in template s ≡ Some b → a ≡ b
    both_found f g = cc

-- What was accepted, written again from the numbers read and its own texts, is the same bytes.
pub written_again : (s : List ℕ) (n : State) (ts : List (List ℕ)) (ns : List Decimal) → read_of s ≡ Ok n → IsMessage s ts ns →
    message_of ts (state_numbers n) ≡ s
written_again s n ts ns e m =
    let read = complete s ts ns m in
    let same : read.0 ≡ n = state_of_lem (sym read.1 ∙ e) in
    ap (λ (x : State). message_of ts (state_numbers x)) (sym same) ∙ ap (message_of ts) read.2 ∙ sym m.same
  where
    state_of_lem : {a b : State} → ◌≡◌ {A = Result State Refusal} (Ok a) (Ok b) → a ≡ b
    state_of_lem f = cc
