-- The steps of filling a template. `value_is` gives the value k of a match. `value_fill_step` and `byte_fill_step` are the cases of
-- `fill_step`: a 0 of the template, and another byte. `next_byte`, `filled_next` and `filled_at_end` are the steps of the loop of `fill`.
-- Its invariant is that the bytes written, followed by the rest of the template filled with the values left, are the whole template filled
-- with all values.
use mathlib.Core.Path.{◌≡◌, refl, sym, ap, ◌∙◌}
use mathlib.Core.Bool.{Bool, true, false}
use mathlib.Core.List.{List, [], ◌∷◌, ◌++◌, append_assoc, append-nil}
use Prim.Native.Nat.{ℕ, zero, suc, ◌+◌, ◌-◌, ◌≤◌, ◌<◌}
use native.Mathlib.Numerals.{add-one}
use native.Mathlib.Omega.{arith}
use borrow.Author.Tests.{ltb-true, ltb-false}
use lib.Dec.{ltb}
use lib.ListN.{length, get_or, drop, length-append, length-drop, drop_of_length-le, get_or-append}
use lib.Seq.{drop-cons, get_or_at, length-take-le}
use Rattle.orbit_message.specs.Templates.{filled, placeholders_in}
use Rattle.orbit_message.specs.Matches.{part, part_at, span_at, matched_value, values_between, matched_values}
use Rattle.orbit_message.specs.Fillings.{Fits, filled_bytes, FillStep}
use Rattle.orbit_message.specs.declared.matching.Match.{Match}
use Rattle.orbit_message.specs.declared.matching.Span.{Span}
use Rattle.orbit_message.specs.declared.filling.Filling.{Filling}

-- ---- the values of a match

-- The length of a value.
pub part_size : (s : List ℕ) (a e : ℕ) → a ≤ e → e ≤ length s → length (part s a e) ≡ e - a
part_size s a e h k = length-take-le (e - a) (drop a s) (simp length-drop (omega arith))

pub length_values : (s : List ℕ) (spans : List Span) (n : ℕ) → length (values_between s spans n) ≡ n
unfolding values_between
length_values s spans zero = refl
length_values s spans (suc n) =
    let last = part_at s (span_at spans n) in
    length-append (values_between s spans n) (last ∷ [])
    ∙ ap (λ (x : ℕ). x + 1) (length_values s spans n)
    ∙ add-one n

pub value_is : (s : List ℕ) (spans : List Span) (n k : ℕ) → k < n →
    get_or (values_between s spans n) k [] ≡ part_at s (span_at spans k)
unfolding values_between
value_is s spans zero k h = absurd (omega arith)
value_is s spans (suc n) k h = by (λ l. value_is s spans n k l) (ltb k n) refl
  where
    by : (k < n → get_or (values_between s spans n) k [] ≡ part_at s (span_at spans k)) →
        (b : Bool) → ltb k n ≡ b →
        get_or (values_between s spans n ++ (part_at s (span_at spans n) ∷ [])) k []
        ≡ part_at s (span_at spans k)
    by rest true q =
        let earlier = ltb-true k n q in
        let last = part_at s (span_at spans n) in
        get_or-append (values_between s spans n) (last ∷ []) [] k (rw length_values earlier) ∙ rest earlier
    by rest false q =
        let not-Earlier = ltb-false k n q in
        let same : n ≡ k = omega arith in
        let last = part_at s (span_at spans n) in
        get_or_at (values_between s spans n) last [] [] k (length_values s spans n ∙ same)
        ∙ ap (λ (x : ℕ). part_at s (span_at spans x)) same

-- The values from k on are the value k and the values from k + 1 on.
values_from : (s : List ℕ) (spans : List Span) (n k : ℕ) → k < n →
    let vs = values_between s spans n in
    drop k vs ≡ part_at s (span_at spans k) ∷ drop (suc k) vs
values_from s spans n k h =
    let vs = values_between s spans n in
    drop-cons vs k [] (rw length_values h) ∙ ap (λ (v : List ℕ). v ∷ drop (suc k) vs) (value_is s spans n k h)

-- ---- one byte of the template

pub value_fill_step : (s : List ℕ) (m : Match) (old new : Filling) → Fits s m → old.count < m.count →
    filled_bytes new ≡ filled_bytes old ++ matched_value s m old.count →
    new.length ≡ old.length + ((span_at m.spans old.count).end - (span_at m.spans old.count).start) →
    new.count ≡ old.count + 1 → FillStep s m 0 old new
unfolding filled placeholders_in
value_fill_step s m old new f h w l n =
    let k = old.count in
    let vs = matched_values s m in
    let v = matched_value s m k in
    let rest = drop (suc k) vs in
    let short = f.short k h in
    record {
      counted = n;
      bounded = omega arith;
      goes_on = λ t.
          ap (λ (us : List (List ℕ)). filled_bytes old ++ filled (0 ∷ t) us) (values_from s m.spans m.count k h)
          ∙ sym (append_assoc (filled_bytes old) v (filled t rest))
          ∙ ap (λ (x : List ℕ). x ++ filled t rest) (sym w)
          ∙ ap (λ (j : ℕ). filled_bytes new ++ filled t (drop j vs)) (sym (n ∙ add-one k));
    }

pub byte_fill_step : (s : List ℕ) (m : Match) (b : ℕ) (old new : Filling) → (b ≡ 0 → ⊥) →
    filled_bytes new ≡ filled_bytes old ++ (b ∷ []) → new.length ≡ old.length + 1 → new.count ≡ old.count → FillStep s m b old new
unfolding filled placeholders_in
byte_fill_step s m zero old new q w l n = absurd (q refl)
byte_fill_step s m (suc b) old new q w l n =
    let vs = matched_values s m in
    let rest = drop old.count vs in
    record {
      counted = n ∙ omega arith;
      bounded = omega arith;
      goes_on = λ t.
          sym (append_assoc (filled_bytes old) (suc b ∷ []) (filled t rest))
          ∙ ap (λ (x : List ℕ). x ++ filled t rest) (sym w)
          ∙ ap (λ (j : ℕ). filled_bytes new ++ filled t (drop j vs)) (sym n);
    }

pub zero_is_placeholder : (b : ℕ) → b ≡ 0 → placeholders_in (b ∷ []) ≡ 1
unfolding placeholders_in
zero_is_placeholder b e = rw e

-- ---- the loop of `fill`

placeholders_cons : (b : ℕ) (t : List ℕ) → placeholders_in (b ∷ t) ≡ placeholders_in (b ∷ []) + placeholders_in t
unfolding placeholders_in
placeholders_cons zero t = omega arith
placeholders_cons (suc b) t = omega arith

-- The template from the offset i on is the byte at i and the template from i + 1 on. So the placeholders add up.
pub record NextByte (t : List ℕ) (i : ℕ) : Type 0 where
  pub placeholders : placeholders_in (drop i t) ≡ placeholders_in (get_or t i 0 ∷ []) + placeholders_in (drop (i + 1) t)
  pub whole : drop i t ≡ get_or t i 0 ∷ drop (i + 1) t

pub next_byte : (t : List ℕ) (i : ℕ) → i < length t → NextByte t i
next_byte t i h =
    let b = get_or t i 0 in
    let e : drop i t ≡ b ∷ drop (i + 1) t = drop-cons t i 0 h ∙ ap (λ (x : ℕ). b ∷ drop x t) (sym (add-one i)) in
    record { placeholders = ap placeholders_in e ∙ placeholders_cons b (drop (i + 1) t); whole = e }

-- One turn of the loop keeps the invariant.
pub filled_next : (t s : List ℕ) (m : Match) (i : ℕ) (old new : Filling) → i < length t → FillStep s m (get_or t i 0) old new →
    filled_bytes old ++ filled (drop i t) (drop old.count (matched_values s m)) ≡ filled t (matched_values s m) →
    filled_bytes new ++ filled (drop (i + 1) t) (drop new.count (matched_values s m)) ≡ filled t (matched_values s m)
filled_next t s m i old new h p e =
    let rest = drop old.count (matched_values s m) in
    let whole = sym (next_byte t i h).whole in
    sym (p.goes_on (drop (i + 1) t)) ∙ ap (λ (l : List ℕ). filled_bytes old ++ filled l rest) whole ∙ e

-- After the loop, no byte of the template is left, so the bytes written are the whole result.
pub filled_at_end : (t s : List ℕ) (m : Match) (i : ℕ) (new : Filling) → length t ≤ i →
    filled_bytes new ++ filled (drop i t) (drop new.count (matched_values s m)) ≡ filled t (matched_values s m) →
    filled_bytes new ≡ filled t (matched_values s m)
unfolding filled
filled_at_end t s m i new h e =
    let rest = drop new.count (matched_values s m) in
    let none = sym (drop_of_length-le t h) in
    sym (append-nil (filled_bytes new)) ∙ ap (λ (l : List ℕ). filled_bytes new ++ filled l rest) none ∙ e
