-- The steps of a match. `value_step`, `byte_step`, `other_byte` and `no_byte` are the cases of `advance`: a 0 of the template, and
-- another byte of the template where s has the same byte, another byte or no byte. `progress_start`, `placeholder_left`,
-- `progress_next`, `progress_stops`, `match_at_end` and `bytes_left` are the steps of the loop of `find_values`. Its invariant is that
-- `progress` stays the result of the whole template.
use mathlib.Core.Path.{◌≡◌, refl, sym, ap, ◌∙◌}
use mathlib.Core.Bool.{Bool, true, false}
use mathlib.Core.List.{List, [], ◌∷◌, ◌++◌, append_assoc, append-nil}
use Prim.Native.Nat.{ℕ, zero, suc, ◌+◌, ◌≤◌, ◌<◌}
use native.Mathlib.Nat.{add-zero}
use native.Mathlib.Numerals.{add-one}
use native.Mathlib.Omega.{arith}
use borrow.Author.Tests.{eq-eqb, ne_eqb, ltb-true, ltb-false}
use lib.Dec.{ltb}
use lib.ListN.{length, get_or, drop, set, drop_of_length-le}
use lib.Seq.{drop-cons, get_or-set_same, get_or-set_other}
use Rattle.orbit_message.specs.Templates.{placeholders_in}
use Rattle.std.specs.Prelude.{Some, None}
use Rattle.orbit_message.specs.Templates.{line_in, after_line, Values, prepend, values_in}
use Rattle.orbit_message.specs.Matches.{part, part_at, span_at, values_between, matched_values, progress, Inside, Advance, IsMatch}
use Rattle.orbit_message.specs.declared.matching.Match.{Match}
use Rattle.orbit_message.specs.declared.matching.Span.{Span}
use Rattle.orbit_message.proofs.LineEnds.{part_is_line}

-- ---- the values found so far

-- What `span_at` gives for an index that is out of bounds.
abbrev none : Span
none = record { start = 0; end = 0 }

-- Storing the span of the value k does not change the values before it.
earlier_values : (s : List ℕ) (spans : List Span) (k : ℕ) (p : Span) (n : ℕ) → n ≤ k →
    values_between s (set spans k p) n ≡ values_between s spans n
unfolding values_between
earlier_values s spans k p zero h = refl
earlier_values s spans k p (suc n) h =
    let other : n ≡ k → ⊥ = λ q. absurd (omega arith) in
    let before = earlier_values s spans k p n (omega arith) in
    rw (before, get_or-set_other spans k n p none other)

-- Storing the span of the value k adds this value.
one_more_value : (s : List ℕ) (spans : List Span) (k : ℕ) (p : Span) → k < length spans →
    values_between s (set spans k p) (k + 1) ≡ values_between s spans k ++ (part_at s p ∷ [])
unfolding values_between
one_more_value s spans k p h =
    let before = earlier_values s spans k p k (omega arith) in
    rw (add-one, before, get_or-set_same spans k p none)

prepend_twice : (us vs : List (List ℕ)) (r : Values) → prepend us (prepend vs r) ≡ prepend (us ++ vs) r
prepend_twice us vs (Some ws) = ap Some (sym (append_assoc us vs ws))
prepend_twice us vs None = refl

-- ---- a 0 of the template

-- The match after one more value, which ends at e.
abbrev with_value : Match → ℕ → Match
with_value d e =
    record {
      at = e;
      count = d.count + 1;
      spans = set d.spans d.count (record { start = d.at; end = e });
    }

-- If the value ends at the end of its line, the result stays the same.
value_result : (s t : List ℕ) (d : Match) (e : ℕ) → d.count < length d.spans → d.at ≤ e →
    e ≤ length s → drop e s ≡ after_line (drop d.at s) →
    prepend (matched_values s d) (values_in (0 ∷ t) (drop d.at s)) ≡ prepend (matched_values s (with_value d e)) (values_in t (drop e s))
unfolding values_in
value_result s t d e k h g f =
    let vs = matched_values s d in
    let line = line_in (drop d.at s) in
    let rest = values_in t (drop e s) in
    let value : part s d.at e ≡ line = part_is_line s d.at e h g f in
    let added : matched_values s (with_value d e) ≡ vs ++ (part s d.at e ∷ []) =
    one_more_value s d.spans d.count (record { start = d.at; end = e }) k in
    prepend_twice vs (line ∷ []) (values_in t (after_line (drop d.at s)))
    ∙ ap (λ (l : List ℕ). prepend (vs ++ (line ∷ [])) (values_in t l)) (sym f)
    ∙ ap (λ (v : List ℕ). prepend (vs ++ (v ∷ [])) rest) (sym value)
    ∙ ap (λ (us : List (List ℕ)). prepend us rest) (sym added)

-- If the old values and the new value lie in s, then all values do.
value_inside : (s : List ℕ) (d : Match) (e : ℕ) → d.count < length d.spans → d.at ≤ e →
    e ≤ length s → Inside s d → Inside s (with_value d e)
value_inside s d e room h g old k l = by (ltb k d.count) refl
  where
    by : (b : Bool) → ltb k d.count ≡ b →
        let span = span_at (set d.spans d.count (record { start = d.at; end = e })) k in
        (span.start ≤ span.end) × (span.end ≤ length s)
    by true q =
        let earlier = ltb-true k d.count q in
        let other : k ≡ d.count → ⊥ = λ z. absurd (omega arith) in
        rw (get_or-set_other d.spans d.count k (record { start = d.at; end = e }) none other) (old k earlier)
    by false q =
        let not-Earlier = ltb-false k d.count q in
        let last : k ≡ d.count = omega arith in
        rw (last, get_or-set_same d.spans d.count (record { start = d.at; end = e }) none) (h, g)

pub value_step : (s : List ℕ) (d : Match) (e : ℕ) → length d.spans ≡ 14 → d.count < 14 → d.at ≤ e →
    e ≤ length s → drop e s ≡ after_line (drop d.at s) → Advance s 0 d (with_value d e)
unfolding progress placeholders_in
value_step s d e size k h g f =
    let room : d.count < length d.spans = omega arith in
    record {
      within = g;
      counted = λ t. omega arith;
      inside = value_inside s d e room h g;
      goes_on = λ t. value_result s t d e room h g f;
    }

-- ---- another byte of the template

pub byte_step : (s : List ℕ) (d : Match) (c : ℕ) → (c ≡ 0 → ⊥) → d.at < length s → get_or s d.at 0 ≡ c →
    Advance s c d (record { at = d.at + 1; count = d.count; spans = d.spans })
unfolding progress values_in placeholders_in
byte_step s d zero n h e = absurd (n refl)
byte_step s d (suc c) n h e =
    record {
      within = omega arith;
      counted = λ t. refl;
      inside = λ old. old;
      goes_on = λ t. rw (add-one, drop-cons s d.at 0, eq-eqb (get_or s d.at 0) (suc c) e) refl;
    }

pub other_byte : (s : List ℕ) (d : Match) (c : ℕ) → (c ≡ 0 → ⊥) → d.at < length s → (get_or s d.at 0 ≡ c → ⊥) →
    (t : List ℕ) → progress (c ∷ t) s d ≡ None
unfolding progress values_in
other_byte s d zero n h e t = absurd (n refl)
other_byte s d (suc c) n h e t = rw (drop-cons s d.at 0, ne_eqb (get_or s d.at 0) (suc c) e) refl

-- At the end of s there is no byte to compare.
pub no_byte : (s : List ℕ) (d : Match) (c : ℕ) → (c ≡ 0 → ⊥) → length s ≤ d.at → (t : List ℕ) → progress (c ∷ t) s d ≡ None
unfolding progress values_in
no_byte s d zero n h t = absurd (n refl)
no_byte s d (suc c) n h t = rw (drop_of_length-le s h) refl

-- ---- the loop of `find_values`

-- Before the loop no value is found and no byte is read.
pub progress_start : (t s : List ℕ) (d : Match) → d.at ≡ 0 → d.count ≡ 0 → progress t s d ≡ values_in t s
unfolding progress values_between
progress_start t s d a k = rw (a, k) (same (values_in t s))
  where
    same : (r : Values) → prepend [] r ≡ r
    same (Some vs) = refl
    same None = refl

-- If the next byte of the template is a 0, fewer than fourteen values are found so far.
pub placeholder_left : (t : List ℕ) (i n : ℕ) → i < length t → placeholders_in t ≤ 14 →
    n + placeholders_in (drop i t) ≡ placeholders_in t → get_or t i 0 ≡ 0 → n < 14
unfolding placeholders_in
placeholder_left t i n h l e z =
    let this : placeholders_in (drop i t) ≡ suc (placeholders_in (drop (suc i) t)) = rw (drop-cons t i 0, z) in
    omega arith

-- One turn of the loop keeps the invariant.
pub progress_next : (t s : List ℕ) (i : ℕ) (d r : Match) → i < length t → Advance s (get_or t i 0) d r →
    d.count + placeholders_in (drop i t) ≡ placeholders_in t → progress (drop i t) s d ≡ values_in t s →
    (r.count + placeholders_in (drop (i + 1) t) ≡ placeholders_in t) × (progress (drop (i + 1) t) s r ≡ values_in t s)
progress_next t s i d r h p e f =
    let rest = drop (suc i) t in
    let next : get_or t i 0 ∷ rest ≡ drop i t = sym (drop-cons t i 0 h) in
    let counted = p.counted rest ∙ ap (λ (l : List ℕ). d.count + placeholders_in l) next ∙ e in
    let same = sym (p.goes_on rest) ∙ ap (λ (l : List ℕ). progress l s d) next ∙ f in
    (rw add-one counted, rw add-one same)

-- If s does not follow the template up to its byte i, it does not follow the whole template.
pub progress_stops : (t s : List ℕ) (i : ℕ) (d : Match) → i < length t → ((u : List ℕ) → progress (get_or t i 0 ∷ u) s d ≡ None) →
    progress (drop i t) s d ≡ values_in t s → values_in t s ≡ None
progress_stops t s i d h stop f =
    let next : drop i t ≡ get_or t i 0 ∷ drop (suc i) t = drop-cons t i 0 h in
    sym f ∙ ap (λ (l : List ℕ). progress l s d) next ∙ stop (drop (suc i) t)

-- After the loop, s follows the template exactly if no byte of s is left.
module _ (t s : List ℕ) (i : ℕ) (d : Match) (h : length t ≤ i) (f : progress (drop i t) s d ≡ values_in t s) where
  none_left : drop i t ≡ []
  none_left = drop_of_length-le t h

  result : values_in t s ≡ progress [] s d
  result = sym f ∙ ap (λ (l : List ℕ). progress l s d) none_left

  pub match_at_end : d.at ≡ length s → d.count + placeholders_in (drop i t) ≡ placeholders_in t → Inside s d → IsMatch t s d
  unfolding progress values_in placeholders_in
  match_at_end q e ins =
      let over : length s ≤ d.at = omega arith in
      record {
        count_is = sym (add-zero d.count) ∙ ap (λ (l : List ℕ). d.count + placeholders_in l) (sym none_left) ∙ e;
        inside = ins;
        outcome = result ∙ rw (drop_of_length-le s over) (ap Some (append-nil (matched_values s d)));
      }

  pub bytes_left : d.at < length s → values_in t s ≡ None
  unfolding progress values_in
  bytes_left q = result ∙ rw (drop-cons s d.at 0) refl
