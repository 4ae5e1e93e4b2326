-- What the functions of src/matching.rt compute. Definitions only; no public contract cites them.
use Rattle.std.specs.Prelude.{ℕ, zero, suc, ◌+◌, ◌-◌, ◌≤◌, ◌<◌, ◌≡◌, Some, List, [], ◌∷◌, ◌++◌, length, get_or, take, drop}
use Rattle.orbit_message.specs.Templates.{placeholders_in, Values, prepend, values_in}
use Rattle.orbit_message.specs.declared.matching.Match.{Match}
use Rattle.orbit_message.specs.declared.matching.Span.{Span}

-- The bytes of s from the offset a up to the offset e.
abbrev pub part : List ℕ → ℕ → ℕ → List ℕ
part s a e = take (e - a) (drop a s)

-- The bytes of s at a span.
abbrev pub part_at : List ℕ → Span → List ℕ
part_at s p = part s p.start p.end

-- The span k.
abbrev pub span_at : List Span → ℕ → Span
span_at spans k = get_or spans k (record { start = 0; end = 0 })

-- The value k of a match.
abbrev pub matched_value : List ℕ → Match → ℕ → List ℕ
matched_value s m k = part_at s (span_at m.spans k)

-- The first k values, given by their spans.
unfoldable pub values_between : List ℕ → List Span → ℕ → List (List ℕ)
values_between s spans zero = []
values_between s spans (suc k) = values_between s spans k ++ (part_at s (span_at spans k) ∷ [])

-- All values of a match.
abbrev pub matched_values : List ℕ → Match → List (List ℕ)
matched_values s m = values_between s m.spans m.count

-- What `values_in` returns for the whole template, if m is the match so far and t is the rest of the template.
unfoldable pub progress : List ℕ → List ℕ → Match → Values
progress t s m = prepend (matched_values s m) (values_in t (drop m.at s))

-- Each value lies in s.
abbrev pub Inside : List ℕ → Match → Type 0
Inside s m = (k : ℕ) → k < m.count → ((span_at m.spans k).start ≤ (span_at m.spans k).end) × ((span_at m.spans k).end ≤ length s)

-- `new` is `old` after the next byte b of the template. With the rest of the template, `new` leads to the same values as `old` with b and
-- the rest.
pub record Advance (s : List ℕ) (b : ℕ) (old new : Match) : Type 0 where
  pub within : new.at ≤ length s
  pub counted : (t : List ℕ) → new.count + placeholders_in t ≡ old.count + placeholders_in (b ∷ t)
  pub inside : Inside s old → Inside s new
  pub goes_on : (t : List ℕ) → progress (b ∷ t) s old ≡ progress t s new

-- m is the match of s with the template t.
pub record IsMatch (t s : List ℕ) (m : Match) : Type 0 where
  pub count_is : m.count ≡ placeholders_in t
  pub inside : Inside s m
  pub outcome : values_in t s ≡ Some (matched_values s m)
