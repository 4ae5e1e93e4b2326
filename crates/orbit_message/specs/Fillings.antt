-- What the functions of src/filling.rt require and compute. Definitions only; no public contract cites them.
use Rattle.std.specs.Prelude.{ℕ, ◌+◌, ◌-◌, ◌*◌, ◌≤◌, ◌<◌, ◌≡◌, List, [], ◌∷◌, ◌++◌, take, drop}
use Rattle.orbit_message.specs.Templates.{filled, placeholders_in}
use Rattle.orbit_message.specs.Matches.{span_at, Inside, matched_values}
use Rattle.orbit_message.specs.declared.matching.Match.{Match}
use Rattle.orbit_message.specs.declared.filling.Filling.{Filling}

-- The match has at most fourteen values, each in s and of at most 60 bytes.
pub record Fits (s : List ℕ) (m : Match) : Type 0 where
  pub few : m.count ≤ 14
  pub inside : Inside s m
  pub short : (k : ℕ) → k < m.count → (span_at m.spans k).end - (span_at m.spans k).start ≤ 60

-- The bytes written so far.
abbrev pub filled_bytes : Filling → List ℕ
filled_bytes f = take f.length f.bytes

-- `new` is `old` after the next byte b of the template. Filling the rest of the template after `new` gives the same bytes as filling b and
-- the rest after `old`. A step adds at most one byte, and 60 more for a placeholder.
pub record FillStep (s : List ℕ) (m : Match) (b : ℕ) (old new : Filling) : Type 0 where
  pub counted : new.count ≡ old.count + placeholders_in (b ∷ [])
  pub bounded : new.length ≤ old.length + 1 + 60 * placeholders_in (b ∷ [])
  pub goes_on : (t : List ℕ) →
      filled_bytes old ++ filled (b ∷ t) (drop old.count (matched_values s m))
      ≡ filled_bytes new ++ filled t (drop new.count (matched_values s m))
