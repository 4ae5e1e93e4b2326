-- What `start_of` gives in each case: the end of the input (`ended`), a length field that is cut short (`cut_short`),
-- a length that is too large (`too_long`), or a record (`followed`). The rest of a record after its length field is
-- never longer than that of the longest record (`rest_short`).
use mathlib.Core.Path.{◌≡◌, refl}
use mathlib.Core.Bool.{Bool, true, false, cond}
use mathlib.Core.List.{List}
use Prim.Native.Nat.{ℕ, ◌≤◌, ◌<◌}
use native.Mathlib.Omega.{arith}
use borrow.Author.Tests.{eq-eqb, ne_eqb, lt-ltb, le-ltb, ltb-false}
use lib.Dec.{eqb, ltb}
use lib.ListN.{length}
use Rattle.records.specs.Layout.{LENGTH, value_of}
use Rattle.record_stream.specs.declared.Start.TheVariants.{End, Record, NoRecord}
use Rattle.record_stream.specs.Streams.{longest_rest, start_of}

module _ (head : List ℕ) where
  pub ended : length head ≡ 0 → End ≡ start_of head
  unfolding start_of
  ended h = rw (eq-eqb (length head) 0 h)

  module _ (some : length head ≡ 0 → ⊥) where
    pub cut_short : length head < LENGTH.width → Record 0 ≡ start_of head
    unfolding start_of
    cut_short h = rw (ne_eqb (length head) 0 some, lt-ltb (length head) LENGTH.width h)

    module _ (long : LENGTH.width ≤ length head) where
      pub too_long : longest_rest < value_of LENGTH head → NoRecord ≡ start_of head
      unfolding start_of
      too_long h = rw (ne_eqb (length head) 0 some, le-ltb (length head) LENGTH.width long, lt-ltb longest_rest (value_of LENGTH head) h)

      pub followed : value_of LENGTH head ≤ longest_rest → Record (value_of LENGTH head) ≡ start_of head
      unfolding start_of
      followed h =
          rw (ne_eqb (length head) 0 some, le-ltb (length head) LENGTH.width long, le-ltb longest_rest (value_of LENGTH head) h)

-- ---- the bound on the rest of a record

same_rest : {m n : ℕ} → Record m ≡ Record n → m ≡ n
same_rest e = cc e

module _ (value rest : ℕ) where
  by_value : (long : Bool) → ltb longest_rest value ≡ long → cond long NoRecord (Record value) ≡ Record rest → rest ≤ longest_rest
  by_value true e is = absurd (let z : ◌≡◌ {A = ℕ} 0 1 = cc is in omega (arith, z))
  by_value false e is = omega (arith, same_rest is, ltb-false longest_rest value e)

  by_length : (short : Bool) →
      cond short (Record 0) (cond (ltb longest_rest value) NoRecord (Record value)) ≡ Record rest → rest ≤ longest_rest
  by_length true is = omega (arith, same_rest is)
  by_length false is = by_value (ltb longest_rest value) refl is

  by_none : (none short : Bool) →
      cond none End (cond short (Record 0) (cond (ltb longest_rest value) NoRecord (Record value))) ≡ Record rest → rest ≤ longest_rest
  by_none true short is = absurd (let z : ◌≡◌ {A = ℕ} 0 1 = cc is in omega (arith, z))
  by_none false short is = by_length short is

pub rest_short : (head : List ℕ) (rest : ℕ) → start_of head ≡ Record rest → rest ≤ longest_rest
unfolding start_of
rest_short head rest is = by_none (value_of LENGTH head) rest (eqb (length head) 0) (ltb (length head) LENGTH.width) is
