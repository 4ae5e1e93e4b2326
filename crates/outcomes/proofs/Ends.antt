-- Shows that `all_name_an_end n` is the result of a search through the numbers below n for an entry whose chosen end is neither
-- 0 nor 1 (`searched`). It is true if there is none (`all_name`), and false if there is one (`not_all`).
use Prim.Native.Nat.{ℕ, zero, suc, ◌≤◌, ◌<◌}
use mathlib.Core.Bool.{Bool, true, false, and-false}
use mathlib.Core.List.{List}
use mathlib.Core.Path.{◌≡◌, refl, sym}
use mathlib.Core.Logic.{inl, inr}
use native.Mathlib.Omega.{arith}
use borrow.Author.Tests.{le-leb, lt-leb}
use lib.ListN.{length, get_or}
use Rattle.std.proofs.lemmas.List.FromFn.{length-range_with_len, get_or-range_with_len}
use Rattle.std.proofs.lemmas.Bool.{cases_lt}
use Rattle.std.specs.Bool.{MatchBool}
use Rattle.std.specs.List.{range_with_len, AllWithin, HoldsAt}
use Rattle.records.specs.Layout.{chosen_at}
use Rattle.outcomes.specs.Outcomes.{all_name_an_end}

pub all_name : (n : ℕ) (s : List ℕ) → ((i : ℕ) → i < n → chosen_at i s ≤ 1) → all_name_an_end n s ≡ true
unfolding all_name_an_end
all_name zero s h = refl
all_name (suc n) s h = rw (all_name n s (λ i l. h i (omega arith)), le-leb (chosen_at n s) 1 (h n (omega arith)))

not_all : (n : ℕ) (s : List ℕ) (i : ℕ) → i < n → 1 < chosen_at i s → all_name_an_end n s ≡ false
unfolding all_name_an_end
not_all zero s i l h = absurd (omega arith)
not_all (suc n) s i l h = elim (cases_lt i n) [
  | inl before ↦ rw (not_all n s i before h)
  | inr last ↦ (let e : i ≡ n = omega arith in rw (lt-leb (chosen_at n s) 1 (rw e at h), and-false))
]

-- The number at an index of the list of the numbers below n is the index.
at_index : (n i : ℕ) → i < n → get_or (range_with_len 0 n) i 0 ≡ i
at_index n i l = omega (arith, get_or-range_with_len 0 n i 0 l)

pub searched : (n : ℕ) (s : List ℕ) (r : Bool) →
    let below = range_with_len 0 n in
    MatchBool r (AllWithin (λ i. chosen_at i s ≤ 1) below 0 (length below))
    ((k : ℕ) × (k < length below) × HoldsAt (λ i. 1 < chosen_at i s) below k) → r ≡ all_name_an_end n s
searched n s true h =
    sym (all_name n s (λ i l. rw (at_index n i l) at (h i 0 (omega arith) (omega (arith, length-range_with_len 0 n, l)))))
searched n s false h =
    let l : h.0 < n = omega (arith, length-range_with_len 0 n, h.1) in
    sym (not_all n s h.0 l (rw (at_index n h.0 l) at (h.2 0)))
