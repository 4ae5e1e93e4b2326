-- Lists of brackets and of entries: what one more element adds (`every_next`, `places_next`), that a count can be cut to the size of the
-- list (`take_cut_count`), that the used elements of the list are the entries again (`taken_again`), and that all entries are finite
-- exactly if `finite_for` holds for all of their brackets (`every_entry`).
use mathlib.Core.Path.{◌≡◌, refl, sym, ap, ◌∙◌}
use mathlib.Core.Bool.{Bool, true, false, ◌&&◌, and_assoc, and-true}
use mathlib.Core.List.{List, [], ◌∷◌, ◌++◌, map, append-nil}
use Prim.Native.Nat.{ℕ, suc, ◌+◌, ◌-◌, ◌≤◌, ◌<◌, min}
use native.Mathlib.Omega.{arith}
use native.Mathlib.Numerals.{add-one}
use borrow.Author.Tests.{ltb-true, ltb-false}
use lib.Dec.{ltb}
use lib.ListN.{length, take, set, replicate, get_or, length-append, length-map}
use lib.Seq.{take-suc, take_at, take_all, length-take-le, set-append_seam, append_snoc}
use Rattle.little_endian.proofs.Cuts.{take_cut}
use Rattle.records.specs.Layout.{most_entries}
use Rattle.records.specs.declared.Entry.{Entry}
use Rattle.entrance.specs.declared.Problem.{Problem}
use Rattle.bisection.specs.declared.Bracket.{Bracket}
use Rattle.entries.specs.Entries.{entry_for, unused, places, entry_finite, finite_for, every}

-- ---- lists of any type

module _ {A : Type 0} where
  every_snoc : (test : A → Bool) (xs : List A) (x : A) → every test (xs ++ (x ∷ [])) ≡ every test xs && test x
  unfolding every
  every_snoc test [] x = and-true (test x)
  every_snoc test (y ∷ xs) x = ap (λ r. test y && r) (every_snoc test xs x) ∙ sym (and_assoc (test y) (every test xs) (test x))

  pub every_next :
      (test : A → Bool) (xs : List A) (i : ℕ) (d : A) → i < length xs →
      every test (take (i + 1) xs) ≡ every test (take i xs) && test (get_or xs i d)
  every_next test xs i d h = rw add-one (ap (every test) (take-suc xs i d h) ∙ every_snoc test (take i xs) (get_or xs i d))

  pub take_cut_count : (xs : List A) (count : ℕ) → length xs ≡ most_entries → take (min count most_entries) xs ≡ take count xs
  take_cut_count xs count e = ap (λ (k : ℕ). take (min count k) xs) (sym e) ∙ take_cut count xs

-- ---- the list of entries with its unused elements

-- Writing an entry to the first unused element appends it to the used ones.
places_set : (es : List Entry) (e : Entry) → length es < most_entries → set (places es) (length es) e ≡ places (es ++ (e ∷ []))
places_set es e h =
    let rest = most_entries - suc (length es) in
    let one_more : most_entries - length es ≡ suc rest = omega arith in
    let left : most_entries - length (es ++ (e ∷ [])) ≡ rest = simp length-append (omega arith) in
    ap (λ (k : ℕ). set (es ++ replicate k unused) (length es) e) one_more
    ∙ set-append_seam es unused (replicate rest unused) e
    ∙ sym (ap (λ (k : ℕ). (es ++ (e ∷ [])) ++ replicate k unused) left ∙ append_snoc es e (replicate rest unused))

module _ (p : Problem) (list : List Bracket) where
  -- The entries of the first i brackets.
  abbrev pub entries_up_to : ℕ → List Entry
  entries_up_to i = map (entry_for p) (take i list)

  up_to_length : (i : ℕ) → i ≤ length list → length (entries_up_to i) ≡ i
  up_to_length i h = length-map (take i list) (entry_for p) ∙ length-take-le i list h

  map_snoc : (bs : List Bracket) (b : Bracket) → map (entry_for p) (bs ++ (b ∷ [])) ≡ map (entry_for p) bs ++ (entry_for p b ∷ [])
  map_snoc [] b = refl
  map_snoc (x ∷ xs) b = ap (λ l. entry_for p x ∷ l) (map_snoc xs b)

  pub places_next :
      (i : ℕ) (d : Bracket) → i < length list → i < most_entries →
      set (places (entries_up_to i)) i (entry_for p (get_or list i d)) ≡ places (entries_up_to (i + 1))
  places_next i d h few =
      let next = entry_for p (get_or list i d) in
      let long = up_to_length i (omega arith) in
      ap (λ (k : ℕ). set (places (entries_up_to i)) k next) (sym long)
      ∙ places_set (entries_up_to i) next (omega (arith, long, few))
      ∙ ap places (sym (map_snoc (take i list) (get_or list i d)))
      ∙ rw add-one (ap (λ (bs : List Bracket). places (map (entry_for p) bs)) (sym (take-suc list i d h)))

  -- The first `count` elements are the entries again.
  pub taken_again : (count : ℕ) → length list ≡ most_entries → take count (places (entries_up_to count)) ≡ entries_up_to count
  taken_again count all = by (ltb most_entries count) refl
    where
      by : (many : Bool) → ltb most_entries count ≡ many → take count (places (entries_up_to count)) ≡ entries_up_to count
      by false few =
          let es = entries_up_to count in
          let long = up_to_length count (omega (arith, ltb-false most_entries count few, all)) in
          take_at es (replicate (most_entries - length es) unused) count long
      by true many =
          let es = entries_up_to count in
          let more = ltb-true most_entries count many in
          let long : length es ≡ most_entries =
          length-map (take count list) (entry_for p) ∙ ap length (take_all count list (omega (arith, more, all))) ∙ all in
          let none : most_entries - length es ≡ 0 = omega (arith, long) in
          ap (λ (k : ℕ). take count (es ++ replicate k unused)) none
          ∙ ap (take count) (append-nil es)
          ∙ take_all count es (omega (arith, long, more))

pub every_entry : (p : Problem) (bs : List Bracket) → every entry_finite (map (entry_for p) bs) ≡ every (finite_for p) bs
unfolding every finite_for
every_entry p [] = refl
every_entry p (b ∷ bs) = ap (λ r. finite_for p b && r) (every_entry p bs)
