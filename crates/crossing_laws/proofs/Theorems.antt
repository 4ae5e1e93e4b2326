-- The theorems about a sweep, stated so that a reader can compare them with 01. They hold for any sides of the places, any grid, and its
-- places from 0 to `last`. The theorems about brackets are `bracket_holds` and `only_one` in BracketLaws.
use mathlib.Core.Path.{◌≡◌, refl, sym, ap, ◌∙◌, subst}
use mathlib.Core.Bool.{Bool, true, false}
use mathlib.Core.Logic.{inl, inr, ⊎_elim, ◌↔◌}
use mathlib.Core.List.{List, [], ◌∷◌, ◌++◌}
use Prim.Native.Nat.{ℕ, zero, suc, ◌+◌, ◌-◌, ◌*◌, ◌^◌, ◌≤◌, ◌<◌, min}
use native.Mathlib.Omega.{arith}
use borrow.Author.Tests.{ltb-true, ltb-false, lt-ltb, le-ltb, ne_eqb}
use lib.Dec.{ltb}
use lib.ListN.{length, get_or, take, replicate, length-take, length-append, length-replicate, get_or-append, get_or-map}
use lib.Seq.{get_or-take}
use native.Mathlib.Nat.{add-zero, add_assoc}
use native.Mathlib.Numerals.{add-one}
use lib.IntN.{ℤ, pos, neg_ℤ, ◌+ℤ◌, +ℤ_assoc, +ℤ_idr}
use Rattle.flight_time.specs.Steps.{lowest, highest, highest_revolving}
use Rattle.bisection.specs.declared.Bracket.{Bracket}
use Rattle.stations.specs.declared.side.Side.{Side}
use Rattle.stations.specs.declared.side.Side.TheVariants.{Below, NotBelow, Unknown}
use Rattle.sweep.specs.declared.walks.VoidStation.{VoidStation}
use Rattle.sweep.specs.declared.walks.Walk.{Walk}
use Rattle.sweep.specs.declared.walks.Walk.TheVariants.{AllTimed, SomeVoid, NinthFound}
use Rattle.stations.specs.Sides.{opposite, is_unknown}
use Rattle.stations.specs.Grid.{Grid, IsRising}
use Rattle.stations.specs.Stations.{station_of, last_of}
use Rattle.bisection.specs.Pairs.{crosses, bracket_of}
use Rattle.sweep.specs.Crossings.{up_to, crossings, some_void, brackets, blank, reported, sweep_of}
use Rattle.sweep.specs.Walks.{first_void, walk_of}
use Rattle.sweep.proofs.Counts.{length_is, counted}
use Rattle.crossing_laws.specs.FirstVoid.{IsFirstVoid}
use Rattle.crossing_laws.specs.Listed.{Listed, Rising}
use Rattle.crossing_laws.proofs.FirstVoids.{clash, never_ninth, names_exactly, all_exactly}
use Rattle.bisection.proofs.Halving.{same_side, lower_known, upper_known}
use Rattle.stations.proofs.Places.{next_station}
use Rattle.crossing_laws.proofs.BracketLaws.{bracket_holds}
use Rattle.crossing_laws.proofs.Keeping.{listed_up, up_listed, rising_up, kept, keeps, rising_keep, some_yes, some_found}

-- ---- stations: j from −4095, 2^20 apart, to 16384 for M = 0 and to 4095 for M ≥ 1

pub first_station : station_of 0 ≡ neg_ℤ (pos (4095 * 2 ^ 20))
unfolding station_of
first_station = refl

pub last_station_lem : station_of (last_of 0) ≡ pos (16384 * 2 ^ 20)
unfolding station_of last_of
last_station_lem = refl

revolving : (revolutions : ℕ) → 1 ≤ revolutions → last_of revolutions ≡ 8190
unfolding last_of
revolving revolutions h = rw (ne_eqb revolutions 0 (λ e. omega (arith, e)))

pub last_revolving : (revolutions : ℕ) → 1 ≤ revolutions → station_of (last_of revolutions) ≡ pos (4095 * 2 ^ 20)
unfolding station_of
last_revolving revolutions h = ap station_of (revolving revolutions h)

pub neighbours : (i : ℕ) → station_of (i + 1) ≡ station_of i +ℤ pos (2 ^ 20)
neighbours i = next_station i

-- The first and the last station are the ends of the range of the time.
pub from_lowest : station_of 0 ≡ lowest
unfolding station_of
from_lowest = refl

pub to_highest : station_of (last_of 0) ≡ highest
unfolding station_of last_of
to_highest = refl

pub to_highest_revolving : (revolutions : ℕ) → 1 ≤ revolutions → station_of (last_of revolutions) ≡ highest_revolving
to_highest_revolving revolutions h = last_revolving revolutions h

-- There are 20,480 stations for M = 0, and 8,191 for M ≥ 1.
pub station_count_lem : last_of 0 + 1 ≡ 20480
unfolding last_of
station_count_lem = refl

pub station_count_revolving : (revolutions : ℕ) → 1 ≤ revolutions → last_of revolutions + 1 ≡ 8191
station_count_revolving revolutions h = ap (λ (n : ℕ). n + 1) (revolving revolutions h)

-- ---- a crossing: both places have times, on different sides

sides_differ : (a b : Side) → opposite a b ≡ true → a ≡ b → ⊥
sides_differ Below NotBelow e d = absurd (let z : ◌≡◌ {A = ℕ} 0 1 = cc d in omega (arith, z))
sides_differ NotBelow Below e d = absurd (let z : ◌≡◌ {A = ℕ} 0 1 = cc d in omega (arith, z))
sides_differ Below Below e d = clash e refl
sides_differ NotBelow NotBelow e d = clash e refl
sides_differ Below (Unknown reason) e d = clash e refl
sides_differ NotBelow (Unknown reason) e d = clash e refl
sides_differ (Unknown reason) b e d = clash e refl

opposite_by : (a b : Side) (o : Bool) → opposite a b ≡ o → is_unknown a ≡ false → is_unknown b ≡ false → (a ≡ b → ⊥) → o ≡ true
opposite_by a b true e p q d = refl
opposite_by a b false e p q d = absurd (d (same_side a b p q e))

pub crosses_exactly : (σ : ℤ → Side) (g : Grid) (i : ℕ) →
    (crosses σ g i ≡ true)
    ↔ ((is_unknown (σ (g.place i)) ≡ false) × (is_unknown (σ (g.place (i + 1))) ≡ false) × (σ (g.place i) ≡ σ (g.place (i + 1)) → ⊥))
unfolding crosses
crosses_exactly σ g i =
    let a = σ (g.place i) in
    let b = σ (g.place (i + 1)) in (
      λ e. (lower_known a b e, upper_known a b e, sides_differ a b e),
      λ h. opposite_by a b (opposite a b) refl h.0 h.1 h.2,
    )

-- ---- the end of a walk, from its two conditions

walk_by : (seen other : Walk) (ninth : Bool) → walk_of ninth seen ≡ other → (other ≡ NinthFound → ⊥) → (ninth ≡ false) × (seen ≡ other)
walk_by seen other true e f = absurd (f (sym e))
walk_by seen other false e f = (refl, e)

pub false_by : (b : Bool) → (b ≡ true → ⊥) → b ≡ false
false_by true f = absurd (f refl)
false_by false f = refl

-- ---- the elements of a list of brackets

any_default : (l : List Bracket) (e : ℕ) (c d : Bracket) → e < length l → get_or l e c ≡ get_or l e d
any_default [] e c d h = absurd (omega arith)
any_default (x ∷ xs) zero c d h = refl
any_default (x ∷ xs) (suc e) c d h = any_default xs e c d (omega arith)

all_blank : (n e : ℕ) → get_or (replicate n blank) e blank ≡ blank
all_blank zero e = refl
all_blank (suc n) zero = refl
all_blank (suc n) (suc e) = all_blank n e

padded : (l : List Bracket) (n e : ℕ) → length l ≤ e → get_or (l ++ replicate n blank) e blank ≡ blank
padded [] n e h = all_blank n e
padded (x ∷ xs) n zero h = absurd (omega arith)
padded (x ∷ xs) n (suc e) h = padded xs n e (omega arith)

-- ---- the position of a number in a list

listed_at : (e : ℕ) (xs : List ℕ) → e < length xs → Listed (get_or xs e 0) xs
unfolding Listed
listed_at e [] h = absurd (omega arith)
listed_at zero (x ∷ xs) h = inl refl
listed_at (suc e) (x ∷ xs) h = inr (listed_at e xs (omega arith))

at_listed : (i : ℕ) (xs : List ℕ) → Listed i xs → (e : ℕ) × ((e < length xs) × (get_or xs e 0 ≡ i))
unfolding Listed
at_listed i [] h = absurd h
at_listed i (x ∷ xs) h = ⊎_elim (λ d. (0, (omega arith, sym d))) (λ l. later (at_listed i xs l)) h
  where
    later : (e : ℕ) × ((e < length xs) × (get_or xs e 0 ≡ i)) → (e : ℕ) × ((e < length (x ∷ xs)) × (get_or (x ∷ xs) e 0 ≡ i))
    later r = (suc r.0, (omega (arith, r.1.0), r.1.1))

rising_at : (e f : ℕ) (xs : List ℕ) → Rising xs → e < f → f < length xs → get_or xs e 0 < get_or xs f 0
unfolding Rising
rising_at e f [] r l h = absurd (omega arith)
rising_at e zero (x ∷ xs) r l h = absurd (omega arith)
rising_at zero (suc f) (x ∷ xs) r l h = r.0 (get_or xs f 0) (listed_at f xs (omega arith))
rising_at (suc e) (suc f) (x ∷ xs) r l h = rising_at e f xs r.1 (omega arith) (omega arith)

-- ---- the order of the brackets of different pairs

places_up : (g : Grid) → IsRising g → (i n : ℕ) → (d : ℕ) × (g.place (i + n) ≡ g.place i +ℤ pos d)
places_up g r i zero = (0, rw add-zero (sym (+ℤ_idr (g.place i))))
places_up g r i (suc n) =
    let u = places_up g r i n in
    let w : ℕ = 2 ^ (20 - g.halvings (i + n)) in (
      u.0 + w,
      ap g.place (sym (add_assoc i n 1 ∙ ap (λ (k : ℕ). i + k) (add-one n)))
          ∙ r.next (i + n)
          ∙ ap (λ (z : ℤ). z +ℤ pos w) u.1
          ∙ +ℤ_assoc (g.place i) (pos u.0) (pos w),
    )

pairs_rise : (σ : ℤ → Side) (g : Grid) → IsRising g → (i j : ℕ) → i < j → crosses σ g i ≡ true → crosses σ g j ≡ true →
    (d : ℕ) × ((bracket_of σ g j).lower ≡ (bracket_of σ g i).upper +ℤ pos d)
pairs_rise σ g r i j l p q =
    let a = bracket_holds σ g r i p in
    let b = bracket_holds σ g r j q in
    let n : ℕ = j - (i + 1) in
    let u = places_up g r (i + 1) n in
    let e : j ≡ i + 1 + n = omega (arith, l) in
    let upper = (bracket_of σ g i).upper in
    let from-upper : g.place (i + 1) +ℤ pos u.0 ≡ upper +ℤ pos (a.to_upper + u.0) =
    ap (λ (z : ℤ). z +ℤ pos u.0) a.upper_is ∙ +ℤ_assoc upper (pos a.to_upper) (pos u.0) in
    let lower-place : g.place j ≡ upper +ℤ pos (a.to_upper + u.0) = ap g.place e ∙ u.1 ∙ from-upper in (
      a.to_upper + u.0 + b.from_lower,
      b.lower_is
          ∙ ap (λ (z : ℤ). z +ℤ pos b.from_lower) lower-place
          ∙ +ℤ_assoc upper (pos (a.to_upper + u.0)) (pos b.from_lower),
    )

module _ (σ : ℤ → Side) (g : Grid) (last : ℕ) where
  -- A pair is in the list of crossings exactly if it is among the places up to `last` and crosses.
  pub listed_exactly : (i : ℕ) → Listed i (crossings σ g last) ↔ ((i < last) × (crosses σ g i ≡ true))
  unfolding crossings
  listed_exactly i = (
    λ h. (listed_up i last (kept (crosses σ g) i (up_to last) h).0, (kept (crosses σ g) i (up_to last) h).1),
    λ h. keeps (crosses σ g) i (up_to last) h.1 (up_listed i last h.0),
  )

  -- The list of crossings rises.
  pub rises : Rising (crossings σ g last)
  unfolding crossings
  rises = rising_keep (crosses σ g) (up_to last) (rising_up last)

  -- The count is the number of crossings, but at most eight. There are as many brackets as crossings.
  count_is : (sweep_of σ g last).count ≡ min 8 (length (crossings σ g last))
  count_is = counted σ g last

  as_many : length (brackets σ g last) ≡ length (crossings σ g last)
  as_many = length_is σ g last

  -- The list has eight elements. The used ones hold the brackets of the crossings in their order, and the others hold zeros.
  pub eight_places : length (sweep_of σ g last).list ≡ 8
  unfolding sweep_of reported
  eight_places =
      let t = take 8 (brackets σ g last) in
      length-append t (replicate (8 - length t) blank)
      ∙ ap (λ (k : ℕ). length t + k) (length-replicate (8 - length t) blank)
      ∙ omega (arith, length-take 8 (brackets σ g last))

  pub in_order : (e : ℕ) → e < (sweep_of σ g last).count →
      get_or (sweep_of σ g last).list e blank ≡ bracket_of σ g (get_or (crossings σ g last) e 0)
  unfolding sweep_of reported brackets
  in_order e h =
      let few : e < length (take 8 (brackets σ g last)) = rw (length-take 8 (brackets σ g last)) h in
      let below : e < 8 = omega (arith, h) in
      let some : e < length (brackets σ g last) = omega (arith, h) in
      get_or-append (take 8 (brackets σ g last)) _ blank e few
      ∙ get_or-take 8 (brackets σ g last) e blank below
      ∙ any_default (brackets σ g last) e blank (bracket_of σ g 0) some
      ∙ get_or-map (bracket_of σ g) (crossings σ g last) e 0

  pub unused : (e : ℕ) → (sweep_of σ g last).count ≤ e → get_or (sweep_of σ g last).list e blank ≡ blank
  unfolding sweep_of reported
  unused e h =
      let used = take 8 (brackets σ g last) in
      padded used (8 - length used) e (rw (length-take 8 (brackets σ g last)) h)

  -- Every used element holds the bracket of a pair that crosses. If there are at most eight crossings, each of them has its element.
  pub only_crossings : (e : ℕ) → e < (sweep_of σ g last).count →
      (i : ℕ) × ((i < last) × (crosses σ g i ≡ true) × (get_or (sweep_of σ g last).list e blank ≡ bracket_of σ g i))
  only_crossings e h =
      let i = get_or (crossings σ g last) e 0 in
      let l : e < length (crossings σ g last) = omega (arith, h, count_is) in
      let c = (listed_exactly i).0 (listed_at e (crossings σ g last) l) in
      (i, (c.0, c.1, in_order e h))

  pub every_crossing : length (crossings σ g last) ≤ 8 → (i : ℕ) → i < last → crosses σ g i ≡ true →
      (e : ℕ) × ((e < (sweep_of σ g last).count) × (get_or (sweep_of σ g last).list e blank ≡ bracket_of σ g i))
  every_crossing few i h y =
      let p = at_listed i (crossings σ g last) ((listed_exactly i).1 (h, y)) in
      let b : p.0 < (sweep_of σ g last).count = rw count_is (omega (arith, p.1.0, few)) in
      (p.0, (b, in_order p.0 b ∙ ap (bracket_of σ g) p.1.1))

  -- If the grid rises, the elements of the list rise in x: the upper end of one is at most the lower end of any later one.
  pub places_rise : IsRising g → (e f : ℕ) → e < f → f < (sweep_of σ g last).count →
      (d : ℕ) × ((get_or (sweep_of σ g last).list f blank).lower ≡ (get_or (sweep_of σ g last).list e blank).upper +ℤ pos d)
  places_rise w e f l h =
      let all = crossings σ g last in
      let i = get_or all e 0 in
      let j = get_or all f 0 in
      let k : f < length all = omega (arith, h, count_is) in
      let near : e < length all = omega (arith, l, k) in
      let lower : e < (sweep_of σ g last).count = omega (arith, l, h) in
      let first = ((listed_exactly i).0 (listed_at e all near)).1 in
      let second = ((listed_exactly j).0 (listed_at f all k)).1 in
      let r = pairs_rise σ g w i j (rising_at e f all rises l k) first second in
      (r.0, rw (in_order e lower, in_order f h) r.1)

  -- `NinthFound` is reported exactly if there are more than eight crossings.
  pub ninth_exactly : ((sweep_of σ g last).walk ≡ NinthFound) ↔ (8 < length (crossings σ g last))
  unfolding sweep_of reported
  ninth_exactly = (
    λ e. subst (λ (n : ℕ). 8 < n) as_many (ltb-true 8 (length (brackets σ g last)) (by (ltb 8 (length (brackets σ g last))) e)),
    λ h. rw (as_many, lt-ltb 8 (length (crossings σ g last)) h),
  )
    where
      by : (b : Bool) → walk_of b (first_void σ g (up_to (last + 1))) ≡ NinthFound → b ≡ true
      by true e = refl
      by false e = never_ninth σ g last e

  -- `some_void` is true exactly if some place from 0 to `last` is void.
  pub void_at_lem : (i : ℕ) → i ≤ last → is_unknown (σ (g.place i)) ≡ true → some_void σ g last ≡ true
  unfolding some_void
  void_at_lem i h e = some_yes (λ j. is_unknown (σ (g.place j))) i (up_to (last + 1)) (up_listed i (last + 1) (omega arith)) e

  pub at_void : some_void σ g last ≡ true → (i : ℕ) × ((i ≤ last) × (is_unknown (σ (g.place i)) ≡ true))
  unfolding some_void
  at_void e =
      let f = some_found (λ j. is_unknown (σ (g.place j))) (up_to (last + 1)) e in
      let k : f.0 < last + 1 = listed_up f.0 (last + 1) f.1.0 in
      (f.0, (omega (arith, k), f.1.1))

  abbrev ninth : Bool
  ninth = ltb 8 (length (brackets σ g last))

  few : ninth ≡ false → length (crossings σ g last) ≤ 8
  few e = subst (λ (n : ℕ). n ≤ 8) as_many (ltb-false 8 (length (brackets σ g last)) e)

  -- `SomeVoid` is reported exactly if there are at most eight crossings and some place is void, and it names the first void one.
  pub void_exactly : (station : VoidStation) →
      ((sweep_of σ g last).walk ≡ SomeVoid station) ↔ ((length (crossings σ g last) ≤ 8) × IsFirstVoid σ g last station)
  unfolding sweep_of reported
  void_exactly station = (
    λ e.
        let t = walk_by (first_void σ g (up_to (last + 1))) (SomeVoid station) ninth e void_not_ninth in
        (few t.0, (names_exactly σ g last station).0 t.1),
    λ h. rw (as_many, le-ltb 8 (length (crossings σ g last)) h.0) ((names_exactly σ g last station).1 h.1),
  )
    where
      void_not_ninth : SomeVoid station ≡ NinthFound → ⊥
      void_not_ninth e = let z : ◌≡◌ {A = ℕ} 0 1 = cc e in omega (arith, z)

  -- `AllTimed` is reported exactly if there are at most eight crossings and every place has a time.
  pub timed_exactly : ((sweep_of σ g last).walk ≡ AllTimed)
      ↔ ((length (crossings σ g last) ≤ 8) × ((i : ℕ) → i ≤ last → is_unknown (σ (g.place i)) ≡ false))
  unfolding sweep_of reported
  timed_exactly = (
    λ e.
        let t = walk_by (first_void σ g (up_to (last + 1))) AllTimed ninth e timed_not_ninth in
        (few t.0, (all_exactly σ g last).0 t.1),
    λ h. rw (as_many, le-ltb 8 (length (crossings σ g last)) h.0) ((all_exactly σ g last).1 h.1),
  )
    where
      timed_not_ninth : AllTimed ≡ NinthFound → ⊥
      timed_not_ninth e = let z : ◌≡◌ {A = ℕ} 0 1 = cc e in omega (arith, z)

  empty_by : (xs : List ℕ) → ((i : ℕ) → Listed i xs → ⊥) → length xs ≡ 0
  unfolding Listed
  empty_by [] f = refl
  empty_by (x ∷ xs) f = absurd (f x (inl refl))

  not_listed : (i : ℕ) (xs : List ℕ) → length xs ≡ 0 → Listed i xs → ⊥
  unfolding Listed
  not_listed i [] e h = h
  not_listed i (x ∷ xs) e h = omega (arith, e)

  -- The count is 0 exactly if no pair crosses.
  pub none_exactly : ((sweep_of σ g last).count ≡ 0) ↔ ((i : ℕ) → i < last → crosses σ g i ≡ false)
  none_exactly = (
    λ e i h.
        let z : length (crossings σ g last) ≡ 0 = omega (arith, count_is, e) in
        false_by (crosses σ g i) (λ y. not_listed i (crossings σ g last) z ((listed_exactly i).1 (h, y))),
    λ f.
        let none : (i : ℕ) → Listed i (crossings σ g last) → ⊥ =
        λ i h. let c = (listed_exactly i).0 h in clash c.1 (f i c.0) in
        let z : length (crossings σ g last) ≡ 0 = empty_by (crossings σ g last) none in
        omega (arith, count_is, z),
  )
