-- The report about the places of a grid names a station exactly if that is the first void one (`names_exactly`), and says that every place
-- has a time exactly if that is so (`all_exactly`). For the places below n this is shown by induction on n, with the step of `void_next`
-- (`seen_is`). At most one station is the first void one (`only_first`).
use mathlib.Core.Path.{◌≡◌, refl, sym, ap, ◌∙◌, subst}
use mathlib.Core.Bool.{Bool, true, false}
use mathlib.Core.Logic.{◌↔◌}
use Prim.Native.Nat.{ℕ, zero, suc, ◌+◌, ◌≤◌, ◌<◌}
use native.Mathlib.Omega.{arith}
use native.Mathlib.Numerals.{add-one}
use native.Mathlib.Nat.{lt_of_not-le}
use borrow.Author.Tests.{ltb-true, ltb-false}
use lib.Dec.{ltb}
use lib.IntN.{ℤ}
use Rattle.hypergeometric.specs.declared.reasons.Reason.{Reason}
use Rattle.stations.specs.declared.side.Side.{Side}
use Rattle.stations.specs.declared.side.Side.TheVariants.{Below, NotBelow, Unknown}
use Rattle.stations.specs.Sides.{is_unknown}
use Rattle.stations.specs.Grid.{Grid}
use Rattle.stations.specs.Stations.{j_of}
use Rattle.sweep.specs.Crossings.{up_to}
use Rattle.sweep.specs.Walks.{void_at, or_later, first_void}
use Rattle.sweep.specs.declared.walks.VoidStation.{VoidStation}
use Rattle.sweep.specs.declared.walks.Walk.{Walk}
use Rattle.sweep.specs.declared.walks.Walk.TheVariants.{AllTimed, SomeVoid, NinthFound}
use Rattle.sweep.proofs.Lists.{void_next}
use Rattle.crossing_laws.specs.FirstVoid.{IsFirstVoid}

-- No Boolean is both true and false.
pub clash : {P : Type 0} {b : Bool} → b ≡ true → b ≡ false → P
clash e f = absurd (let z : ◌≡◌ {A = ℕ} 0 1 = cc (e, f) in omega (arith, z))

module _ (σ : ℤ → Side) (g : Grid) where
  -- Every place below n has a time.
  abbrev TimedBefore : ℕ → Type 0
  TimedBefore n = (i : ℕ) → i < n → is_unknown (σ (g.place i)) ≡ false

  -- What a report about the places below n says.
  pub data Seen (n : ℕ) : Walk → Type 0 where
    timed : TimedBefore n → Seen n AllTimed
    void : (station : VoidStation) (index : ℕ) → index < n → station.j ≡ j_of (g.place index) →
        σ (g.place index) ≡ Unknown station.reason → TimedBefore index → Seen n (SomeVoid station)

  timed_more : (n : ℕ) → TimedBefore n → is_unknown (σ (g.place n)) ≡ false → TimedBefore (suc n)
  timed_more n t e i h = by (ltb i n) refl
    where
      by : (b : Bool) → ltb i n ≡ b → is_unknown (σ (g.place i)) ≡ false
      by true l = t i (ltb-true i n l)
      by false l = let same : i ≡ n = omega (arith, ltb-false i n l, h) in rw same e

  one_more : (n : ℕ) {w : Walk} → Seen n w → (side : Side) → σ (g.place n) ≡ side → Seen (suc n) (or_later w (void_at side (g.place n)))
  one_more n (timed t) Below e = timed (timed_more n t (rw e))
  one_more n (timed t) NotBelow e = timed (timed_more n t (rw e))
  one_more n (timed t) (Unknown reason) e = void _ n (omega arith) refl e t
  one_more n (void station index h j v t) side e = void station index (omega (arith, h)) j v t

  pub seen_is_lem : (n : ℕ) → Seen n (first_void σ g (up_to n))
  unfolding first_void up_to
  seen_is_lem zero = timed (λ i h. absurd (omega (arith, h)))
  seen_is_lem (suc n) =
      subst (Seen (suc n)) (sym (ap (λ (m : ℕ). first_void σ g (up_to m)) (sym (add-one n)) ∙ void_next σ g n))
      (one_more n (seen_is_lem n) (σ (g.place n)) refl)

  -- ---- at most one station is the first void one

  -- A void place is not below another one if every place below that one has a time.
  void_not_below : (i j : ℕ) {reason : Reason} → σ (g.place i) ≡ Unknown reason →
      (i < j → is_unknown (σ (g.place i)) ≡ false) → j ≤ i
  void_not_below i j {reason} e f =
      let unknown : is_unknown (σ (g.place i)) ≡ true = rw e in
      omega (arith, lt_of_not-le (λ (h : suc i ≤ j). clash unknown (f h)))

  -- Two first void places have the same index, because neither is below the other.
  same_index : {last : ℕ} {a b : VoidStation} (x : IsFirstVoid σ g last a) (y : IsFirstVoid σ g last b) → x.index ≡ y.index
  same_index x y =
      let not_below : x.index ≤ y.index = void_not_below y.index x.index y.void_is (x.lower y.index) in
      let not_above : y.index ≤ x.index = void_not_below x.index y.index x.void_is (y.lower x.index) in
      omega (arith, not_below, not_above)

  make : ℤ → Reason → VoidStation
  make j reason = record { j = j; reason = reason }

  pub only_first : {last : ℕ} {a b : VoidStation} → IsFirstVoid σ g last a → IsFirstVoid σ g last b → a ≡ b
  unfolding make
  only_first {a = a} {b = b} x y =
      let index = same_index x y in
      let j : a.j ≡ b.j = x.j_is ∙ ap (λ (i : ℕ). j_of (g.place i)) index ∙ sym y.j_is in
      let unknown : Unknown a.reason ≡ Unknown b.reason =
      sym x.void_is ∙ ap (λ (i : ℕ). σ (g.place i)) index ∙ y.void_is in
      let reason : a.reason ≡ b.reason = cc unknown in
      ap (λ (k : ℤ). make k a.reason) j ∙ ap (make b.j) reason

  -- ---- the report about the places 0 to `last`

  module _ (last : ℕ) where
    abbrev report : Walk
    report = first_void σ g (up_to (last + 1))

    whole : Seen (suc last) report
    whole = subst (λ (n : ℕ). Seen n report) (add-one last) (seen_is_lem (last + 1))

    -- A report never says that there is a ninth crossing.
    pub never_ninth : {P : Type 0} → report ≡ NinthFound → P
    never_ninth e = by whole e
      where
        by : {P : Type 0} {w : Walk} → Seen (suc last) w → w ≡ NinthFound → P
        by (timed t) f = absurd (let z : ◌≡◌ {A = ℕ} 0 1 = cc f in omega (arith, z))
        by (void station index h j v t) f = absurd (let z : ◌≡◌ {A = ℕ} 0 1 = cc f in omega (arith, z))

    first_by : {w : Walk} → Seen (suc last) w → (station : VoidStation) → w ≡ SomeVoid station → IsFirstVoid σ g last station
    first_by (timed t) station e = absurd (let z : ◌≡◌ {A = ℕ} 0 1 = cc e in omega (arith, z))
    first_by (void other index h j v t) station e =
        let same : other ≡ station = cc e in
        subst (IsFirstVoid σ g last) same (record { index = index; within = omega (arith, h); j_is = j; void_is = v; lower = t })

    -- If every place has a time, none is the first void one.
    not_void : {P : Type 0} {station : VoidStation} → ((i : ℕ) → i ≤ last → is_unknown (σ (g.place i)) ≡ false) →
        IsFirstVoid σ g last station → P
    not_void t x = clash (let unknown : is_unknown (σ (g.place x.index)) ≡ true = rw x.void_is in unknown) (t x.index x.within)

    void_by : {w : Walk} → Seen (suc last) w → (station : VoidStation) → IsFirstVoid σ g last station → w ≡ SomeVoid station
    void_by (timed t) station x = not_void (λ i h. t i (omega (arith, h))) x
    void_by (void other index h j v t) station x =
        let found : IsFirstVoid σ g last other =
        record { index = index; within = omega (arith, h); j_is = j; void_is = v; lower = t } in
        ap SomeVoid (only_first found x)

    -- The report names a station exactly if that is the first void one.
    pub names_exactly : (station : VoidStation) → (report ≡ SomeVoid station) ↔ IsFirstVoid σ g last station
    names_exactly station = (first_by whole station, void_by whole station)

    timed_by : {w : Walk} → Seen (suc last) w → w ≡ AllTimed → (i : ℕ) → i ≤ last → is_unknown (σ (g.place i)) ≡ false
    timed_by (timed t) e i h = t i (omega (arith, h))
    timed_by (void station index h' j v t) e i h = absurd (let z : ◌≡◌ {A = ℕ} 0 1 = cc e in omega (arith, z))

    all_by : {w : Walk} → Seen (suc last) w → ((i : ℕ) → i ≤ last → is_unknown (σ (g.place i)) ≡ false) → w ≡ AllTimed
    all_by (timed t) f = refl
    all_by (void station index h j v t) f =
        let unknown : is_unknown (σ (g.place index)) ≡ true = rw v in
        clash unknown (f index (omega (arith, h)))

    -- The report says that every place has a time exactly if that is so.
    pub all_exactly : (report ≡ AllTimed) ↔ ((i : ℕ) → i ≤ last → is_unknown (σ (g.place i)) ≡ false)
    all_exactly = (timed_by whole, all_by whole)
