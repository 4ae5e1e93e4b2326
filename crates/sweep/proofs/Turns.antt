-- `Passed` is the invariant of the walk over the places of a grid. It holds at the start (`starts`). Each iteration keeps it (`turned`),
-- whether the pair below the place crosses (`listed`) or not (`passed`). At the end it gives the result of the definition (`ended`), after
-- the last place (`done`) or at a ninth crossing (`too_many`).
use mathlib.Core.Path.{◌≡◌, refl, sym, ap, ◌∙◌, subst}
use mathlib.Core.Bool.{Bool, true, false, cond}
use mathlib.Core.List.{List, [], ◌∷◌, ◌++◌, append-nil}
use Prim.Native.Nat.{ℕ, zero, suc, ◌+◌, ◌-◌, ◌≤◌, ◌<◌}
use native.Mathlib.Numerals.{add-one}
use native.Mathlib.Omega.{arith}
use borrow.Author.Tests.{leb-true, leb-false}
use lib.Arith.{lt_of_le-ne}
use lib.Dec.{leb}
use lib.ListN.{length, set, length-append}
use lib.IntN.{ℤ}
use Rattle.bisection.specs.declared.Bracket.{Bracket}
use Rattle.hypergeometric.specs.declared.reasons.Reason.TheVariants.{OutsideRange}
use Rattle.stations.specs.declared.side.Side.{Side}
use Rattle.stations.specs.declared.side.Side.TheVariants.{Unknown}
use Rattle.stations.specs.Sides.{opposite}
use Rattle.stations.specs.Grid.{Grid}
use Rattle.bisection.specs.Pairs.{crosses, bracket_of, bracket_from}
use Rattle.bisection.proofs.LowerSide.{own_bracket}
use Rattle.sweep.specs.Crossings.{up_to, keep, crossings, brackets, blank, eight, sweep_of}
use Rattle.sweep.specs.Walks.{void_at, or_later, first_void, walk_of}
use Rattle.sweep.specs.declared.walks.Walk.{Walk}
use Rattle.sweep.specs.declared.walks.Walk.TheVariants.{AllTimed}
use Rattle.sweep.proofs.Lists.{void_next, eight_set, brackets_next, all_passed, left_at}

-- The side of the place before place i. There is no place before the first, and for i = 0 the side counts as unknown.
unfoldable pub before : (ℤ → Side) → Grid → ℕ → Side
before σ g zero = Unknown OutsideRange
before σ g (suc i) = σ (g.place i)

-- The walk has passed the places below i. The list holds the brackets of the pairs that cross among them, and there was no ninth.
-- `seen` is the report about the times at these places, and `low` is the side of the last one.
pub record Passed (σ : ℤ → Side) (g : Grid) (last : ℕ) (list : List Bracket) (count : ℕ) (seen : Walk) (low : Side) (i : ℕ) : Type 0 where
  pub within : i ≤ last + 1
  pub here : low ≡ before σ g i
  pub found : list ≡ eight (brackets σ g (i - 1))
  pub counted : count ≡ length (brackets σ g (i - 1))
  pub most : count ≤ 8
  pub seen_is : seen ≡ first_void σ g (up_to i)

pub starts : (σ : ℤ → Side) (g : Grid) (last : ℕ) →
    Passed σ g last (blank ∷ blank ∷ blank ∷ blank ∷ blank ∷ blank ∷ blank ∷ blank ∷ []) 0 AllTimed (Unknown OutsideRange) 0
unfolding before brackets crossings keep first_void up_to
starts σ g last = record { within = omega arith; here = refl; found = refl; counted = refl; most = omega arith; seen_is = refl }

-- What pair i adds to the brackets, given the sides of its lower and upper place: its own bracket if they are opposite, and nothing
-- otherwise.
abbrev addition : (ℤ → Side) → Grid → ℕ → Side → Side → List Bracket
addition σ g i low high = cond (opposite low high) (bracket_of σ g i ∷ []) []

added : (σ : ℤ → Side) (g : Grid) (i : ℕ) →
    brackets σ g i ≡ brackets σ g (i - 1) ++ addition σ g (i - 1) (before σ g i) (σ (g.place i))
unfolding before brackets crossings keep up_to crosses
added σ g zero = refl
added σ g (suc j) =
    let e : suc j - 1 ≡ j = omega arith in
    rw e
    (subst (λ (k : ℕ). brackets σ g k ≡ brackets σ g j ++ addition σ g j (σ (g.place j)) (σ (g.place k))) (add-one j)
    (brackets_next σ g j))

-- There is a pair below place i, it crosses, and the side before place i is the side of the pair's lower place.
pub record Pair (σ : ℤ → Side) (g : Grid) (i : ℕ) : Type 0 where
  pub positive : 1 ≤ i
  pub crossing : crosses σ g (i - 1) ≡ true
  pub lower : before σ g i ≡ σ (g.place (i - 1))

pair_at : (σ : ℤ → Side) (g : Grid) (i : ℕ) → opposite (before σ g i) (σ (g.place i)) ≡ true → Pair σ g i
unfolding before crosses
pair_at σ g zero e = absurd (let z : ◌≡◌ {A = ℕ} 0 1 = cc e in omega (arith, z))
pair_at σ g (suc j) e =
    let k : suc j - 1 ≡ j = omega arith in
    record { positive = omega arith; crossing = rw (k, add-one j) e; lower = ap (λ (n : ℕ). σ (g.place n)) (sym k) }

module _ {σ : ℤ → Side} {g : Grid} {last : ℕ} {list : List Bracket} {count : ℕ} {seen : Walk} {low : Side} {i : ℕ}
    (v : Passed σ g last list count seen low i) where
  -- The walk has passed every place.
  pub done : {ninth : Bool} → ninth ≡ false → last < i →
      record { list = list; count = count; walk = walk_of ninth seen } ≡ sweep_of σ g last
  done n h =
      let e : i - 1 ≡ last = omega (arith, v.within) in
      let f : i ≡ last + 1 = omega (arith, v.within) in
      let few : length (brackets σ g (i - 1)) ≤ 8 = omega (arith, v.counted, v.most) in
      rw (v.found, v.counted, v.seen_is, n, e, f)
      (all_passed σ g last (subst (λ (k : ℕ). length (brackets σ g k) ≤ 8) e few))

  module _ {high : Side} (h : high ≡ σ (g.place i)) where
    -- If the sides before and at place i are opposite, the pair below place i crosses.
    pub pair : opposite low high ≡ true → Pair σ g i
    pair o = pair_at σ g i (rw (v.here, h) at o)

    -- The bracket computed from the side of the lower place is the bracket of the pair.
    bracket_is : {b : Bracket} → opposite low high ≡ true → b ≡ bracket_from σ low g (i - 1) → b ≡ bracket_of σ g (i - 1)
    bracket_is o e =
        let lower : low ≡ σ (g.place (i - 1)) = v.here ∙ (pair o).lower in
        e ∙ ap (λ (s : Side). bracket_from σ s g (i - 1)) lower ∙ own_bracket σ g (i - 1)

    -- The walk stops at a ninth crossing.
    pub too_many : {ninth : Bool} → ninth ≡ true → i ≤ last → count ≡ 8 → opposite low high ≡ true →
        record { list = list; count = count; walk = walk_of ninth seen } ≡ sweep_of σ g last
    too_many n l e o =
        let p = pair o in
        let full : length (brackets σ g (i - 1)) ≡ 8 = sym v.counted ∙ e in
        rw (v.found, n, e) (left_at σ g (i - 1) last seen (omega (arith, p.positive)) full p.crossing)

    module _ {now : Walk} (u : now ≡ or_later seen (void_at high (g.place i))) (l : i ≤ last) where
      -- The invariant after place i, given the list and the count after the pair below place i.
      next : (list' : List Bracket) (count' : ℕ) →
          list' ≡ eight (brackets σ g i) → count' ≡ length (brackets σ g i) → count' ≤ 8 →
          Passed σ g last list' count' now high (i + 1)
      unfolding before
      next list' count' listed counted most =
          let e : i + 1 - 1 ≡ i = omega arith in
          record {
            within = omega (arith, l);
            here = h ∙ ap (before σ g) (sym (add-one i));
            found = rw e listed;
            counted = rw e counted;
            most = most;
            seen_is = rw (u, v.seen_is, h) (sym (void_next σ g i));
          }

      -- The invariant after place i if the pair below it does not cross.
      pub passed : opposite low high ≡ false → Passed σ g last list count now high (i + 1)
      passed o =
          let none : brackets σ g i ≡ brackets σ g (i - 1) = added σ g i ∙ rw (← v.here, ← h, o, append-nil) in
          next list count (rw none v.found) (rw none v.counted) v.most

      -- The invariant after place i if the pair below it crosses and its bracket was written to the list.
      pub listed : {b : Bracket} → opposite low high ≡ true → (count ≡ 8 → ⊥) → b ≡ bracket_from σ low g (i - 1) →
          Passed σ g last (set list count b) (count + 1) now high (i + 1)
      listed {b} o f e =
          let earlier = brackets σ g (i - 1) in
          let room : count < 8 = lt_of_le-ne v.most f in
          let few : length earlier < 8 = omega (arith, v.counted, room) in
          let one : brackets σ g i ≡ earlier ++ (b ∷ []) = added σ g i ∙ rw (← v.here, ← h, o, bracket_is o e) in
          next (set list count b) (count + 1)
          (rw (one, v.found, v.counted) (eight_set earlier b few))
          (rw one (ap (λ (k : ℕ). k + 1) v.counted ∙ sym (length-append earlier (b ∷ []))))
          (omega (arith, room))

      by_sides : {list' : List Bracket} {count' : ℕ} (b : Bool) → opposite low high ≡ b →
          (opposite low high ≡ true → list' ≡ set list count (bracket_from σ low g (i - 1))) →
          (opposite low high ≡ true → count' ≡ count + 1) → (opposite low high ≡ true → count ≡ 8 → ⊥) →
          (opposite low high ≡ false → list' ≡ list) → (opposite low high ≡ false → count' ≡ count) →
          Passed σ g last list' count' now high (i + 1)
      by_sides true o written more room kept same = rw (written o, more o) (listed o (room o) refl)
      by_sides false o written more room kept same = rw (kept o, same o) (passed o)

      -- The invariant after place i, by what the pair below it does to the list and the count.
      pub turned : {list' : List Bracket} {count' : ℕ} →
          (opposite low high ≡ true → list' ≡ set list count (bracket_from σ low g (i - 1))) →
          (opposite low high ≡ true → count' ≡ count + 1) → (opposite low high ≡ true → count ≡ 8 → ⊥) →
          (opposite low high ≡ false → list' ≡ list) → (opposite low high ≡ false → count' ≡ count) →
          Passed σ g last list' count' now high (i + 1)
      turned = by_sides (opposite low high) refl

  by_test : (b : Bool) → leb i last ≡ b → (i ≤ last → count ≡ 8) → (i ≤ last → opposite low (σ (g.place i)) ≡ true) →
      record { list = list; count = count; walk = walk_of (leb i last) seen } ≡ sweep_of σ g last
  by_test true t full crossing =
      let within : i ≤ last = leb-true i last t in
      too_many refl t within (full within) (crossing within)
  by_test false t full crossing = done t (leb-false i last t)

  -- The walk ends after the last place, or before it at a ninth crossing.
  pub ended : (i ≤ last → count ≡ 8) → (i ≤ last → opposite low (σ (g.place i)) ≡ true) →
      record { list = list; count = count; walk = walk_of (leb i last) seen } ≡ sweep_of σ g last
  ended = by_test (leb i last) refl
