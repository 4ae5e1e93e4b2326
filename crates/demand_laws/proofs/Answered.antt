-- The bytes and the entries of an answer. Each entry is at its offset in the bytes (`entry_place`). It has the bracket of its
-- crossing, and the chosen end and the velocities of that bracket (`bracket_of`, `chosen_by`). All velocities are finite exactly if
-- those of each crossing are (`each_finite`, `finite_each`).
use mathlib.Core.Path.{◌≡◌, refl, sym, ap, ◌∙◌}
use mathlib.Core.Bool.{Bool, true, false, cond, not, ◌&&◌}
use mathlib.Core.Logic.{◌⊎◌, inl, inr, ⊎_elim}
use mathlib.Core.List.{List, [], ◌∷◌, ◌++◌, map, append_assoc}
use Prim.Native.Nat.{ℕ, zero, suc, ◌+◌, ◌*◌, ◌<◌}
use native.Mathlib.Omega.{arith}
use lib.IntN.{ℤ}
use lib.Ieee.{Float}
use lib.ListN.{length, get_or, take, drop}
use lib.Seq.{take_at, drop_at, drop-drop}
use Rattle.float64.specs.Value.{finite_of}
use Rattle.records.specs.Layout.{head_size, entry_size, answer_size}
use Rattle.records.specs.Records.{head_bytes, answer_head_of, entry_bytes, entries_bytes, answer_bytes}
use Rattle.records.specs.declared.Entry.{Entry}
use Rattle.records.proofs.Sizes.{head_length, entry_length}
use Rattle.entrance.specs.declared.Problem.{Problem}
use Rattle.hypergeometric.specs.declared.reasons.Reason.{Reason}
use Rattle.flight_time.specs.declared.Place.{Place}
use Rattle.flight_time.specs.declared.Place.TheVariants.{Timed, Void}
use Rattle.float64.specs.Notation.{◌≺◌}
use Rattle.stations.specs.Sides.{side_of, side_at, opposite, is_unknown}
use Rattle.stations.specs.declared.side.Side.{Side}
use Rattle.stations.specs.declared.side.Side.TheVariants.{Below, NotBelow}
use Rattle.bisection.proofs.Halving.{lower_known, upper_known}
use Rattle.bisection.specs.Pairs.{crosses, bracket_of}
use Rattle.sweep.specs.Crossings.{brackets}
use Rattle.crossing_laws.specs.Brackets.{IsBracket}
use Rattle.crossing_laws.specs.Listed.{Listed}
use Rattle.bisection.specs.declared.Bracket.{Bracket}
use Rattle.crossing_laws.proofs.AnyTriangle.{known_finite}
use Rattle.stations.proofs.Grids.{grid_rises}
use Rattle.crossing_laws.proofs.BracketLaws.{bracket_holds}
use Rattle.velocity.specs.Chosen.{upper_chosen}
use Rattle.entries.specs.Entries.{place_of, takes_upper, velocities_at, velocities_for, finite_for, end_number}
use Rattle.entries.specs.Entries.{entry_for, entry_finite, every}
use Rattle.solver.specs.Crossed.{search_of, sides_of, grid_of, last_place, brackets_of, entries_of}
use Rattle.demand_laws.specs.Demand.{IsCrossing, pairs_of, bracket_at, entry_at, ChosenBy}

-- ---- the bytes of the entries

entry_at_lem : (es : List Entry) (tail : List ℕ) (e : ℕ) (d : Entry) → e < length es →
    take entry_size (drop (entry_size * e) (entries_bytes es ++ tail)) ≡ entry_bytes (get_or es e d)
unfolding entries_bytes
entry_at_lem [] tail e d h = absurd (omega arith)
entry_at_lem (x ∷ xs) tail zero d h = ap (take entry_size) (append_assoc (entry_bytes x) (entries_bytes xs) tail)
    ∙ take_at (entry_bytes x) (entries_bytes xs ++ tail) entry_size (entry_length x)
entry_at_lem (x ∷ xs) tail (suc e) d h =
    let k : entry_size * suc e ≡ entry_size + entry_size * e = omega arith in
    ap (λ (n : ℕ). take entry_size (drop n (entry_bytes x ++ entries_bytes xs ++ tail))) k
    ∙ ap (take entry_size) (sym (drop-drop (entry_size * e) entry_size (entry_bytes x ++ entries_bytes xs ++ tail)))
    ∙ ap (λ (l : List ℕ). take entry_size (drop (entry_size * e) l))
    (ap (drop entry_size) (append_assoc (entry_bytes x) (entries_bytes xs) tail)
    ∙ drop_at (entry_bytes x) (entries_bytes xs ++ tail) entry_size (entry_length x))
    ∙ entry_at_lem xs tail e d (omega arith)

-- The entry with index e is stored where an answer with e entries ends, whatever follows it.
pub entry_place : (job revision : ℕ) (es : List Entry) (tail : List ℕ) (e : ℕ) (d : Entry) → e < length es →
    take entry_size (drop (answer_size e) (answer_bytes job revision es ++ tail)) ≡ entry_bytes (get_or es e d)
unfolding answer_bytes
entry_place job revision es tail e d h =
    let head = head_bytes (answer_head_of job revision (length es)) in
    ap (take entry_size) (sym (drop-drop (entry_size * e) head_size (head ++ entries_bytes es ++ tail)))
    ∙ ap (λ (l : List ℕ). take entry_size (drop (entry_size * e) l)) (ap (drop head_size) (append_assoc head (entries_bytes es) tail)
    ∙ drop_at head (entries_bytes es ++ tail) head_size (head_length (answer_head_of job revision (length es))))
    ∙ entry_at_lem es tail e d h

map_twice : {A B C : Type 0} (f : B → C) (g : A → B) (xs : List A) → map f (map g xs) ≡ map (λ x. f (g x)) xs
map_twice f g [] = refl
map_twice f g (x ∷ xs) = ap (λ l. f (g x) ∷ l) (map_twice f g xs)

-- ---- both parts of a conjunction

and_both : (a b : Bool) → a && b ≡ true → (a ≡ true) × (b ≡ true)
and_both true b e = (refl, e)
and_both false b e = (cc, cc)

-- ---- the sides of two times

different : (a b : Bool) → a ≡ not b → opposite (cond a Below NotBelow) (cond b Below NotBelow) ≡ true
different true false e = refl
different false true e = refl
different true true e = cc
different false false e = cc

differ : (a b : Bool) → opposite (cond a Below NotBelow) (cond b Below NotBelow) ≡ true → a ≡ not b
differ true false e = refl
differ false true e = refl
differ true true e = cc
differ false false e = cc

moved : {a b c d : Side} → a ≡ c → b ≡ d → opposite a b ≡ true → opposite c d ≡ true
moved {b = b} {c = c} e f h = sym (ap (λ (x : Side). opposite x b) e ∙ ap (opposite c) f) ∙ h

-- A place whose side is unknown is void.
void_by : (x : Place) (w : Float) → is_unknown (side_of x w) ≡ true → (reason : Reason) × (x ≡ Void reason)
unfolding side_of
void_by (Void reason) w e = (reason, refl)
void_by (Timed t) w e = timed (t ≺ w) e
  where
    timed : (b : Bool) → is_unknown (cond b Below NotBelow) ≡ true → (reason : Reason) × (Timed t ≡ Void reason)
    timed true f = absurd (let z : ◌≡◌ {A = ℕ} 0 1 = cc f in omega (arith, z))
    timed false f = absurd (let z : ◌≡◌ {A = ℕ} 0 1 = cc f in omega (arith, z))

module _ (p : Problem) where
  pub entries_pairs : entries_of p ≡ map (entry_at p) (pairs_of p)
  unfolding entries_of brackets_of brackets
  entries_pairs = map_twice (entry_for p) (bracket_of (sides_of p) (grid_of p)) (pairs_of p)

  each_of : (xs : List ℕ) → every (finite_for p) (map (bracket_at p) xs) ≡ true → (i : ℕ) → Listed i xs
      → finite_for p (bracket_at p i) ≡ true
  unfolding every Listed
  each_of [] e i h = absurd h
  each_of (x ∷ xs) e i h =
      let b = and_both (finite_for p (bracket_at p x)) (every (finite_for p) (map (bracket_at p) xs)) e in
      ⊎_elim (λ d. ap (λ (j : ℕ). finite_for p (bracket_at p j)) d ∙ b.0) (λ l. each_of xs b.1 i l) h

  of_each : (xs : List ℕ) → ((i : ℕ) → Listed i xs → finite_for p (bracket_at p i) ≡ true)
      → every (finite_for p) (map (bracket_at p) xs) ≡ true
  unfolding every Listed
  of_each [] f = refl
  of_each (x ∷ xs) f = rw (f x (inl refl)) (of_each xs (λ i l. f i (inr l)))

  pub each_finite : every (finite_for p) (brackets_of p) ≡ true → (i : ℕ) → Listed i (pairs_of p) → finite_for p (bracket_at p i) ≡ true
  unfolding brackets_of brackets
  each_finite e = each_of (pairs_of p) e

  pub finite_each : ((i : ℕ) → Listed i (pairs_of p) → finite_for p (bracket_at p i) ≡ true) → every (finite_for p) (brackets_of p) ≡ true
  unfolding brackets_of brackets
  finite_each f = of_each (pairs_of p) f

  -- If not all velocities are finite, there is a listed pair whose velocities are not both finite.
  not_each : (xs : List ℕ) → every (finite_for p) (map (bracket_at p) xs) ≡ false →
      (i : ℕ) × (Listed i xs × (finite_for p (bracket_at p i) ≡ false))
  unfolding every Listed
  not_each [] e = absurd (let z : ◌≡◌ {A = ℕ} 0 1 = cc e in omega (arith, z))
  not_each (x ∷ xs) e = which (finite_for p (bracket_at p x)) refl e (not_each xs)
    where
      which : (b : Bool) → finite_for p (bracket_at p x) ≡ b → b && every (finite_for p) (map (bracket_at p) xs) ≡ false →
          (every (finite_for p) (map (bracket_at p) xs) ≡ false → (i : ℕ) × (Listed i xs × (finite_for p (bracket_at p i) ≡ false))) →
          (i : ℕ) × (((i ≡ x) ⊎ Listed i xs) × (finite_for p (bracket_at p i) ≡ false))
      which true h f g = let r = g f in (r.0, (inr r.1.0, r.1.1))
      which false h f g = (x, (inl refl, h))

  pub finite_not : every (finite_for p) (brackets_of p) ≡ false
      → (i : ℕ) × (Listed i (pairs_of p) × (finite_for p (bracket_at p i) ≡ false))
  unfolding brackets_of brackets
  finite_not e = not_each (pairs_of p) e

  pub finite_is : (i : ℕ) → entry_finite (entry_at p i) ≡ finite_for p (bracket_at p i)
  unfolding finite_for
  finite_is i = refl

  -- ---- crossings by times and by sides, and the times of places whose side is known

  side_is : (k : ℤ) → sides_of p k ≡ side_of (place_of p k) p.wanted
  unfolding sides_of side_at place_of
  side_is k = refl

  pub timed_at : (k : ℤ) → is_unknown (sides_of p k) ≡ false → (time : Float) × ((place_of p k ≡ Timed time) × (finite_of time ≡ true))
  unfolding sides_of place_of
  timed_at k e = known_finite (search_of p) k e

  pub side_at_lem : (k : ℤ) (t : Float) → place_of p k ≡ Timed t → sides_of p k ≡ cond (t ≺ p.wanted) Below NotBelow
  unfolding side_of
  side_at_lem k t e = side_is k ∙ rw e

  pub void_at_lem : (k : ℤ) {reason : Reason} → place_of p k ≡ Void reason → is_unknown (sides_of p k) ≡ true
  unfolding side_of
  void_at_lem k e = ap is_unknown (side_is k) ∙ rw e

  pub at_void : (k : ℤ) → is_unknown (sides_of p k) ≡ true → (reason : Reason) × (place_of p k ≡ Void reason)
  at_void k e = void_by (place_of p k) p.wanted (sym (ap is_unknown (side_is k)) ∙ e)

  pub counts_crosses : (i : ℕ) → IsCrossing p i → crosses (sides_of p) (grid_of p) i ≡ true
  unfolding crosses
  counts_crosses i c =
      rw (side_at_lem ((grid_of p).place i) c.lower_time c.lower_is, side_at_lem ((grid_of p).place (i + 1)) c.upper_time c.upper_is)
      (different (c.lower_time ≺ p.wanted) (c.upper_time ≺ p.wanted) c.apart)

  pub crosses_counts : (i : ℕ) → i < last_place p → crosses (sides_of p) (grid_of p) i ≡ true → IsCrossing p i
  unfolding crosses
  crosses_counts i h e =
      let x = timed_at ((grid_of p).place i) (lower_known (sides_of p ((grid_of p).place i)) (sides_of p ((grid_of p).place (i + 1))) e) in
      let y = timed_at ((grid_of p).place (i + 1)) (upper_known (sides_of p ((grid_of p).place i)) (sides_of p ((grid_of p).place
      (i + 1))) e) in
      record {
        within = h;
        lower_time = x.0;
        upper_time = y.0;
        lower_is = x.1.0;
        upper_is = y.1.0;
        apart = differ (x.0 ≺ p.wanted) (y.0 ≺ p.wanted)
            (moved (side_at_lem ((grid_of p).place i) x.0 x.1.0) (side_at_lem ((grid_of p).place (i + 1)) y.0 y.1.0) e);
      }

  -- ---- the bracket and the chosen end of a crossing

  pub bracket_of_lem : (i : ℕ) → IsCrossing p i →
      IsBracket (sides_of p) ((grid_of p).place i) ((grid_of p).place (i + 1)) ((grid_of p).halvings i) (bracket_at p i)
  bracket_of_lem i h = bracket_holds (sides_of p) (grid_of p) (grid_rises (search_of p)) i (counts_crosses i h)

  takes_is : (r : Bracket) (a b : Float) → place_of p r.lower ≡ Timed a → place_of p r.upper ≡ Timed b →
      takes_upper p r ≡ upper_chosen a b p.wanted
  unfolding takes_upper
  takes_is r a b e f = rw (e, f)

  pub chosen_by : (i : ℕ) → IsCrossing p i → ChosenBy p (bracket_at p i) (entry_at p i)
  unfolding entry_for velocities_for
  chosen_by i h =
      let r = bracket_at p i in
      let b = bracket_of_lem i h in
      let x = timed_at r.lower b.lower_timed in
      let y = timed_at r.upper b.upper_timed in
      let t = takes_is r x.0 y.0 x.1.0 y.1.0 in
      record {
        lower_time = x.0;
        upper_time = y.0;
        lower_is = x.1.0;
        upper_is = y.1.0;
        chosen_is = ap end_number t;
        v1_is = ap (λ (u : Bool). (velocities_at p (cond u r.upper r.lower)).v1) t;
        v2_is = ap (λ (u : Bool). (velocities_at p (cond u r.upper r.lower)).v2) t;
      }

  pub lower_of : (i : ℕ) → (entry_at p i).lower ≡ (bracket_at p i).lower
  unfolding entry_for
  lower_of i = refl

  pub halvings_of : (i : ℕ) → (entry_at p i).halvings ≡ (bracket_at p i).halvings
  unfolding entry_for
  halvings_of i = refl
