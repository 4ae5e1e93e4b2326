-- How one more place changes the brackets (`brackets_next`) and the report about the times (`void_next`), and what is reported when the
-- walk ends (`all_passed`, `left_at`).
use mathlib.Core.Path.{◌≡◌, refl, sym, ap, ◌∙◌}
use mathlib.Core.Bool.{Bool, true, false, cond}
use mathlib.Core.List.{List, [], ◌∷◌, ◌++◌, map, append_assoc, append-nil}
use Prim.Native.Nat.{ℕ, zero, suc, ◌+◌, ◌-◌, ◌≤◌, ◌<◌}
use native.Mathlib.Numerals.{add-one}
use native.Mathlib.Nat.{add-zero, add_assoc}
use native.Mathlib.Omega.{arith}
use borrow.Author.Tests.{le-ltb, lt-ltb}
use lib.ListN.{length, set, replicate, length-append}
use lib.Seq.{take_all, take_at, set-append_seam, append_snoc}
use lib.IntN.{ℤ}
use Rattle.bisection.specs.declared.Bracket.{Bracket}
use Rattle.stations.specs.declared.side.Side.{Side}
use Rattle.stations.specs.Grid.{Grid}
use Rattle.bisection.specs.Pairs.{crosses, bracket_of}
use Rattle.sweep.specs.Crossings.{up_to, keep, crossings, brackets, blank, eight, reported, sweep_of}
use Rattle.sweep.specs.Walks.{void_at, or_later, first_void, walk_of}
use Rattle.sweep.specs.declared.walks.Walk.{Walk}
use Rattle.sweep.specs.declared.walks.Walk.TheVariants.{AllTimed, SomeVoid, NinthFound}

-- ---- lists

map_append : {A B : Type 0} (f : A → B) (xs ys : List A) → map f (xs ++ ys) ≡ map f xs ++ map f ys
map_append f [] ys = refl
map_append f (x ∷ xs) ys = ap (λ l. f x ∷ l) (map_append f xs ys)

cond_append : {A : Type 0} (b : Bool) (x : A) (xs ys zs : List A) → xs ≡ ys ++ zs → cond b (x ∷ xs) xs ≡ cond b (x ∷ ys) ys ++ zs
cond_append true x xs ys zs e = ap (λ l. x ∷ l) e
cond_append false x xs ys zs e = e

map_cond : {A B : Type 0} (f : A → B) (b : Bool) (x : A) → map f (cond b (x ∷ []) []) ≡ cond b (f x ∷ []) []
map_cond f true x = refl
map_cond f false x = refl

pub keep_append : (p : ℕ → Bool) (xs ys : List ℕ) → keep p (xs ++ ys) ≡ keep p xs ++ keep p ys
unfolding keep
keep_append p [] ys = refl
keep_append p (x ∷ xs) ys = cond_append (p x) x (keep p (xs ++ ys)) (keep p xs) (keep p ys) (keep_append p xs ys)

up_next : (i : ℕ) → up_to (i + 1) ≡ up_to i ++ (i ∷ [])
unfolding up_to
up_next i = ap up_to (add-one i)

pub keep_next : (p : ℕ → Bool) (i : ℕ) → keep p (up_to (i + 1)) ≡ keep p (up_to i) ++ cond (p i) (i ∷ []) []
unfolding keep
keep_next p i = ap (keep p) (up_next i) ∙ keep_append p (up_to i) (i ∷ [])

-- ---- the report about the times

pub or_timed : (w : Walk) → or_later w AllTimed ≡ w
or_timed AllTimed = refl
or_timed (SomeVoid station) = refl
or_timed NinthFound = refl

or_assoc : (a b c : Walk) → or_later (or_later a b) c ≡ or_later a (or_later b c)
or_assoc AllTimed b c = refl
or_assoc (SomeVoid station) b c = refl
or_assoc NinthFound b c = refl

module _ (σ : ℤ → Side) (g : Grid) where
  void_append : (is js : List ℕ) → first_void σ g (is ++ js) ≡ or_later (first_void σ g is) (first_void σ g js)
  unfolding first_void
  void_append [] js = refl
  void_append (i ∷ is) js =
      let first = void_at (σ (g.place i)) (g.place i) in
      ap (or_later first) (void_append is js) ∙ sym (or_assoc first (first_void σ g is) (first_void σ g js))

  pub void_next : (i : ℕ) →
      first_void σ g (up_to (i + 1)) ≡ or_later (first_void σ g (up_to i)) (void_at (σ (g.place i)) (g.place i))
  unfolding first_void
  void_next i =
      ap (first_void σ g) (up_next i)
      ∙ void_append (up_to i) (i ∷ [])
      ∙ ap (or_later (first_void σ g (up_to i))) (or_timed (void_at (σ (g.place i)) (g.place i)))

-- ---- the list of eight elements

-- Writing a bracket to the first unused element appends it to the used ones.
pub eight_set : (bs : List Bracket) (b : Bracket) → length bs < 8 → set (eight bs) (length bs) b ≡ eight (bs ++ (b ∷ []))
eight_set bs b h =
    let e : 8 - length bs ≡ suc (7 - length bs) = omega arith in
    let f : 8 - length (bs ++ (b ∷ [])) ≡ 7 - length bs = simp length-append (omega arith) in
    ap (λ (k : ℕ). set (bs ++ replicate k blank) (length bs) b) e
    ∙ set-append_seam bs blank (replicate (7 - length bs) blank) b
    ∙ sym (ap (λ (k : ℕ). (bs ++ (b ∷ [])) ++ replicate k blank) f ∙ append_snoc bs b (replicate (7 - length bs) blank))

-- ---- the report

pub no_ninth : (bs : List Bracket) (seen : Walk) → length bs ≤ 8 →
    record { list = eight bs; count = length bs; walk = walk_of false seen } ≡ reported bs seen
unfolding reported
no_ninth bs seen h =
    let count : (reported bs seen).count ≡ length bs = omega arith in
    rw (take_all 8 bs h, count, le-ltb 8 (length bs) h)

pub a_ninth : (bs rest : List Bracket) (b : Bracket) (passed all : Walk) → length bs ≡ 8 →
    record { list = eight bs; count = 8; walk = walk_of true passed } ≡ reported (bs ++ (b ∷ rest)) all
unfolding reported
a_ninth bs rest b passed all h =
    let n : 8 < length (bs ++ (b ∷ rest)) = simp length-append (omega arith) in
    let count : (reported (bs ++ (b ∷ rest)) all).count ≡ 8 = omega arith in
    rw (take_at bs (b ∷ rest) 8 h, count, lt-ltb 8 (length (bs ++ (b ∷ rest))) n)

-- ---- the places of any grid

module _ (σ : ℤ → Side) (g : Grid) where
  pub brackets_next : (i : ℕ) → brackets σ g (i + 1) ≡ brackets σ g i ++ cond (crosses σ g i) (bracket_of σ g i ∷ []) []
  unfolding brackets crossings
  brackets_next i =
      ap (map (bracket_of σ g)) (keep_next (crosses σ g) i)
      ∙ map_append (bracket_of σ g) (crossings σ g i) (cond (crosses σ g i) (i ∷ []) [])
      ∙ ap (λ bs. brackets σ g i ++ bs) (map_cond (bracket_of σ g) (crosses σ g i) i)

  -- The brackets up to place i are a prefix of the brackets up to a later place.
  later : (i k : ℕ) → (rest : List Bracket) × (brackets σ g (i + k) ≡ brackets σ g i ++ rest)
  later i zero = ([], rw (add-zero, append-nil))
  later i (suc k) =
      let r = later i k in
      let more = cond (crosses σ g (i + k)) (bracket_of σ g (i + k) ∷ []) [] in (
        r.0 ++ more,
        ap (brackets σ g) (sym (add_assoc i k 1 ∙ ap (λ (j : ℕ). i + j) (add-one k)))
            ∙ brackets_next (i + k)
            ∙ rw r.1 (append_assoc (brackets σ g i) r.0 more),
      )

  -- The result if the walk passed every place.
  pub all_passed : (last : ℕ) → length (brackets σ g last) ≤ 8 →
      record {
        list = eight (brackets σ g last);
        count = length (brackets σ g last);
        walk = walk_of false (first_void σ g (up_to (last + 1)));
      }
      ≡ sweep_of σ g last
  unfolding sweep_of
  all_passed last h = no_ninth (brackets σ g last) (first_void σ g (up_to (last + 1))) h

  -- The result if the walk stopped at pair i, the ninth that crosses.
  pub left_at : (i last : ℕ) (passed : Walk) → i < last → length (brackets σ g i) ≡ 8 → crosses σ g i ≡ true →
      record { list = eight (brackets σ g i); count = 8; walk = walk_of true passed } ≡ sweep_of σ g last
  unfolding sweep_of
  left_at i last passed h e y =
      let all = first_void σ g (up_to (last + 1)) in
      let j : last ≡ i + 1 + (last - (i + 1)) = omega arith in
      let r = later (i + 1) (last - (i + 1)) in
      let first : brackets σ g (i + 1) ≡ brackets σ g i ++ (bracket_of σ g i ∷ []) = rw (brackets_next i, y) in
      a_ninth (brackets σ g i) r.0 (bracket_of σ g i) passed all e
      ∙ ap (λ bs. reported bs all)
      (sym (ap (brackets σ g) j ∙ r.1 ∙ ap (λ bs. bs ++ r.0) first ∙ append_snoc (brackets σ g i) (bracket_of σ g i) r.0))
