-- What holds for the bracket of every crossing (`bracket_holds`). During the bisection the interval stays within its pair, is 2^(20−h)
-- wide and has its ends on opposite sides. The bracket is the only interval that bisection reaches and stops at (`only_one`).
use mathlib.Core.Path.{◌≡◌, refl, sym, ap, ◌∙◌, subst}
use mathlib.Core.Bool.{Bool, true, false, cond}
use mathlib.Core.Logic.{◌⊎◌, inl, inr}
use Prim.Native.Nat.{ℕ, zero, suc, ◌+◌, ◌-◌, ◌^◌, ◌≤◌, ◌<◌}
use native.Mathlib.Omega.{arith}
use lib.IntN.{ℤ, pos, ◌+ℤ◌, +ℤ_idr, +ℤ_assoc}
use Rattle.bisection.specs.declared.Bracket.{Bracket}
use Rattle.stations.specs.declared.side.Side.{Side}
use Rattle.stations.specs.Sides.{opposite, is_unknown}
use Rattle.stations.specs.Grid.{Grid, IsRising}
use Rattle.bisection.specs.Halving.{middle_of, stops, bisect_of}
use Rattle.bisection.specs.Pairs.{crosses, bracket_of}
use Rattle.crossing_laws.specs.Brackets.{Comes, start, keeps_lower, keeps_upper, IsBracket}
use Rattle.bisection.proofs.Halving.{same_side, lower_known, upper_known, up_less, middle, top, up_twice, middle_is, stops_is, step}

module _ (σ : ℤ → Side) (a b : ℤ) (initial : ℕ) where
  -- What holds for the interval from x of width 2^n, reached by the bisection of the pair from a to b after h halvings.
  record Along (x : ℤ) (n h : ℕ) : Type 0 where
    pub from_lower : ℕ
    pub lower_is : x ≡ a +ℤ pos from_lower
    pub to_upper : ℕ
    pub upper_is : b ≡ x +ℤ pos (2 ^ n) +ℤ pos to_upper
    pub least : initial ≤ h
    pub left : h + n ≡ 20
    pub ends : opposite (σ x) (σ (x +ℤ pos (2 ^ n))) ≡ true
    pub comes : Comes σ a b initial x (x +ℤ pos (2 ^ n)) h

  -- An interval where the bisection stops satisfies `IsBracket`.
  stopping : (x : ℤ) (n h : ℕ) → Along x n h →
      (x +ℤ pos (2 ^ n) ≡ x +ℤ pos 1) ⊎ (is_unknown (σ (middle_of x (x +ℤ pos (2 ^ n)))) ≡ true) → stops σ x (x +ℤ pos (2 ^ n)) ≡ true →
      IsBracket σ a b initial (record { lower = x; upper = x +ℤ pos (2 ^ n); halvings = h })
  stopping x n h v s e =
      let w : 20 - h ≡ n = omega (arith, v.left) in
      record {
        from_lower = v.from_lower;
        lower_is = v.lower_is;
        to_upper = v.to_upper;
        upper_is = v.upper_is;
        width = rw w;
        least = v.least;
        most = omega (arith, v.left);
        lower_timed = lower_known (σ x) (σ (x +ℤ pos (2 ^ n))) v.ends;
        upper_timed = upper_known (σ x) (σ (x +ℤ pos (2 ^ n))) v.ends;
        ends = v.ends;
        stopped = s;
        reached = v.comes;
        ended = e;
      }

  module _ (x : ℤ) (n h : ℕ) (v : Along x (suc n) h) (e : is_unknown (σ (middle x n)) ≡ false) where
    lower_half : opposite (σ x) (σ (middle x n)) ≡ true → Along x n (h + 1)
    lower_half o =
        record {
          from_lower = v.from_lower;
          lower_is = v.lower_is;
          to_upper = 2 ^ n + v.to_upper;
          upper_is = v.upper_is
              ∙ ap (λ (z : ℤ). z +ℤ pos v.to_upper) (sym (up_twice x n))
              ∙ +ℤ_assoc (middle x n) (pos (2 ^ n)) (pos v.to_upper);
          least = omega (arith, v.least);
          left = omega (arith, v.left);
          ends = o;
          comes =
              subst (λ (z : ℤ). Comes σ a b initial x z (h + 1)) (middle_is x n)
              (keeps_lower v.comes (stops_is x n σ ∙ e) (rw (middle_is x n) o));
        }

    upper_half : opposite (σ x) (σ (middle x n)) ≡ false → Along (middle x n) n (h + 1)
    upper_half o =
        record {
          from_lower = v.from_lower + 2 ^ n;
          lower_is = ap (λ (z : ℤ). z +ℤ pos (2 ^ n)) v.lower_is ∙ +ℤ_assoc a (pos v.from_lower) (pos (2 ^ n));
          to_upper = v.to_upper;
          upper_is = v.upper_is ∙ ap (λ (z : ℤ). z +ℤ pos v.to_upper) (sym (up_twice x n));
          least = omega (arith, v.least);
          left = omega (arith, v.left);
          ends = rw (up_twice x n, ← same_side (σ x) (σ (middle x n)) (lower_known (σ x) (σ (top x n)) v.ends) e o) v.ends;
          comes =
              subst (λ (z : ℤ). Comes σ a b initial (middle x n) z (h + 1)) (sym (up_twice x n))
              (subst (λ (z : ℤ). Comes σ a b initial z (top x n) (h + 1)) (middle_is x n)
              (keeps_upper v.comes (stops_is x n σ ∙ e) (rw (middle_is x n) o)));
        }

  -- One step of the definition: it stops at a void middle, and otherwise it continues in the half whose ends are on opposite sides.
  choose : (x : ℤ) (n h : ℕ) (u o : Bool) (p q : Bracket) → Along x (suc n) h →
      is_unknown (σ (middle x n)) ≡ u → opposite (σ x) (σ (middle x n)) ≡ o →
      (Along x n (h + 1) → IsBracket σ a b initial p) → (Along (middle x n) n (h + 1) → IsBracket σ a b initial q) →
      IsBracket σ a b initial (cond u (record { lower = x; upper = top x n; halvings = h }) (cond o p q))
  choose x n h true o p q v e d f g = stopping x (suc n) h v (inr (rw (middle_is x n) e)) (stops_is x n σ ∙ e)
  choose x n h false true p q v e d f g = f (lower_half x n h v e d)
  choose x n h false false p q v e d f g = g (upper_half x n h v e d)

  -- From every interval that satisfies `Along`, the definition ends with a bracket of the pair.
  ends_in : (n h : ℕ) (x : ℤ) → Along x n h → IsBracket σ a b initial (bisect_of σ n h x (x +ℤ pos (2 ^ n)))
  unfolding bisect_of
  ends_in zero h x v = stopping x zero h v (inl refl) (rw (up_less x 1))
  ends_in (suc n) h x v =
      let lower = bisect_of σ n (h + 1) x (middle x n) in
      let upper = bisect_of σ n (h + 1) (middle x n) (top x n) in
      let in_upper : Along (middle x n) n (h + 1) → IsBracket σ a b initial upper =
      λ w.
      subst (λ (z : ℤ). IsBracket σ a b initial (bisect_of σ n (h + 1) (middle x n) z)) (up_twice x n)
      (ends_in n (h + 1) (middle x n) w) in
      let chosen = choose x n h (is_unknown (σ (middle x n))) (opposite (σ x) (σ (middle x n))) lower upper v refl refl in
      subst (IsBracket σ a b initial) (sym (step x n σ h)) (chosen (ends_in n (h + 1) x) in_upper)

-- In any grid that rises, the bracket of a crossing satisfies `IsBracket`.
pub bracket_holds : (σ : ℤ → Side) (g : Grid) → IsRising g → (i : ℕ) → crosses σ g i ≡ true →
    IsBracket σ (g.place i) (g.place (i + 1)) (g.halvings i) (bracket_of σ g i)
unfolding bracket_of crosses
bracket_holds σ g r i e =
    rw (r.next i)
    (ends_in σ (g.place i) (g.place i +ℤ pos (2 ^ (20 - g.halvings i))) (g.halvings i) (20 - g.halvings i) (g.halvings i) (g.place i)
    (record {
      from_lower = 0;
      lower_is = sym (+ℤ_idr (g.place i));
      to_upper = 0;
      upper_is = sym (+ℤ_idr (g.place i +ℤ pos (2 ^ (20 - g.halvings i))));
      least = omega arith;
      left = omega (arith, r.most i);
      ends = rw (r.next i) at e;
      comes = start;
    }))

-- ---- uniqueness of the bracket

module _ (σ : ℤ → Side) (a : ℤ) (initial : ℕ) (few : initial ≤ 20) where
  -- What holds for an interval that the bisection reaches: its width is 2^(20−h), and the definition gives the same bracket from there as
  -- from the whole pair.
  record Follows (x y : ℤ) (h : ℕ) : Type 0 where
    pub most : h ≤ 20
    pub width : y ≡ x +ℤ pos (2 ^ (20 - h))
    pub goes : bisect_of σ (20 - initial) initial a (a +ℤ pos (2 ^ (20 - initial))) ≡ bisect_of σ (20 - h) h x y

  -- An interval where bisection does not stop is wider than 1, so it was halved fewer than 20 times.
  wider : (x y : ℤ) (h k : ℕ) → 20 - h ≡ k → y ≡ x +ℤ pos (2 ^ k) → stops σ x y ≡ false → h < 20
  wider x y h zero e w s =
      let t : stops σ x y ≡ true = rw (w, up_less x 1) in
      let z : ◌≡◌ {A = ℕ} 0 1 = cc (t, s) in
      omega (arith, z)
  wider x y h (suc k) e w s = omega arith

  module _ {x y : ℤ} {h : ℕ} (v : Follows x y h) (s : stops σ x y ≡ false) where
    more : h < 20
    more = wider x y h (20 - h) refl v.width s

    rest : 20 - h ≡ suc (20 - (h + 1))
    rest = omega (arith, more)

    is_top : y ≡ top x (20 - (h + 1))
    is_top = v.width ∙ ap (λ (k : ℕ). x +ℤ pos (2 ^ k)) rest

    is_middle : middle_of x y ≡ middle x (20 - (h + 1))
    is_middle = ap (middle_of x) is_top ∙ middle_is x (20 - (h + 1))

    known : is_unknown (σ (middle x (20 - (h + 1)))) ≡ false
    known = sym (stops_is x (20 - (h + 1)) σ) ∙ ap (stops σ x) (sym is_top) ∙ s

    next : bisect_of σ (20 - h) h x y
        ≡ cond (opposite (σ x) (σ (middle_of x y)))
        (bisect_of σ (20 - (h + 1)) (h + 1) x (middle_of x y))
        (bisect_of σ (20 - (h + 1)) (h + 1) (middle_of x y) y)
    next = rw (is_middle, is_top) (ap (λ (k : ℕ). bisect_of σ k h x (top x (20 - (h + 1)))) rest ∙ step x (20 - (h + 1)) σ h ∙ rw known)

    lower_follows : opposite (σ x) (σ (middle_of x y)) ≡ true → Follows x (middle_of x y) (h + 1)
    lower_follows o = record { most = omega (arith, more); width = is_middle; goes = v.goes ∙ next ∙ rw o }

    upper_follows : opposite (σ x) (σ (middle_of x y)) ≡ false → Follows (middle_of x y) y (h + 1)
    upper_follows o =
        record {
          most = omega (arith, more);
          width = is_top ∙ sym (up_twice x (20 - (h + 1))) ∙ ap (λ (z : ℤ). z +ℤ pos (2 ^ (20 - (h + 1)))) (sym is_middle);
          goes = v.goes ∙ next ∙ rw o;
        }

  follows : (x y : ℤ) (h : ℕ) → Comes σ a (a +ℤ pos (2 ^ (20 - initial))) initial x y h → Follows x y h
  follows x y h start = record { most = few; width = refl; goes = refl }
  follows x y h (keeps_lower c s o) = lower_follows (follows _ _ _ c) s o
  follows x y h (keeps_upper c s o) = upper_follows (follows _ _ _ c) s o

  -- The width of an interval that the bisection reaches.
  pub width_at : (x y : ℤ) (h : ℕ) → Comes σ a (a +ℤ pos (2 ^ (20 - initial))) initial x y h → (h ≤ 20) × (y ≡ x +ℤ pos (2 ^ (20 - h)))
  width_at x y h c = ((follows x y h c).most, (follows x y h c).width)

  at_stop : (n h : ℕ) (x y : ℤ) → stops σ x y ≡ true → bisect_of σ n h x y ≡ record { lower = x; upper = y; halvings = h }
  unfolding bisect_of
  at_stop zero h x y e = refl
  at_stop (suc n) h x y e = rw e

module _ (σ : ℤ → Side) (g : Grid) (r : IsRising g) (i : ℕ) (x y : ℤ) (h : ℕ)
    (c : Comes σ (g.place i) (g.place (i + 1)) (g.halvings i) x y h) where
  moved : Comes σ (g.place i) (g.place i +ℤ pos (2 ^ (20 - g.halvings i))) (g.halvings i) x y h
  moved = subst (λ (z : ℤ). Comes σ (g.place i) z (g.halvings i) x y h) (r.next i) c

  -- An interval that the bisection of a pair reaches and stops at is the bracket of the pair.
  pub only_one : stops σ x y ≡ true → bracket_of σ g i ≡ record { lower = x; upper = y; halvings = h }
  unfolding bracket_of
  only_one e =
      let comes = (follows σ (g.place i) (g.halvings i) (r.most i) x y h moved).goes in
      let stays = at_stop σ (g.place i) (g.halvings i) (r.most i) (20 - h) h x y e in
      rw (r.next i) (comes ∙ stays)

  -- Every interval that the bisection of a pair reaches is 2^(20−h) wide.
  pub comes_width : (h ≤ 20) × (y ≡ x +ℤ pos (2 ^ (20 - h)))
  comes_width = width_at σ (g.place i) (g.halvings i) (r.most i) x y h moved

  -- While such an interval is wider than 1, its middle is halfway between the ends, strictly inside.
  pub comes_middle : h < 20 → (middle_of x y ≡ x +ℤ pos (2 ^ (19 - h))) × (y ≡ middle_of x y +ℤ pos (2 ^ (19 - h)))
  comes_middle l =
      let e : 20 - h ≡ suc (19 - h) = omega (arith, l) in
      let t : y ≡ top x (19 - h) = comes_width.1 ∙ ap (λ (k : ℕ). x +ℤ pos (2 ^ k)) e in
      let mid : middle_of x y ≡ middle x (19 - h) = ap (middle_of x) t ∙ middle_is x (19 - h) in
      (mid, t ∙ sym (up_twice x (19 - h)) ∙ ap (λ (z : ℤ). z +ℤ pos (2 ^ (19 - h))) (sym mid))
