-- The steps of `bisect` on an interval that meets its precondition. The width and the middle that the machine computes are those of the
-- definition (`width_bits`, `mid_read`). Each half meets the precondition again (`lower_next`, `upper_next`). Each branch of the code
-- returns what the definition gives (`at_one`, `at_void`, `in_lower`, `in_upper`).
use mathlib.Core.Path.{◌≡◌, refl, sym, ap, ◌∙◌, subst}
use mathlib.Core.Bool.{true, false, cond}
use Prim.Native.Nat.{ℕ, zero, suc, ◌+◌, ◌-◌, ◌^◌, ◌≤◌, ◌<◌}
use native.Mathlib.Omega.{arith}
use lib.Pow.{pow_pos}
use lib.IntN.{ℤ, pos, ◌+ℤ◌, ◌-ℤ◌}
use lib.Signed.{mag, quot_z}
use mir.Syntax.{w64}
use mir.Val.{SFits, to_z, of_z}
use mir.Facts.{to_z-of_z}
use Rattle.stations.specs.declared.side.Side.{Side}
use Rattle.stations.specs.Sides.{opposite, is_unknown}
use Rattle.stations.specs.Stations.{farthest}
use Rattle.bisection.specs.Halving.{with_side, bisect_of}
use Rattle.bisection.specs.Interval.{Interval}
use Rattle.stations.proofs.Places.{mag_add}
use Rattle.bisection.proofs.Halving.{double, up_less, middle, top, up_twice, sum_is, middle_is, step, mag_twice}
use Rattle.bisection.proofs.LowerSide.{at_lower, own_side, at_middle, upper_half}

-- The precondition still holds if the ends are replaced by equal numbers.
pub renamed : {a b x y : ℤ} {h : ℕ} → x ≡ a → y ≡ b → Interval a b h → Interval x y h
renamed {b = b} {x = x} {h = h} e f v =
    let lower : Interval x b h = subst (λ (z : ℤ). Interval z b h) (sym e) v in
    subst (λ (z : ℤ). Interval x z h) (sym f) lower

-- 2^k is 1 only if k = 0.
one_at : (k : ℕ) → 2 ^ k ≡ 1 → k ≡ 0
one_at zero e = refl
one_at (suc k) e = omega (arith, double k, pow_pos k)

module _ {a b : ℤ} {h : ℕ} (v : Interval a b h) where
  -- At width 1 no halvings are left, and the definition gives the interval itself.
  pub at_one : (σ : ℤ → Side) → 2 ^ (20 - h) ≡ 1 → record { lower = a; upper = b; halvings = h } ≡ bisect_of σ (20 - h) h a b
  unfolding bisect_of
  at_one σ e = let z : 20 - h ≡ 0 = one_at (20 - h) e in rw z

  module _ (fa : SFits w64 a) (fb : SFits w64 b) where
    width_read : to_z w64 (of_z w64 b) -ℤ to_z w64 (of_z w64 a) ≡ pos (2 ^ (20 - h))
    width_read = rw (to_z-of_z fa, to_z-of_z fb) (ap (λ (z : ℤ). z -ℤ a) v.upper_is ∙ up_less a (2 ^ (20 - h)))

    pub width_fits : SFits w64 (to_z w64 (of_z w64 b) -ℤ to_z w64 (of_z w64 a))
    width_fits = rw width_read (record { sfits = omega (arith, v.room) })

    pub width_bits : of_z w64 (to_z w64 (of_z w64 b) -ℤ to_z w64 (of_z w64 a)) ≡ 2 ^ (20 - h)
    width_bits = ap (of_z w64) width_read

    -- The same for the width that the machine computes.
    pub stops_at_one : (σ : ℤ → Side) → of_z w64 (to_z w64 (of_z w64 b) -ℤ to_z w64 (of_z w64 a)) ≡ 1 →
        record { lower = to_z w64 (of_z w64 a); upper = to_z w64 (of_z w64 b); halvings = h } ≡ bisect_of σ (20 - h) h a b
    stops_at_one σ e = rw (to_z-of_z fa, to_z-of_z fb) (at_one σ (sym width_bits ∙ e))

  module _ (more : 2 ^ (20 - h) ≡ 1 → ⊥) where
    left_by : (k : ℕ) → 20 - h ≡ k → h < 20
    left_by zero e = absurd (more (ap (λ (j : ℕ). 2 ^ j) e))
    left_by (suc k) e = omega arith

    pub left : h < 20
    left = left_by (20 - h) refl

    rest : 20 - h ≡ suc (20 - (h + 1))
    rest = omega (arith, left)

    -- The middle: half the width above the lower end.
    abbrev pub mid : ℤ
    mid = middle a (20 - (h + 1))

    upper_is : b ≡ top a (20 - (h + 1))
    upper_is = v.upper_is ∙ ap (λ (j : ℕ). a +ℤ pos (2 ^ j)) rest

    whole : 2 ^ (20 - h) ≡ 2 ^ (20 - (h + 1)) + 2 ^ (20 - (h + 1))
    whole = ap (λ (j : ℕ). 2 ^ j) rest ∙ double (20 - (h + 1))

    mid_room : mag mid + 2 ^ (20 - (h + 1)) ≤ farthest
    mid_room = omega (arith, mag_add a (2 ^ (20 - (h + 1))), v.room, whole)

    module _ (fa : SFits w64 a) (fb : SFits w64 b) where
      sum_read : to_z w64 (of_z w64 a) +ℤ to_z w64 (of_z w64 b) ≡ mid +ℤ mid
      sum_read = rw (to_z-of_z fa, to_z-of_z fb) (ap (λ (z : ℤ). a +ℤ z) upper_is ∙ sum_is a (20 - (h + 1)))

      pub sum_fits : SFits w64 (to_z w64 (of_z w64 a) +ℤ to_z w64 (of_z w64 b))
      sum_fits = rw sum_read (record { sfits = omega (arith, mag_twice mid, mid_room) })

      -- The middle as the code computes it.
      abbrev pub halfway : ℤ
      halfway = quot_z (to_z w64 (of_z w64 (to_z w64 (of_z w64 a) +ℤ to_z w64 (of_z w64 b)))) (pos 2)

      halfway_is : halfway ≡ mid
      halfway_is =
          ap (λ (z : ℤ). quot_z z (pos 2)) (to_z-of_z sum_fits ∙ sum_read ∙ sym (sum_is a (20 - (h + 1))))
          ∙ middle_is a (20 - (h + 1))

      pub halfway_fits : SFits w64 halfway
      halfway_fits = rw halfway_is (record { sfits = omega (arith, mid_room) })

      pub mid_read : to_z w64 (of_z w64 halfway) ≡ mid
      mid_read = to_z-of_z halfway_fits ∙ halfway_is

    pub lower_next : Interval a mid (h + 1)
    lower_next = record { upper_is = refl; most = omega (arith, left); room = omega (arith, v.room, whole) }

    pub upper_next : Interval mid b (h + 1)
    upper_next =
        record {
          upper_is = upper_is ∙ sym (up_twice a (20 - (h + 1)));
          most = omega (arith, left);
          room = mid_room;
        }

    -- Here the lower end counts as being on the side `low`, and s is the side of the middle.
    module _ (σ : ℤ → Side) (low : Side) {s : Side} (here : s ≡ σ mid) where
      halves : bisect_of (with_side σ a low) (20 - h) h a b
          ≡ cond (is_unknown s) (record { lower = a; upper = b; halvings = h })
          (cond (opposite low s) (bisect_of (with_side σ a low) (20 - (h + 1)) (h + 1) a mid)
          (bisect_of (with_side σ mid s) (20 - (h + 1)) (h + 1) mid b))
      halves =
          let n : ℕ = 20 - (h + 1) in
          let whole-step : bisect_of (with_side σ a low) (20 - h) h a (top a n) ≡ bisect_of (with_side σ a low) (suc n) h a (top a n) =
          ap (λ (k : ℕ). bisect_of (with_side σ a low) k h a (top a n)) rest in
          let by-definition = step a n (with_side σ a low) h in
          let above = upper_half σ a low n (h + 1) in
          rw (upper_is, whole-step, by-definition, here, own_side σ mid, above, at_middle σ a low n h, at_lower σ a low)

      pub at_void : is_unknown s ≡ true → record { lower = a; upper = b; halvings = h } ≡ bisect_of (with_side σ a low) (20 - h) h a b
      at_void e = sym (halves ∙ rw e)

      pub in_lower : is_unknown s ≡ false → opposite low s ≡ true →
          bisect_of (with_side σ a low) (20 - (h + 1)) (h + 1) a mid ≡ bisect_of (with_side σ a low) (20 - h) h a b
      in_lower e o = sym (halves ∙ rw (e, o))

      pub in_upper : is_unknown s ≡ false → opposite low s ≡ false →
          bisect_of (with_side σ mid s) (20 - (h + 1)) (h + 1) mid b ≡ bisect_of (with_side σ a low) (20 - h) h a b
      in_upper e o = sym (halves ∙ rw (e, o))
