-- Rounding keeps a bound p / q that is itself an f64. If a / c is at most p / q, then a / c with either sign rounds to
-- a finite f64 whose magnitude is at most p / q (`round_most`). If a / c is at least p / q and rounds to a finite f64,
-- then that f64 is at least p / q (`round_least`). The reason is that rounding keeps the order (`round_mono` of the
-- library), and p / q rounds to itself.
use mathlib.Core.Path.{◌≡◌, refl, sym, ap, ◌∙◌, subst}
use mathlib.Core.Bool.{Bool, true, false, not, ◌&&◌, ◌||◌, cond, true≢false, false≢true}
use Prim.Native.Nat.{ℕ, zero, suc, ◌+◌, ◌*◌, ◌^◌, ◌≤◌, ◌<◌}
use native.Mathlib.Nat.{le_of_eq, le_of_lt}
use lib.Dec.{T, ltb, eqb, ltb→lt, eqb→eq}
use lib.Ieee.{Float, nan, inf, fin, Format, binary64, prec, emax, low, up, down, odd, units, round, neg, le}
use lib.Ieee.Fits.{down_pos, and_l, round-fits, round_is}
use lib.Ieee.Exact.{HasValue}
use lib.Ieee.Order.{round_mono, kept, drop}
use lib.Ieee.Positive.{num, den, through}
use Rattle.float64.specs.Value.{finite_of}
use Rattle.float64.specs.Nearness.{negative}
use Rattle.bound_laws.specs.Bounds.{Representable, AtMost, AtLeast}

-- ---- rounding of either sign
-- Rounding with the sign − gives the negated result of rounding with the sign + (`round_signed`).
abbrev signed : Bool → Float → Float
signed false x = x
signed true x = neg x

odd_signed : (d : ℕ) (s : Bool) (q k l : ℕ) → odd d s q k l ≡ signed s (odd d false q k l)
unfolding odd neg
odd_signed d false q k l = refl
odd_signed d true zero k l = refl
odd_signed d true (suc q) k l = refl

units_signed : (f : Format) (s : Bool) (q k : ℕ) → units f s q k ≡ signed s (units f false q k)
unfolding units neg
units_signed f s q k = go (ltb (q * 2 ^ k) (2 ^ (low f + suc (emax f)))) s
  where
    go : (b s : Bool)
        → cond b (odd (suc (prec f)) s q k (low f)) (inf s) ≡ signed s (cond b (odd (suc (prec f)) false q k (low f)) (inf false))
    go true s = odd_signed (suc (prec f)) s q k (low f)
    go false true = refl
    go false false = refl

round_signed : (s : Bool) (a c : ℕ) → round binary64 s a c ≡ signed s (round binary64 false a c)
round_signed s a c =
    let q = kept 53 (a * 2 ^ 1074) c in
    let k = drop 53 (a * 2 ^ 1074) c in
    round_is binary64 s a c ∙ units_signed binary64 s q k ∙ ap (signed s) (sym (round_is binary64 false a c))

-- ---- results of `round` for the sign +
-- The result is a finite number with the sign +, or +∞.
abbrev Nonnegative : Float → Type 0
Nonnegative nan = ⊥
Nonnegative (inf s) = s ≡ false
Nonnegative (fin s m e) = s ≡ false

units_nonnegative : (f : Format) (q k : ℕ) → Nonnegative (units f false q k)
unfolding units odd
units_nonnegative f q k = go (ltb (q * 2 ^ k) (2 ^ (low f + suc (emax f)))) q
  where
    go : (b : Bool) (q : ℕ) → Nonnegative (cond b (odd (suc (prec f)) false q k (low f)) (inf false))
    go true zero = refl
    go true (suc q) = refl
    go false q = refl

round_nonnegative : (a c : ℕ) → Nonnegative (round binary64 false a c)
round_nonnegative a c =
    let u = units_nonnegative binary64 (kept 53 (a * 2 ^ 1074) c) (drop 53 (a * 2 ^ 1074) c) in
    subst Nonnegative (sym (round_is binary64 false a c)) u

-- ---- the order of two numbers as an inequality of fractions
-- Let x be a finite number with the sign +, or +∞, and let y have the value p / q. If x ≤ y, then x is finite and at
-- most p / q (`below_value`). If y ≤ x and x is finite, then x is at least p / q (`above_value`).
lt_or_eq : (a b : ℕ) → T (ltb a b || (eqb a b && true)) → a ≤ b
lt_or_eq a b t = go (ltb a b) (ltb→lt a b) t
  where
    go : (u : Bool) → (T u → a < b) → T (u || (eqb a b && true)) → a ≤ b
    go true h t = le_of_lt (h tt)
    go false h t = le_of_eq (eqb→eq a b (and_l (eqb a b) true t))

below_value : (x y : Float) (p q : ℕ) → Nonnegative x → HasValue y false p q → T (le x y) → (finite_of x ≡ true) × (num x * q ≤ p * den x)
unfolding le finite_of
below_value nan y p q P v t = absurd P
below_value (inf true) y p q P v t = absurd (true≢false P)
below_value (inf false) nan p q P v t = absurd v
below_value (inf false) (inf s) p q P v t = absurd v
below_value (inf false) (fin s n d) p q P v t = absurd t
below_value (fin true m e) y p q P v t = absurd (true≢false P)
below_value (fin false m e) nan p q P v t = absurd v
below_value (fin false m e) (inf s) p q P v t = absurd v
below_value (fin false m e) (fin true n d) p q P v t = absurd (true≢false v.0)
below_value (fin false m e) (fin false n d) p q P v t =
    let l = lt_or_eq (m * up e * down d) (n * up d * down e) t in
    (refl, through (m * up e) (n * up d) p (down e) (down d) q (down_pos d) l (le_of_eq v.1))

above_value : (x y : Float) (p q : ℕ) → finite_of x ≡ true → Nonnegative x → HasValue y false p q → T (le y x)
    → (negative x ≡ false) × (p * den x ≤ num x * q)
unfolding le finite_of
above_value nan y p q f P v t = absurd P
above_value (inf s) y p q f P v t = absurd (false≢true f)
above_value (fin true m e) y p q f P v t = absurd (true≢false P)
above_value (fin false m e) nan p q f P v t = absurd v
above_value (fin false m e) (inf s) p q f P v t = absurd v
above_value (fin false m e) (fin true n d) p q f P v t = absurd (true≢false v.0)
above_value (fin false m e) (fin false n d) p q f P v t =
    let l = lt_or_eq (n * up d * down e) (m * up e * down d) t in
    (refl, through p (n * up d) (m * up e) q (down d) (down e) (down_pos d) (le_of_eq (sym v.1)) l)

-- ---- the two laws of rounding
signed_most : (s : Bool) (x : Float) (p q : ℕ) → (finite_of x ≡ true) × (num x * q ≤ p * den x)
    → (finite_of (signed s x) ≡ true) × (num (signed s x) * q ≤ p * den (signed s x))
unfolding neg finite_of
signed_most false x p q h = h
signed_most true nan p q h = absurd (false≢true h.0)
signed_most true (inf s) p q h = absurd (false≢true h.0)
signed_most true (fin s m e) p q h = h

pub round_most : {p q : ℕ} (s : Bool) (a c : ℕ) → 0 < c → Representable p q → a * q ≤ p * c → AtMost (round binary64 s a c) p q
round_most {p} {q} s a c C H h =
    let t : T (le (round binary64 false a c) (round binary64 false p q)) = round_mono binary64 a c p q C H.divisor h in
    let g = below_value (round binary64 false a c) (round binary64 false p q) p q (round_nonnegative a c) H.exact t in
    let m = signed_most s (round binary64 false a c) p q g in
    let k = subst (λ (x : Float). (finite_of x ≡ true) × (num x * q ≤ p * den x)) (sym (round_signed s a c)) m in
    record { divisor = H.divisor; is_f64 = round-fits binary64 s a c; is_finite = k.0; at_most = k.1 }

pub round_least : {p q : ℕ} (a c : ℕ) → 0 < c → Representable p q → finite_of (round binary64 false a c) ≡ true → p * c ≤ a * q
    → AtLeast (round binary64 false a c) p q
round_least {p} {q} a c C H f h =
    let t : T (le (round binary64 false p q) (round binary64 false a c)) = round_mono binary64 p q a c H.divisor C h in
    let g = above_value (round binary64 false a c) (round binary64 false p q) p q f (round_nonnegative a c) H.exact t in
    record { divisor = H.divisor; is_finite = f; not_negative = g.0; at_least = g.1 }

-- Rounding with the other sign gives the negated number (`round_neg`).
pub neg_neg : (x : Float) → neg (neg x) ≡ x
unfolding neg
neg_neg nan = refl
neg_neg (inf true) = refl
neg_neg (inf false) = refl
neg_neg (fin true m e) = refl
neg_neg (fin false m e) = refl

pub round_neg : (s : Bool) (a c : ℕ) → round binary64 (not s) a c ≡ neg (round binary64 s a c)
round_neg false a c = round_signed true a c
round_neg true a c = sym (ap neg (round_signed true a c) ∙ neg_neg (round binary64 false a c))

-- The result of `round` for the sign − has the sign − (`round_negative`).
neg_nonnegative : (x : Float) → Nonnegative x → negative (neg x) ≡ true
unfolding neg
neg_nonnegative nan P = absurd P
neg_nonnegative (inf s) P = ap not P
neg_nonnegative (fin s m e) P = ap not P

pub round_negative : (a c : ℕ) → negative (round binary64 true a c) ≡ true
round_negative a c =
    let n = neg_nonnegative (round binary64 false a c) (round_nonnegative a c) in
    subst (λ (x : Float). negative x ≡ true) (sym (round_signed true a c)) n
