-- The cases of `square_root`: a zero (`of_zero`), a positive finite number (`of_positive`), and all others, which are refused
-- (`of_refused`). The bits of a positive finite number are above those of +0 and below those of +infinity (`positive_bits`).
use Rattle.std.proofs.Common.{◌≡◌, ℕ, zero, suc, ◌+◌, ◌*◌, ◌/◌, ◌%◌, ◌^◌, ◌<◌, ◌≤◌, Bool, true, false, cond, not, ◌&&◌, T, eqb, ltb, leb}
use Rattle.std.proofs.Common.{Some, None}
use Rattle.std.proofs.Common.{◌⊎◌, sym, refl, ap, ◌∙◌, subst, inl, inr, true≢false, lt_of_not-le, arith, le→leb, ltb→lt, nltb→le}
use mathlib.Core.Bool.{false≢true}
use lib.Ieee.{Float, nan, inf, fin, binary64, fits, is_nan, eq, lt, of_fields, of_bits, to_bits}
use lib.Ieee.Bits.{is_true, of_bits-to_bits, to_bits-lt}
use Rattle.float64.specs.Notation.{◌≺◌, ◌≈◌, 0F}
use Rattle.float64.specs.Value.{finite_of}
use Rattle.float64.specs.Root.{root_of, root_of_units}
use Rattle.float64.specs.Internals.{units_at, units_of_bits, Positive}
use Rattle.float64.proofs.Comparisons.{zero_is_zero, zero_not_above, some_not_zero, some_above}
use Rattle.float64.proofs.Patterns.{root_of_positive, root_of_negative, of_bits_is, clear, fields_units}
use Rattle.float64.proofs.Patterns.{units_pos, has_units, units_of_bits_pos}

-- ---- a zero
pub of_zero : (x : Float) → (x ≈ 0F) ≡ true → Some x ≡ root_of x
unfolding root_of eq of_bits
of_zero nan e = absurd (false≢true e)
of_zero (inf s) e = absurd (false≢true e)
of_zero (fin s zero d) e = refl
of_zero (fin s (suc m) d) e = absurd (false≢true (sym (some_not_zero s m d) ∙ e))

-- ---- refused values
pub of_refused : (x : Float) → (x ≈ 0F) ≡ false → (0F ≺ x) && finite_of x ≡ false → None ≡ root_of x
unfolding root_of finite_of
of_refused nan e l = refl
of_refused (inf s) e l = refl
of_refused (fin s zero d) e l = absurd (true≢false (sym (zero_is_zero s d) ∙ e))
of_refused (fin true (suc m) d) e l = refl
of_refused (fin false (suc m) d) e l = absurd (true≢false (sym (ap (λ (b : Bool). b && true) (some_above false m d)) ∙ l))

-- ---- a positive finite number
pub no_nan : (x : Float) → Positive x → T (not (is_nan x))
unfolding is_nan finite_of lt of_bits
no_nan nan l = absurd (false≢true l)
no_nan (inf s) l = tt
no_nan (fin s m e) l = tt

not_refused : (x : Float) → Positive x → root_of x ≡ None → ⊥
unfolding root_of finite_of lt of_bits
not_refused nan l e = false≢true l
not_refused (inf true) l e = false≢true l
not_refused (inf false) l e = false≢true l
not_refused (fin s zero d) l e = false≢true (sym (ap (λ (b : Bool). b && true) (zero_not_above s d)) ∙ l)
not_refused (fin true (suc m) d) l e = false≢true l
not_refused (fin false (suc m) d) l e = let z : ◌≡◌ {A = ℕ} 0 1 = cc in omega arith

not_zeros : (b : ℕ) → (b ≡ 0) ⊎ (b ≡ 2 ^ 63) → Positive (of_bits binary64 b) → ⊥
unfolding finite_of lt of_bits
not_zeros b (inl e) l = false≢true (subst (λ (y : ℕ). Positive (of_bits binary64 y)) e l)
not_zeros b (inr e) l = false≢true (subst (λ (y : ℕ). Positive (of_bits binary64 y)) e l)

-- The bits of a positive number. From the pattern of +infinity up, the root of every f64 except -0 is refused.
at_ones : (s : Bool) (t : ℕ) → root_of (of_fields binary64 s 2047 t) ≡ None
unfolding root_of of_fields
at_ones s t = by (eqb t 0)
  where
    by : (b : Bool) → root_of (cond b (inf s) nan) ≡ None
    by true = refl
    by false = refl

negative_fields : (x t : ℕ) → x < 2048 → 0 < x * 2 ^ 52 + t → root_of (of_fields binary64 true x t) ≡ None
negative_fields x t h p = by (ltb x 2047) (ltb→lt x 2047) (nltb→le x 2047)
  where
    only : (y : ℕ) → y < 2048 → 2047 ≤ y → 2047 ≡ y
    only y a b = omega arith

    by : (b : Bool) → (T b → x < 2047) → (T (not b) → 2047 ≤ x) → root_of (of_fields binary64 true x t) ≡ None
    by true l g = root_of_negative (of_fields binary64 true x t) (units_at x t) (units_pos x t p) (fields_units true x t (l tt))
    by false l g = subst (λ (y : ℕ). root_of (of_fields binary64 true y t) ≡ None) (only x h (g tt)) (at_ones true t)

refused_bits_lem : (b : ℕ) → 0x7FF0_0000_0000_0000 ≤ b → (b ≡ 2 ^ 63 → ⊥) → b < 2 ^ 64 → root_of (of_bits binary64 b) ≡ None
refused_bits_lem b lo ne hi = by (ltb b (2 ^ 63)) (ltb→lt b (2 ^ 63)) (nltb→le b (2 ^ 63))
  where
    field : (y : ℕ) → 0x7FF0_0000_0000_0000 ≤ y → y < 2 ^ 63 → y / 2 ^ 52 ≡ 2047
    field y a c = omega arith

    field_lt : (y : ℕ) → y % 2 ^ 63 / 2 ^ 52 < 2048
    field_lt y = omega arith

    some : (y : ℕ) → 2 ^ 63 ≤ y → (y ≡ 2 ^ 63 → ⊥) → y < 2 ^ 64 → 0 < y % 2 ^ 63 / 2 ^ 52 * 2 ^ 52 + y % 2 ^ 52
    some y a f c = omega arith

    by : (t : Bool) → (T t → b < 2 ^ 63) → (T (not t) → 2 ^ 63 ≤ b) → root_of (of_bits binary64 b) ≡ None
    by true l g =
        ap root_of (clear b (l tt)) ∙ ap (λ (x : ℕ). root_of (of_fields binary64 false x (b % 2 ^ 52))) (field b lo (l tt))
        ∙ at_ones false (b % 2 ^ 52)
    by false l g =
        ap root_of (of_bits_is b)
        ∙ ap (λ (s : Bool). root_of (of_fields binary64 s (b % 2 ^ 63 / 2 ^ 52) (b % 2 ^ 52)))
        (is_true (leb (2 ^ 63) b) (le→leb (2 ^ 63) b (g tt)))
        ∙ negative_fields (b % 2 ^ 63 / 2 ^ 52) (b % 2 ^ 52) (field_lt b) (some b (g tt) ne hi)

pub positive_bits : (x : Float) → Positive x → T (fits binary64 x) → (0 < to_bits binary64 x) × (to_bits binary64 x < 0x7FF0_0000_0000_0000)
positive_bits x l h =
    let b = to_bits binary64 x in
    let back = of_bits-to_bits binary64 x h in
    let l' = subst Positive (sym back) l in (
      lt_of_not-le (λ (z : b ≤ 0). not_zeros b (inl (none b z)) l'),
      lt_of_not-le (λ (g : 0x7FF0_0000_0000_0000 ≤ b). not_refused (of_bits binary64 b) l'
          (refused_bits_lem b g (λ (e : b ≡ 2 ^ 63). not_zeros b (inr e) l') (to_bits-lt binary64 x h))),
    )
  where
    none : (y : ℕ) → y ≤ 0 → y ≡ 0
    none y k = omega arith

pub of_positive : (x r : Float) → T (fits binary64 x) → 0 < to_bits binary64 x → to_bits binary64 x < 0x7FF0_0000_0000_0000
    → r ≡ root_of_units (units_of_bits (to_bits binary64 x)) → Some r ≡ root_of x
of_positive x r h p l e =
    let b = to_bits binary64 x in
    ap Some e ∙ sym (root_of_positive (of_bits binary64 b) (units_of_bits b) (units_of_bits_pos b p) (has_units b l))
    ∙ ap root_of (of_bits-to_bits binary64 x h)

-- A number whose bits are those of the root of a positive finite x.
pub root_by_bits : (x r : Float) → Positive x → T (fits binary64 x) → T (fits binary64 r)
    → of_bits binary64 (to_bits binary64 r) ≡ root_of_units (units_of_bits (to_bits binary64 x)) → Some r ≡ root_of x
root_by_bits x r p h g e =
    let b = positive_bits x p h in
    of_positive x r h b.0 b.1 (sym (of_bits-to_bits binary64 r g) ∙ e)
