-- From an f64 to its bit pattern. `round_of` depends only on the sign and the number of units of 2 ^ -1074 (`round_in_range`,
-- `round_out_of_range`). The pattern b without its sign bit is below the pattern of 10 ^ 7 exactly if the size is below 10 ^ 7
-- (`units_below`, `units_above`). `number_returned` and `refusal_returned` are the two results of `round`.
use mathlib.Core.Path.{◌≡◌, refl, sym, ap, ◌∙◌, subst}
use Prim.Native.Nat.{ℕ, zero, suc, ◌+◌, ◌-◌, ◌*◌, ◌/◌, ◌%◌, ◌^◌, ◌≤◌, ◌<◌}
use native.Mathlib.Nat.{mul-div_cancel, mul-one, le_trans, le_of_eq, le_of_lt, lt_of_le_of_lt, mul-le-mul}
use native.Mathlib.Omega.{arith}
use mathlib.Core.Bool.{Bool, true, false, cond, ◌&&◌}
use borrow.Author.Tests.{lt-ltb, le-ltb, ltb-true, ltb-false}
use lib.Dec.{T, leb, ltb, eqb, lit≤, lit<}
use lib.Pow.{pow_mono}
use lib.Ieee.{Float, nan, inf, fin, binary64, down, fits, of_fields}
use lib.Ieee.Bits.{of_bits-to_bits}
use lib.Ieee.Fits.{down_pos}
use lib.Ieee.Exact.{HasValue}
use lib.Ieee.Nearest.{closest}
use Rattle.float64.specs.Root.{units_of}
use Rattle.float64.specs.Value.{finite_of}
use Rattle.float64.specs.Nearness.{negative}
use Rattle.float64.specs.Notation.{bits, bits_of}
use Rattle.float64.specs.Internals.{units_at, units_of_bits}
use Rattle.float64.proofs.Patterns.{of_bits_is, fields_units}
use Rattle.decimal.specs.Decimals.{is_in_range, count_of, decimal_of, round_of}
use Rattle.decimal.specs.declared.Decimal.{Decimal}
use Rattle.std.specs.Prelude.{Some, None}

-- ---- an f64 with a value: its sign s and its number n of units

pub units_of_lem : (x : Float) (s : Bool) (n : ℕ) → HasValue x s n (2 ^ 1074) → units_of x ≡ n
unfolding units_of
units_of_lem nan s n h = absurd h
units_of_lem (inf t) s n h = absurd h
units_of_lem (fin t m e) s n h = ap (λ (y : ℕ). y / down e) h.1 ∙ mul-div_cancel n (down_pos e)

sign_of : (x : Float) (s : Bool) (n : ℕ) → HasValue x s n (2 ^ 1074) → negative x ≡ s
sign_of nan s n h = absurd h
sign_of (inf t) s n h = absurd h
sign_of (fin t m e) s n h = h.0

finite_of_lem : (x : Float) (s : Bool) (n : ℕ) → HasValue x s n (2 ^ 1074) → finite_of x ≡ true
unfolding finite_of
finite_of_lem nan s n h = absurd h
finite_of_lem (inf t) s n h = absurd h
finite_of_lem (fin t m e) s n h = refl

range_of : (x : Float) (s : Bool) (n : ℕ) → HasValue x s n (2 ^ 1074) → is_in_range x ≡ ltb n (10 ^ 7 * 2 ^ 1074)
unfolding is_in_range
range_of x s n h =
    ap (λ (b : Bool). b && ltb (units_of x) (10 ^ 7 * 2 ^ 1074)) (finite_of_lem x s n h)
    ∙ ap (λ (y : ℕ). ltb y (10 ^ 7 * 2 ^ 1074)) (units_of_lem x s n h)

-- The decimal with the sign s and a size of c billionths.
abbrev pub decimal_with : Bool → ℕ → Decimal
decimal_with s c = record { negative = s && ltb 0 c; whole = c / 10 ^ 9; billionths = c % 10 ^ 9 }

count_of_lem : (x : Float) (s : Bool) (n : ℕ) → HasValue x s n (2 ^ 1074) → count_of x ≡ closest (n * 10 ^ 9) (2 ^ 1074)
unfolding count_of
count_of_lem x s n h = ap (λ (y : ℕ). closest (y * 10 ^ 9) (2 ^ 1074)) (units_of_lem x s n h)

decimal_of_lem : (x : Float) (s : Bool) (n : ℕ) → HasValue x s n (2 ^ 1074) →
    decimal_of x ≡ decimal_with s (closest (n * 10 ^ 9) (2 ^ 1074))
unfolding decimal_of
decimal_of_lem x s n h = ap (λ (t : Bool). decimal_with t (count_of x)) (sign_of x s n h) ∙ ap (decimal_with s) (count_of_lem x s n h)

pub round_in_range : (x : Float) → is_in_range x ≡ true → round_of x ≡ Some (decimal_of x)
unfolding round_of
round_in_range x e = rw e

pub round_out_of_range : (x : Float) → is_in_range x ≡ false → round_of x ≡ None
unfolding round_of
round_out_of_range x e = rw e

-- ---- the pattern of 10 ^ 7

limit : 10 ^ 7 * 2 ^ 1074 ≡ 10 ^ 7 * 2 ^ 29 * 2 ^ 1045
limit = refl

top_digit : (t : ℕ) → t < 2 ^ 52 → 2 ^ 52 + t < 2 ^ 53
top_digit t h = omega arith

at_limit : (x t : ℕ) → suc x * 2 ^ 52 + t < 0x4163_12D0_0000_0000 → 1045 ≤ x → (x ≤ 1045) × (2 ^ 52 + t ≤ 10 ^ 7 * 2 ^ 29 - 1)
at_limit x t h l = (omega arith, omega arith)

past_limit : (x t : ℕ) → t < 2 ^ 52 → 0x4163_12D0_0000_0000 ≤ suc x * 2 ^ 52 + t → x ≤ 1045
    → (1045 ≤ x) × (10 ^ 7 * 2 ^ 29 ≤ 2 ^ 52 + t)
past_limit x t d h l = (omega arith, omega arith)

within : (x : ℕ) → x < 1045 → x ≤ 1044
within x h = omega arith

beyond : (x : ℕ) → 1045 < x → 1046 ≤ x
beyond x h = omega arith

at_least : (t : ℕ) → 2 ^ 52 ≤ 2 ^ 52 + t
at_least t = omega arith

-- The number of units of the greatest f64 below 10 ^ 7.
abbrev pub greatest : ℕ
greatest = (10 ^ 7 * 2 ^ 29 - 1) * 2 ^ 1045

below_at : (x t : ℕ) → t < 2 ^ 52 → x * 2 ^ 52 + t < 0x4163_12D0_0000_0000 → units_at x t ≤ greatest
below_at zero t d h = rw mul-one (le_trans (le_of_lt d) (lit≤ tt))
below_at (suc x) t d h = by (ltb x 1045) refl
  where
    by : (b : Bool) → ltb x 1045 ≡ b → (2 ^ 52 + t) * 2 ^ x ≤ greatest
    by true e =
        let bound : (2 ^ 52 + t) * 2 ^ x ≤ 2 ^ 53 * 2 ^ 1044 =
        mul-le-mul (le_of_lt (top_digit t d)) (pow_mono (within x (ltb-true x 1045 e))) in
        le_trans bound (lit≤ {m = 2 ^ 53 * 2 ^ 1044} {n = greatest} tt)
    by false e = let l = at_limit x t h (ltb-false x 1045 e) in mul-le-mul l.1 (pow_mono l.0)

above_at : (x t : ℕ) → t < 2 ^ 52 → 0x4163_12D0_0000_0000 ≤ x * 2 ^ 52 + t → 10 ^ 7 * 2 ^ 1074 ≤ units_at x t
above_at zero t d h = absurd (no t d h)
  where
    no : (y : ℕ) → y < 2 ^ 52 → 0x4163_12D0_0000_0000 ≤ 0 * 2 ^ 52 + y → ⊥
    no y a b = omega arith
above_at (suc x) t d h = by (ltb 1045 x) refl
  where
    by : (b : Bool) → ltb 1045 x ≡ b → 10 ^ 7 * 2 ^ 1074 ≤ (2 ^ 52 + t) * 2 ^ x
    by true e =
        let bound : 2 ^ 52 * 2 ^ 1046 ≤ (2 ^ 52 + t) * 2 ^ x = mul-le-mul (at_least t) (pow_mono (beyond x (ltb-true 1045 x e))) in
        le_trans (lit≤ {m = 10 ^ 7 * 2 ^ 1074} {n = 2 ^ 52 * 2 ^ 1046} tt) bound
    by false e =
        let l = past_limit x t d h (ltb-false 1045 x e) in
        le_trans (le_of_eq limit) (mul-le-mul l.1 (pow_mono l.0))

-- ---- the fields of a pattern

digits_of : (b : ℕ) → b % 2 ^ 52 ≡ b % 2 ^ 63 % 2 ^ 52
digits_of b = omega arith

field_below : (n : ℕ) → n < 0x4163_12D0_0000_0000 → n / 2 ^ 52 < 2047
field_below n h = omega arith

whole : (n : ℕ) → n / 2 ^ 52 * 2 ^ 52 + n % 2 ^ 52 ≡ n
whole n = omega arith

digits_below : (n : ℕ) → n % 2 ^ 52 < 2 ^ 52
digits_below n = omega arith

pub units_most : (n : ℕ) → n < 0x4163_12D0_0000_0000 → units_of_bits n ≤ greatest
unfolding units_of_bits
units_most n h = below_at (n / 2 ^ 52) (n % 2 ^ 52) (digits_below n) (rw whole h)

units_below : (n : ℕ) → n < 0x4163_12D0_0000_0000 → units_of_bits n < 10 ^ 7 * 2 ^ 1074
units_below n h = lt_of_le_of_lt (units_most n h) (lit< tt)

units_above : (n : ℕ) → 0x4163_12D0_0000_0000 ≤ n → 10 ^ 7 * 2 ^ 1074 ≤ units_of_bits n
unfolding units_of_bits
units_above n h = above_at (n / 2 ^ 52) (n % 2 ^ 52) (digits_below n) (rw whole h)

-- The value of a finite f64, from its pattern: b % 2 ^ 63 is the pattern without the sign bit.
bits_value : (b : ℕ) → b % 2 ^ 63 / 2 ^ 52 < 2047 → HasValue (bits b) (leb (2 ^ 63) b) (units_of_bits (b % 2 ^ 63)) (2 ^ 1074)
unfolding units_of_bits
bits_value b h =
    let s = leb (2 ^ 63) b in
    let field = b % 2 ^ 63 / 2 ^ 52 in
    let digits = b % 2 ^ 63 % 2 ^ 52 in
    let same : of_fields binary64 s field digits ≡ bits b = ap (of_fields binary64 s field) (sym (digits_of b)) ∙ sym (of_bits_is b) in
    subst (λ (x : Float). HasValue x s (units_at field digits) (2 ^ 1074)) same (fields_units s field digits h)

pub small_value : (b : ℕ) → b % 2 ^ 63 < 0x4163_12D0_0000_0000 → HasValue (bits b) (leb (2 ^ 63) b) (units_of_bits (b % 2 ^ 63)) (2 ^ 1074)
small_value b h = bits_value b (field_below (b % 2 ^ 63) h)

-- ---- the two results of `round`

pub small_in_range : (b : ℕ) → b % 2 ^ 63 < 0x4163_12D0_0000_0000 → is_in_range (bits b) ≡ true
small_in_range b h =
    let n = units_of_bits (b % 2 ^ 63) in
    range_of (bits b) (leb (2 ^ 63) b) n (small_value b h) ∙ lt-ltb n (10 ^ 7 * 2 ^ 1074) (units_below (b % 2 ^ 63) h)

-- The exponent field of an infinity or a NaN is 2047.
not_finite : (s : Bool) (t : ℕ) → is_in_range (of_fields binary64 s 2047 t) ≡ false
unfolding is_in_range of_fields finite_of
not_finite s t = by (eqb t 0)
  where
    by : (b : Bool) → is_in_range (cond b (inf s) nan) ≡ false
    by true = refl
    by false = refl

pub large_out_of_range : (b : ℕ) → 0x4163_12D0_0000_0000 ≤ b % 2 ^ 63 → is_in_range (bits b) ≡ false
large_out_of_range b h = by (ltb (b % 2 ^ 63 / 2 ^ 52) 2047) refl
  where
    s : Bool
    s = leb (2 ^ 63) b

    n : ℕ
    n = units_of_bits (b % 2 ^ 63)

    only : (y : ℕ) → 2047 ≤ y % 2 ^ 63 / 2 ^ 52 → y % 2 ^ 63 / 2 ^ 52 ≡ 2047
    only y g = omega arith

    by : (t : Bool) → ltb (b % 2 ^ 63 / 2 ^ 52) 2047 ≡ t → is_in_range (bits b) ≡ false
    by true e =
        let value = bits_value b (ltb-true (b % 2 ^ 63 / 2 ^ 52) 2047 e) in
        range_of (bits b) s n value ∙ le-ltb n (10 ^ 7 * 2 ^ 1074) (units_above (b % 2 ^ 63) h)
    by false e =
        let ones = only b (ltb-false (b % 2 ^ 63 / 2 ^ 52) 2047 e) in
        let same : bits b ≡ of_fields binary64 s 2047 (b % 2 ^ 52) =
        of_bits_is b ∙ ap (λ (f : ℕ). of_fields binary64 s f (b % 2 ^ 52)) ones in
        ap is_in_range same ∙ not_finite s (b % 2 ^ 52)

pub small_decimal : (b : ℕ) → b % 2 ^ 63 < 0x4163_12D0_0000_0000
    → decimal_of (bits b) ≡ decimal_with (leb (2 ^ 63) b) (closest (units_of_bits (b % 2 ^ 63) * 10 ^ 9) (2 ^ 1074))
small_decimal b h = decimal_of_lem (bits b) (leb (2 ^ 63) b) (units_of_bits (b % 2 ^ 63)) (small_value b h)

pub number_returned : (x : Float) → T (fits binary64 x) → (b count : ℕ) → b ≡ bits_of x → b % 2 ^ 63 < 0x4163_12D0_0000_0000
    → count ≡ closest (units_of_bits (b % 2 ^ 63) * 10 ^ 9) (2 ^ 1074) → Some (decimal_with (leb (2 ^ 63) b) count) ≡ round_of x
number_returned x f b count e h k =
    let back : bits b ≡ x = ap bits e ∙ of_bits-to_bits binary64 x f in
    ap (λ (n : ℕ). Some (decimal_with (leb (2 ^ 63) b) n)) k
    ∙ ap Some (sym (small_decimal b h))
    ∙ sym (round_in_range (bits b) (small_in_range b h))
    ∙ ap round_of back

pub refusal_returned : (x : Float) → T (fits binary64 x) → (b : ℕ) → b ≡ bits_of x → 0x4163_12D0_0000_0000 ≤ b % 2 ^ 63
    → None ≡ round_of x
refusal_returned x f b e h =
    let back : bits b ≡ x = ap bits e ∙ of_bits-to_bits binary64 x f in
    sym (round_out_of_range (bits b) (large_out_of_range b h)) ∙ ap round_of back
