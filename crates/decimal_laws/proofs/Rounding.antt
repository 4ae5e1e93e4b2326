-- `round_of` gives every f64 its nearest decimal, or refuses it exactly if it is not finite or its size is 10 ^ 7 or more (`is_rounded`).
-- No count is above 9999999999999998 (`count_limit`), so the decimal of an f64 in range is well formed (`decimal_well_formed`). The proof
-- of the limit goes by the bit pattern: it is below the pattern of 10 ^ 7, or the f64 is not in range.
use mathlib.Core.Path.{◌≡◌, refl, sym, ap, ◌∙◌, subst}
use mathlib.Core.Bool.{Bool, true, false, not, ◌&&◌, ◌||◌, and-true, true≢false, false≢true}
use Prim.Native.Nat.{ℕ, ◌*◌, ◌%◌, ◌^◌, ◌≤◌, ◌<◌}
use native.Mathlib.Nat.{mul-le-mul_right}
use native.Mathlib.Omega.{arith}
use borrow.Author.Tests.{lt-ltb, ltb-true, ltb-false, le-leb, lt-leb}
use lib.Dec.{T, leb, ltb}
use lib.Pow.{pow_pos}
use lib.Ieee.{Float, binary64, fits}
use lib.Ieee.Bits.{of_bits-to_bits}
use lib.Ieee.Nearest.{closest, closest_mono}
use Rattle.float64.specs.Root.{units_of}
use Rattle.float64.specs.Value.{finite_of}
use Rattle.float64.specs.Notation.{bits, bits_of}
use Rattle.float64.specs.Nearness.{negative}
use Rattle.float64.specs.Internals.{units_of_bits}
use Rattle.decimal.specs.Decimals.{is_in_range, count_of, decimal_of, round_of}
use Rattle.decimal.specs.Texts.{is_well_formed}
use Rattle.decimal.specs.declared.Decimal.{Decimal}
use Rattle.std.specs.Prelude.{Some, is_none}
use Rattle.decimal.proofs.Values.{units_of_lem, greatest, units_most, small_value, large_out_of_range, decimal_with}
use Rattle.decimal.proofs.Values.{round_in_range, round_out_of_range}
use Rattle.decimal_laws.specs.Rounding.{count_in, NearestDecimal, IsRounded}
use Rattle.decimal_laws.proofs.Nearest.{nearest_count}
use Rattle.decimal_laws.proofs.WellFormed.{Formed, is_formed}

-- ---- what is refused

refused_round : (x : Float) → is_none (round_of x) ≡ not (is_in_range x)
refused_round x = by (is_in_range x) refl
  where
    by : (b : Bool) → is_in_range x ≡ b → is_none (round_of x) ≡ not b
    by true e = ap is_none (round_in_range x e)
    by false e = ap is_none (round_out_of_range x e)

not_both : (a : Bool) (n m : ℕ) → not (a && ltb n m) ≡ not a || leb m n
not_both false n m = refl
not_both true n m = by (ltb n m) refl
  where
    by : (b : Bool) → ltb n m ≡ b → not b ≡ leb m n
    by true e = sym (lt-leb m n (ltb-true n m e))
    by false e = sym (le-leb m n (ltb-false n m e))

refused_if : (x : Float) → is_none (round_of x) ≡ not (finite_of x) || leb (10 ^ 7 * 2 ^ 1074) (units_of x)
unfolding is_in_range
refused_if x = refused_round x ∙ not_both (finite_of x) (units_of x) (10 ^ 7 * 2 ^ 1074)

-- ---- the count of an f64 in range

count_of_bits : (b : ℕ) → is_in_range (bits b) ≡ true → count_of (bits b) ≤ 9999999999999998
unfolding count_of
count_of_bits b e = by (ltb (b % 2 ^ 63) 0x4163_12D0_0000_0000) refl
  where
    by : (t : Bool) → ltb (b % 2 ^ 63) 0x4163_12D0_0000_0000 ≡ t → closest (units_of (bits b) * 10 ^ 9) (2 ^ 1074) ≤ 9999999999999998
    by true p =
        let h = ltb-true (b % 2 ^ 63) 0x4163_12D0_0000_0000 p in
        let n = units_of_bits (b % 2 ^ 63) in
        let units : units_of (bits b) ≡ n = units_of_lem (bits b) (leb (2 ^ 63) b) n (small_value b h) in
        let most : n * 10 ^ 9 * 2 ^ 1074 ≤ greatest * 10 ^ 9 * 2 ^ 1074 =
        mul-le-mul_right (2 ^ 1074) (mul-le-mul_right (10 ^ 9) (units_most (b % 2 ^ 63) h)) in
        rw units (closest_mono (n * 10 ^ 9) (2 ^ 1074) (greatest * 10 ^ 9) (2 ^ 1074) (pow_pos 1074) (pow_pos 1074) most)
    by false p =
        let out = large_out_of_range b (ltb-false (b % 2 ^ 63) 0x4163_12D0_0000_0000 p) in
        absurd (true≢false (sym e ∙ out))

pub count_limit : (x : Float) → T (fits binary64 x) → is_in_range x ≡ true → count_of x ≤ 9999999999999998
count_limit x f e =
    let back : bits (bits_of x) ≡ x = of_bits-to_bits binary64 x f in
    subst (λ (y : Float). count_of y ≤ 9999999999999998) back (count_of_bits (bits_of x) (ap is_in_range back ∙ e))

-- ---- the decimal of an f64 in range

second : (a b : Bool) → a && b ≡ true → b ≡ true
second true b e = e
second false b e = absurd (false≢true e)

with_formed : (s : Bool) (c : ℕ) → c ≤ 9999999999999998 → Formed (decimal_with s c)
with_formed s c h =
    record {
      whole_below = omega arith;
      billionths_below = omega arith;
      no_minus_zero = λ e. let l : 0 < c = ltb-true 0 c (second s (ltb 0 c) e) in omega arith;
    }

count_with : (s : Bool) (c : ℕ) → count_in (decimal_with s c) ≡ c
count_with s c = omega arith

sign_with : (s : Bool) (c : ℕ) → 0 < c → (decimal_with s c).negative ≡ s
sign_with s c h = ap (λ (b : Bool). s && b) (lt-ltb 0 c h) ∙ and-true s

-- The decimal of every f64 in range is well formed.
pub decimal_well_formed : (x : Float) → T (fits binary64 x) → is_in_range x ≡ true → is_well_formed (decimal_of x) ≡ true
unfolding decimal_of
decimal_well_formed x f e = is_formed (decimal_of x) (with_formed (negative x) (count_of x) (count_limit x f e))

nearest_decimal : (x : Float) → T (fits binary64 x) → is_in_range x ≡ true → NearestDecimal x (decimal_of x)
unfolding decimal_of count_of
nearest_decimal x f e =
    let count : count_in (decimal_of x) ≡ count_of x = count_with (negative x) (count_of x) in
    record {
      well_formed = decimal_well_formed x f e;
      count_nearest = rw count (nearest_count (units_of x * 10 ^ 9) (2 ^ 1074) (pow_pos 1074));
      sign_kept = λ l. sign_with (negative x) (count_of x) (subst (λ (y : ℕ). 0 < y) count l);
      count_limit = rw count (count_limit x f e);
    }

pub is_rounded : (x : Float) → T (fits binary64 x) → IsRounded x (round_of x)
is_rounded x f = record { refused_if = refused_if x; number_is = λ d e. by d e (is_in_range x) refl }
  where
    by : (d : Decimal) → round_of x ≡ Some d → (b : Bool) → is_in_range x ≡ b → NearestDecimal x d
    by d e true p =
        let g = round_in_range x p in
        let same : decimal_of x ≡ d = cc in
        subst (NearestDecimal x) same (nearest_decimal x f p)
    by d e false p =
        let g = round_out_of_range x p in
        let z : ◌≡◌ {A = ℕ} 0 1 = cc in
        absurd (omega arith)
