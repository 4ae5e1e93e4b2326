-- `estimate::upper_digits` is defined for every f64: what is at most `high` is not a NaN, and it does not become one when its last digits
-- are set to zero.
use Rattle.std.proofs.Common.{◌≡◌, ℕ, ◌+◌, ◌-◌, ◌*◌, ◌/◌, ◌%◌, ◌^◌, ◌<◌, ◌≤◌, not, T, sym, ap, ◌∙◌, subst, le_trans, arith, rules}
use native.Mathlib.Nat.{add-mul-mod_self_right, mod-le}
use mir.Facts.{Fits-below}
use lib.Ieee.{Float, binary64, fits, is_nan, nan_bits, to_bits}
use lib.Ieee.Bits.{to_bits-lt}
use Rattle.float64.proofs.Bits.{not_above, at_most_infinity, written_number}
use Rattle.float64.proofs.Range.{not_nan}
use Rattle.float64.proofs.estimate.upper_digits.Goals as goal
use Rattle.float64.proofs.estimate.upper_digits.Goals.{After-at_most_high_end-b}

-- Setting the last 27 digits to zero does not raise a pattern. A pattern is q * 2 ^ 63 + r, where q is the sign.
rounded_down : (b : ℕ) → T (not (nan_bits binary64 b)) → T (not (nan_bits binary64 (b / 2 ^ 27 * 2 ^ 27)))
rounded_down b n = not_above (b / 2 ^ 27 * 2 ^ 27) (less b (at_most_infinity b n))
  where
    whole : (d q m r : ℕ) → d * 2 ^ 27 + m ≡ q * 2 ^ 63 + r → m < 2 ^ 27 → q * 2 ^ 36 ≤ d
    whole d q m r e h = omega arith

    split : (d q : ℕ) → q * 2 ^ 36 ≤ d → d * 2 ^ 27 ≡ (d - q * 2 ^ 36) * 2 ^ 27 + q * 2 ^ 63
    split d q h = omega arith

    less : (x : ℕ) → x % 2 ^ 63 ≤ 0x7FF0_0000_0000_0000 → x / 2 ^ 27 * 2 ^ 27 % 2 ^ 63 ≤ 0x7FF0_0000_0000_0000
    less x h =
        let d = x / 2 ^ 27 in
        let q = x / 2 ^ 63 in
        let e = split d q (whole d q (x % 2 ^ 27) (x % 2 ^ 63) (omega arith) (omega arith)) in
        let same = ap (λ (y : ℕ). y % 2 ^ 63) e ∙ add-mul-mod_self_right ((d - q * 2 ^ 36) * 2 ^ 27) q (2 ^ 63) in
        subst (λ (y : ℕ). y ≤ 0x7FF0_0000_0000_0000) (sym same) (le_trans (mod-le ((d - q * 2 ^ 36) * 2 ^ 27) (2 ^ 63)) (omega (arith, e)))

number : (c : After-at_most_high_end-b) → T (not (is_nan c.at_most_high_end-b.result))
number c = subst (λ (x : Float). T (not (is_nan x))) (sym c.at_most_high_end-b.ensures) (not_nan c.args.x)

held : (c : After-at_most_high_end-b) → T (fits binary64 c.at_most_high_end-b.result)
held c = search (rules, c.at_most_high_end-b.type_inv)

pub float_to_bits-b : goal.float_to_bits-b
float_to_bits-b c = number c

pub overflow_mul-result : goal.overflow_mul-result
overflow_mul-result c = Fits-below tt (below (to_bits binary64 c.at_most_high_end-b.result) (to_bits-lt binary64 _ (held c)))
  where
    below : (x : ℕ) → x < 2 ^ 64 → x / 2 ^ 27 * 2 ^ 27 ≤ 0xFFFF_FFFF_FFFF_FFFF
    below x h = omega arith

pub float_from_bits-result : goal.float_from_bits-result
float_from_bits-result c = rounded_down (to_bits binary64 c.at_most_high_end-b.result) (written_number _ (held c) (number c))
