-- `exact_test::mismatch_of` meets its contract. The contracts of its calls are the parts of `Computed`, and `passed` gives the rest.
use Rattle.std.proofs.Common.{ℕ, ◌+◌, ◌-◌, ◌*◌, ◌/◌, ◌%◌, ◌^◌, ◌<◌, ◌≤◌, arith, rules}
use mir.Facts.{Fits-below}
use Rattle.float64.specs.Internals.{units_of_bits}
use Rattle.float64.proofs.ExactTest.{passed, square_27, product_53, square_26}
use Rattle.float64.proofs.exact_test.mismatch_of.Goals as goal
use Rattle.float64.proofs.exact_test.mismatch_of.Goals.{After-wrapping_sub_u64-under}

-- The sum of the parts has at most 40 binary digits.
bounded : (x y z v w : ℕ) → x < 2 ^ 64 → y < 2 ^ 64 → z < 2 ^ 64 → v < 2 ^ 64 → w < 2 ^ 64
    → x / 2 ^ 53 + y / 2 ^ 30 + z / 2 ^ 30 + (v / 2 ^ 63 + w / 2 ^ 63) < 2 ^ 40
bounded x y z v w f g h i j = omega arith

-- The product of the two parts of s, for the digits d.
parts_product : (d : ℕ) → d % 2 ^ 53 / 2 ^ 26 * (d % 2 ^ 53 % 2 ^ 26) ≤ (2 ^ 27 - 1) * (2 ^ 26 - 1)
parts_product d = product_53 (d % 2 ^ 53 / 2 ^ 26) (d % 2 ^ 53 % 2 ^ 26) (omega arith) (omega arith)

lower_square : (d : ℕ) → d % 2 ^ 53 % 2 ^ 26 * (d % 2 ^ 53 % 2 ^ 26) ≤ (2 ^ 26 - 1) * (2 ^ 26 - 1)
lower_square d = square_26 (d % 2 ^ 53 % 2 ^ 26) (omega arith)

pub overflow_mul-h : goal.overflow_mul-h
overflow_mul-h c = Fits-below tt (square_27 (c.wrapping_sub_u64-digits.result % 2 ^ 53 / 2 ^ 26) (omega arith))

pub overflow_mul-h-2 : goal.overflow_mul-h-2
overflow_mul-h-2 c = Fits-below tt (parts_product c.wrapping_sub_u64-digits.result)

pub overflow_mul-h-3 : goal.overflow_mul-h-3
overflow_mul-h-3 c = omega (arith, parts_product c.wrapping_sub_u64-digits.result)

pub overflow_mul-l : goal.overflow_mul-l
overflow_mul-l c = Fits-below tt (lower_square c.wrapping_sub_u64-digits.result)

pub overflow_add-l : goal.overflow_add-l
overflow_add-l c = omega (arith, lower_square c.wrapping_sub_u64-digits.result)

-- The bound of the sum, at the end of the code.
small : (c : After-wrapping_sub_u64-under)
    → let less = c.before in
    less.wrapping_sub_u64-digits.result / 2 ^ 53 + less.wrapping_sub_u64-upper.result / 2 ^ 30
    + less.wrapping_sub_u64-middle.result / 2 ^ 30
    + (less.wrapping_sub_u64-over_less_one.result / 2 ^ 63 + c.wrapping_sub_u64-under.result / 2 ^ 63) < 2 ^ 40
small c =
    bounded _ _ _ _ _ (search (rules, c.wrapping_sub_u64-digits.type_inv)) (search (rules, c.wrapping_sub_u64-upper.type_inv))
    (search (rules, c.wrapping_sub_u64-middle.type_inv)) (search (rules, c.wrapping_sub_u64-over_less_one.type_inv)) (search (
      rules,
      c.wrapping_sub_u64-under.type_inv,
    ))

pub overflow_add-result-4 : goal.overflow_add-result-4
overflow_add-result-4 c = omega (arith, small c)

pub returns : goal.returns
returns c =
    let b = c.args.b in
    let k = c.normal_operand-operand.result.k in record {
      exact = passed c.wrapping_sub_u64-digits.result c.wrapping_sub_u64-upper.result c.wrapping_sub_u64-middle.result
          c.wrapping_add_u64-sum.result c.wrapping_sub_u64-over.result c.wrapping_sub_u64-over_less_one.result
          c.wrapping_sub_u64-under.result (units_of_bits b) c.normal_operand-operand.result.a k c.args.c
          (record {
            digits_are = c.wrapping_sub_u64-digits.ensures.value;
            upper_is = c.wrapping_sub_u64-upper.ensures.value;
            middle_is = c.wrapping_sub_u64-middle.ensures.value;
            sum_is = c.wrapping_add_u64-sum.ensures.value;
            over_is_rest = c.wrapping_sub_u64-over.ensures.value;
            less_is = c.wrapping_sub_u64-over_less_one.ensures.value;
            under_is = c.wrapping_sub_u64-under.ensures.value;
          })
          c.normal_operand-operand.ensures.scaled
          c.normal_operand-operand.ensures.small;
      small = small c;
    }
