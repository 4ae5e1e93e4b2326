-- The test `is_well_formed` as three facts: a whole part below 10 ^ 7, billionths below 10 ^ 9, and no minus sign on a zero (`formed`,
-- `is_formed`).
use mathlib.Core.Path.{◌≡◌, refl}
use mathlib.Core.Bool.{Bool, true, false, not, ◌&&◌, ◌||◌, false≢true}
use Prim.Native.Nat.{ℕ, ◌+◌, ◌^◌, ◌<◌}
use native.Mathlib.Omega.{arith}
use borrow.Author.Tests.{lt-ltb, ltb-true, ltb-false}
use lib.Dec.{ltb}
use Rattle.decimal.specs.Texts.{is_well_formed}
use Rattle.decimal.specs.declared.Decimal.{Decimal}

pub record Formed (d : Decimal) : Type 0 where
  pub whole_below : d.whole < 10 ^ 7
  pub billionths_below : d.billionths < 10 ^ 9
  pub no_minus_zero : d.negative ≡ true → 0 < d.whole + d.billionths

three : (a b c : Bool) → a && b && c ≡ true → (a ≡ true) × (b ≡ true) × (c ≡ true)
three true true c e = (refl, refl, e)
three true false c e = absurd (false≢true e)
three false b c e = absurd (false≢true e)

not_zero : (n : Bool) (w b : ℕ) → not n || ltb 0 w || ltb 0 b ≡ true → n ≡ true → 0 < w + b
not_zero false w b e t = absurd (false≢true t)
not_zero true w b e t = by (ltb 0 w) (ltb 0 b) (ltb-true 0 w) (ltb-true 0 b) e
  where
    by : (x y : Bool) → (x ≡ true → 0 < w) → (y ≡ true → 0 < b) → x || y ≡ true → 0 < w + b
    by true y f g h = let l = f refl in omega arith
    by false true f g h = let l = g refl in omega arith
    by false false f g h = absurd (false≢true h)

test_true : (n : Bool) (w b : ℕ) → (n ≡ true → 0 < w + b) → not n || ltb 0 w || ltb 0 b ≡ true
test_true false w b h = refl
test_true true w b h = by (ltb 0 w) refl
  where
    by : (x : Bool) → ltb 0 w ≡ x → x || ltb 0 b ≡ true
    by true e = refl
    by false e =
        let l = h refl in
        let z = ltb-false 0 w e in
        lt-ltb 0 b (omega arith)

pub formed : (d : Decimal) → is_well_formed d ≡ true → Formed d
unfolding is_well_formed
formed d e =
    let sign = not d.negative || ltb 0 d.whole || ltb 0 d.billionths in
    let t = three (ltb d.whole (10 ^ 7)) (ltb d.billionths (10 ^ 9)) sign e in
    record {
      whole_below = ltb-true d.whole (10 ^ 7) t.0;
      billionths_below = ltb-true d.billionths (10 ^ 9) t.1;
      no_minus_zero = not_zero d.negative d.whole d.billionths t.2;
    }

pub is_formed : (d : Decimal) → Formed d → is_well_formed d ≡ true
unfolding is_well_formed
is_formed d f =
    let sign = test_true d.negative d.whole d.billionths f.no_minus_zero in
    rw (lt-ltb d.whole (10 ^ 7) f.whole_below, lt-ltb d.billionths (10 ^ 9) f.billionths_below) sign
