-- The text of a decimal byte by byte: its length (`length_text`, `length_range`), and its bytes by their offsets (`at_whole`,
-- `at_point`, `at_billionths`). The results of `text_length` (`length_is`) and of `text_byte` (`byte_sign` to `byte_past`).
use mathlib.Core.Path.{◌≡◌, refl, sym, ap, ◌∙◌, subst}
use mathlib.Core.Bool.{Bool, true, false}
use mathlib.Core.List.{List, ◌∷◌, ◌++◌}
use Prim.Native.Nat.{ℕ, suc, ◌+◌, ◌-◌, ◌≤◌, ◌<◌}
use native.Mathlib.Nat.{add-zero}
use native.Mathlib.Omega.{arith}
use lib.ListN.{length, get_or, length-append, get_or-append, get_or-eq_default}
use lib.Seq.{get_or-append-add}
use Rattle.std.specs.Int.{from_bool}
use Rattle.decimal.specs.Texts.{padded, digit_count, sign_text, sign_length, whole_text, text_of}
use Rattle.decimal.specs.declared.Decimal.{Decimal}
use Rattle.decimal.proofs.Digits.{digit, length_padded, padded_at, digit_count_range}

-- ---- the offset of each part

-- The lengths of the sign and of the whole part.
abbrev pub sign_size : Decimal → ℕ
sign_size d = sign_length d.negative

abbrev pub whole_size : Decimal → ℕ
whole_size d = digit_count d.whole

-- The point and the nine digits after it.
abbrev fraction : Decimal → List ℕ
fraction d = 46 ∷ padded 9 d.billionths

-- The text without its sign.
abbrev pub unsigned : Decimal → List ℕ
unsigned d = whole_text d.whole ++ fraction d

length_sign : (b : Bool) → length (sign_text b) ≡ sign_length b
length_sign true = refl
length_sign false = refl

module _ (d : Decimal) where
  length_whole : length (whole_text d.whole) ≡ whole_size d
  length_whole = length_padded (whole_size d) d.whole

  pub length_text : length (text_of d) ≡ sign_size d + whole_size d + 10
  unfolding text_of
  length_text =
      length-append (sign_text d.negative) (unsigned d)
      ∙ ap (λ (x : ℕ). x + length (unsigned d)) (length_sign d.negative)
      ∙ ap (λ (x : ℕ). sign_size d + x) (length-append (whole_text d.whole) (fraction d))
      ∙ ap (λ (x : ℕ). sign_size d + (x + length (fraction d))) length_whole
      ∙ ap (λ (x : ℕ). sign_size d + (whole_size d + suc x)) (length_padded 9 d.billionths)
      ∙ sum (sign_size d) (whole_size d)
    where
      sum : (x y : ℕ) → x + (y + 10) ≡ x + y + 10
      sum x y = omega arith

  past_sign : (i : ℕ) → get_or (text_of d) (sign_size d + i) 0 ≡ get_or (unsigned d) i 0
  unfolding text_of
  past_sign i = rw (← length_sign d.negative) (get_or-append-add (sign_text d.negative) (unsigned d) i 0)

  pub whole_at : (i : ℕ) → i < whole_size d → get_or (unsigned d) i 0 ≡ digit d.whole (whole_size d - 1 - i)
  whole_at i h =
      get_or-append (whole_text d.whole) (fraction d) 0 i (rw length_padded h) ∙ padded_at (whole_size d) d.whole i h

  pub at_whole : (i : ℕ) → i < whole_size d → get_or (text_of d) (sign_size d + i) 0 ≡ digit d.whole (whole_size d - 1 - i)
  at_whole i h = past_sign i ∙ whole_at i h

  past_whole : (i : ℕ) → get_or (text_of d) (sign_size d + (whole_size d + i)) 0 ≡ get_or (fraction d) i 0
  past_whole i =
      past_sign (whole_size d + i)
      ∙ ap (λ (x : ℕ). get_or (unsigned d) (x + i) 0) (sym length_whole)
      ∙ get_or-append-add (whole_text d.whole) (fraction d) i 0

  pub at_point : get_or (text_of d) (sign_size d + whole_size d) 0 ≡ 46
  at_point = ap (λ (x : ℕ). get_or (text_of d) (sign_size d + x) 0) (sym (add-zero (whole_size d))) ∙ past_whole 0

  pub at_billionths : (i : ℕ) → i < 9 → get_or (text_of d) (sign_size d + whole_size d + 1 + i) 0 ≡ digit d.billionths (8 - i)
  at_billionths i h =
      ap (λ (x : ℕ). get_or (text_of d) x 0) (sum (sign_size d) (whole_size d)) ∙ past_whole (suc i) ∙ padded_at 9 d.billionths i h
    where
      sum : (x y : ℕ) → x + y + 1 + i ≡ x + (y + suc i)
      sum x y = omega arith

-- The length of a text.
pub length_range : (d : Decimal) → (11 ≤ length (text_of d)) × (length (text_of d) ≤ 18)
length_range d = rw length_text (by d.negative (whole_size d) (digit_count_range d.whole))
  where
    by : (b : Bool) (y : ℕ) → (1 ≤ y) × (y ≤ 7) → (11 ≤ sign_length b + y + 10) × (sign_length b + y + 10 ≤ 18)
    by true y h = (omega arith, omega arith)
    by false y h = (omega arith, omega arith)

-- ---- the results of `text_length` and `text_byte`: s and p are the lengths of the sign and of the whole part

minus_at : (d : Decimal) → d.negative ≡ true → get_or (text_of d) 0 0 ≡ 45
unfolding text_of
minus_at d e = rw e

pub sign_bytes : (b : Bool) → from_bool b ≡ sign_length b
sign_bytes true = refl
sign_bytes false = refl

module _ (d : Decimal) (i s p : ℕ) (sign_is : s ≡ from_bool d.negative) (digits : p ≡ whole_size d) where
  signs : s ≡ sign_size d
  signs = sign_is ∙ sign_bytes d.negative

  pub length_is : s + p + 10 ≡ length (text_of d)
  length_is = rw (signs, digits) (sym (length_text d))

  from : (j : ℕ) → i ≡ s + j → get_or (text_of d) i 0 ≡ get_or (text_of d) (sign_size d + j) 0
  from j e = ap (λ (x : ℕ). get_or (text_of d) x 0) (e ∙ ap (λ (x : ℕ). x + j) signs)

  pub byte_sign : i < s → 45 ≡ get_or (text_of d) i 0
  byte_sign h = by d.negative refl
    where
      by : (b : Bool) → d.negative ≡ b → 45 ≡ get_or (text_of d) i 0
      by true e =
          let one : s ≡ 1 = signs ∙ ap sign_length e in
          let z : i ≡ 0 = omega arith in
          sym (ap (λ (x : ℕ). get_or (text_of d) x 0) z ∙ minus_at d e)
      by false e = let none : s ≡ 0 = signs ∙ ap sign_length e in absurd (omega arith)

  pub byte_whole : (r : ℕ) → s ≤ i → i < s + p → r ≡ digit d.whole (s + p - 1 - i) → r ≡ get_or (text_of d) i 0
  byte_whole r a b e =
      let j = i - s in
      let back : i ≡ s + j = omega arith in
      let l : j < p = omega arith in
      let same : s + p - 1 - i ≡ p - 1 - j = omega arith in
      e
      ∙ ap (digit d.whole) (same ∙ ap (λ (x : ℕ). x - 1 - j) digits)
      ∙ sym (at_whole d j (subst (λ (x : ℕ). j < x) digits l))
      ∙ sym (from j back)

  pub byte_point : i ≡ s + p → 46 ≡ get_or (text_of d) i 0
  byte_point e = sym (at_point d) ∙ ap (λ (x : ℕ). get_or (text_of d) (sign_size d + x) 0) (sym digits) ∙ sym (from p e)

  pub byte_billionths : (r : ℕ) → s + p < i → i < s + p + 10 → r ≡ digit d.billionths (s + p + 9 - i) → r ≡ get_or (text_of d) i 0
  byte_billionths r a b e =
      let j = i - (s + p + 1) in
      let back : i ≡ s + p + 1 + j = omega arith in
      let same : s + p + 9 - i ≡ 8 - j = omega arith in
      let sizes : sign_size d + whole_size d ≡ s + p = ap (λ (x : ℕ). sign_size d + x) (sym digits) ∙ ap (λ (x : ℕ). x + p) (sym signs) in
      e
      ∙ ap (digit d.billionths) same
      ∙ sym (at_billionths d j (omega arith))
      ∙ ap (λ (x : ℕ). get_or (text_of d) (x + 1 + j) 0) sizes
      ∙ ap (λ (x : ℕ). get_or (text_of d) x 0) (sym back)

  pub byte_past : s + p + 10 ≤ i → 0 ≡ get_or (text_of d) i 0
  byte_past h = sym (get_or-eq_default (text_of d) 0 (rw length_is at h))
