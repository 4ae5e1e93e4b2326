-- The result of `decimal_in` (`shown_by`), and the results of `parse`. If the
-- length is not 11 to 18, the bytes are no text of a decimal (`length_refused`). Otherwise the tests of `parse` are those of
-- `is_decimal_text` (`number_parsed`, `refusal_parsed`).
use mathlib.Core.Path.{◌≡◌, refl, sym, ap, ◌∙◌}
use mathlib.Core.Bool.{Bool, true, false, ◌&&◌, ◌||◌, true≢false, false≢true, and-false}
use mathlib.Core.List.{List}
use Prim.Native.Nat.{ℕ, ◌-◌, ◌≤◌, ◌<◌}
use native.Mathlib.Omega.{arith}
use borrow.Author.Tests.{ltb-true, ltb-false}
use lib.Dec.{eqb, ltb}
use lib.ListN.{length, get_or}
use Rattle.decimal.specs.Texts.{value_at, decimal_in, is_well_formed, text_of, is_decimal_text, parse_of}
use Rattle.decimal.specs.declared.Decimal.{Decimal}
use Rattle.std.specs.Prelude.{Some, None}
use Rattle.std.specs.Int.{from_bool}
use Rattle.std.specs.Str.{bytes_eq}
use Rattle.std.proofs.lemmas.Bool.{false_from_ne_true}
use Rattle.std.proofs.lemmas.Slice.Eq.{bytes_eq-Decides}
use Rattle.decimal.proofs.TextBytes.{sign_bytes, length_range}

-- ---- `decimal_in`: n and b are its two numbers, and the whole part starts after `sign` bytes

pub shown_by : (s : List ℕ) (sign n b : ℕ) → sign ≡ from_bool (eqb (get_or s 0 0) 45) → n ≡ value_at s sign (length s - 10 - sign) →
    b ≡ value_at s (length s - 9) 9 →
    ◌≡◌ {A = Decimal} (record { negative = eqb (get_or s 0 0) 45; whole = n; billionths = b }) (decimal_in s)
unfolding decimal_in
shown_by s sign n b e f g = rw (f, g, e ∙ sign_bytes (eqb (get_or s 0 0) 45))

-- ---- `parse`

pub parse_number : (s : List ℕ) → is_decimal_text s ≡ true → parse_of s ≡ Some (decimal_in s)
unfolding parse_of
parse_number s e = rw e

pub parse_refused : (s : List ℕ) → is_decimal_text s ≡ false → parse_of s ≡ None
unfolding parse_of
parse_refused s e = rw e

-- The test of the length.
pub inside : (s : List ℕ) → ltb (length s) 11 || ltb 18 (length s) ≡ false → (11 ≤ length s) × (length s ≤ 18)
inside s e = by (ltb (length s) 11) (ltb 18 (length s)) (ltb-false (length s) 11) (ltb-false 18 (length s)) e
  where
    by : (a b : Bool) → (a ≡ false → 11 ≤ length s) → (b ≡ false → length s ≤ 18) → a || b ≡ false → (11 ≤ length s) × (length s ≤ 18)
    by true b f g h = absurd (true≢false h)
    by false true f g h = absurd (true≢false h)
    by false false f g h = (f refl, g refl)

outside : (s t : List ℕ) → ltb (length s) 11 || ltb 18 (length s) ≡ true → (11 ≤ length t) × (length t ≤ 18) → length s ≡ length t → ⊥
outside s t e l = by (ltb (length s) 11) (ltb 18 (length s)) (ltb-true (length s) 11) (ltb-true 18 (length s)) e
  where
    by : (a b : Bool) → (a ≡ true → length s < 11) → (b ≡ true → 18 < length s) → a || b ≡ true → length s ≡ length t → ⊥
    by true b f g h k = let m = f refl in omega arith
    by false true f g h k = let m = g refl in omega arith
    by false false f g h k = false≢true h

pub length_refused : (s : List ℕ) → ltb (length s) 11 || ltb 18 (length s) ≡ true → None ≡ parse_of s
unfolding is_decimal_text
length_refused s e =
    let t = text_of (decimal_in s) in
    let longer = outside s t e (length_range (decimal_in s)) in
    let other : bytes_eq s t ≡ false = false_from_ne_true _ (λ h. longer (ap length ((bytes_eq-Decides s t).0 h))) in
    let formed = is_well_formed (decimal_in s) in
    sym (parse_refused s (ap (λ (b : Bool). formed && b) other ∙ and-false formed))

-- The tests of `parse` on d, which is the decimal that the bytes show.
module _ (s : List ℕ) (d : Decimal) (formed match : Bool) (shown : d ≡ decimal_in s) (is_formed : formed ≡ is_well_formed d)
    (is-match : match ≡ bytes_eq s (text_of d)) where
  tests : formed && match ≡ is_decimal_text s
  unfolding is_decimal_text
  tests =
      ap (λ (b : Bool). b && match) is_formed
      ∙ ap (λ (b : Bool). is_well_formed d && b) is-match
      ∙ ap (λ (e : Decimal). is_well_formed e && bytes_eq s (text_of e)) shown

  pub number_parsed : formed && match ≡ true → Some d ≡ parse_of s
  number_parsed e = ap Some shown ∙ sym (parse_number s (sym tests ∙ e))

  pub refusal_parsed : formed && match ≡ false → None ≡ parse_of s
  refusal_parsed e = sym (parse_refused s (sym tests ∙ e))
