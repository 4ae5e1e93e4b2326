-- The text of a decimal and reading it back. The text of a well-formed decimal shows that decimal (`decimal_in_text`): its sign, by the
-- first byte, and both its numbers, by their digits. So it is a text of a decimal (`is_text`), and bytes that are the text of a decimal
-- are the text of the decimal that they show (`text_shown`). `parses` says what `parse` accepts, for all bytes.
use mathlib.Core.Path.{◌≡◌, refl, sym, ap, ◌∙◌, subst}
use mathlib.Core.Bool.{Bool, true, false, ◌&&◌, and-true, false≢true}
use mathlib.Core.List.{List, ◌++◌}
use Prim.Native.Nat.{ℕ, ◌+◌, ◌-◌, ◌/◌, ◌%◌, ◌^◌}
use native.Mathlib.Omega.{arith}
use borrow.Author.Tests.{ne_eqb}
use lib.Dec.{T, eqb}
use lib.ListN.{length, get_or}
use lib.Ieee.{Float, binary64, fits}
use Rattle.decimal.specs.Decimals.{is_in_range, decimal_of}
use Rattle.decimal.specs.Texts.{sign_text, sign_length, value_at, decimal_in, is_well_formed, text_of, is_decimal_text, parse_of}
use Rattle.decimal.specs.declared.Decimal.{Decimal}
use Rattle.std.specs.Prelude.{Some, None}
use Rattle.std.specs.Str.{bytes_eq}
use Rattle.std.proofs.lemmas.Slice.Eq.{bytes_eq-Decides}
use Rattle.decimal.proofs.Digits.{digit_count_range}
use Rattle.decimal.proofs.TextBytes.{sign_size, whole_size, unsigned, length_text, whole_at, at_whole, at_billionths}
use Rattle.decimal.proofs.ParseCases.{parse_number, parse_refused}
use Rattle.decimal_laws.specs.Parsing.{IsTextOf, Parses}
use Rattle.decimal_laws.proofs.WellFormed.{formed}
use Rattle.decimal_laws.proofs.DigitValues.{value_of, no_needless_zero}
use Rattle.decimal_laws.proofs.Rounding.{decimal_well_formed}

-- ---- the decimal that a text shows

-- A text begins with a minus sign exactly if the decimal is negative, because a digit is not a minus sign.
sign_shown : (d : Decimal) → eqb (get_or (text_of d) 0 0) 45 ≡ d.negative
unfolding text_of
sign_shown d = by d.negative
  where
    no : (x : ℕ) → 48 + x % 10 ≡ 45 → ⊥
    no x e = omega arith

    by : (b : Bool) → eqb (get_or (sign_text b ++ unsigned d) 0 0) 45 ≡ b
    by true = refl
    by false =
        let digit = whole_at d 0 (digit_count_range d.whole).0 in
        ne_eqb (get_or (unsigned d) 0 0) 45 (λ e. no (d.whole / 10 ^ (whole_size d - 1 - 0)) (sym digit ∙ e))

abbrev decimal : Bool → ℕ → ℕ → Decimal
decimal s w b = record { negative = s; whole = w; billionths = b }

pub decimal_in_text : (d : Decimal) → is_well_formed d ≡ true → decimal_in (text_of d) ≡ d
unfolding decimal_in
decimal_in_text d w =
    let t = text_of d in
    let f = formed d w in
    let s = sign_size d in
    let p = whole_size d in
    let digits : length t - 10 - s ≡ p = ap (λ (x : ℕ). x - 10 - s) (length_text d) ∙ middle s p in
    let start : length t - 9 ≡ s + p + 1 = ap (λ (x : ℕ). x - 9) (length_text d) ∙ end s p in
    let enough = (no_needless_zero d.whole f.whole_below).enough in
    let whole : value_at t s (length t - 10 - s) ≡ d.whole =
    ap (λ (x : ℕ). value_at t s x) digits ∙ value_of t s p d.whole enough (at_whole d) in
    let billionths : value_at t (length t - 9) 9 ≡ d.billionths =
    ap (λ (x : ℕ). value_at t x 9) start ∙ value_of t (s + p + 1) 9 d.billionths f.billionths_below (at_billionths d) in
    ap (λ (b : Bool). decimal b (value_at t (sign_length b) (length t - 10 - sign_length b)) (value_at t (length t - 9) 9)) (sign_shown d)
    ∙ ap (λ (x : ℕ). decimal d.negative x (value_at t (length t - 9) 9)) whole
    ∙ ap (λ (x : ℕ). decimal d.negative d.whole x) billionths
  where
    middle : (x y : ℕ) → x + y + 10 - 10 - x ≡ y
    middle x y = omega arith

    end : (x y : ℕ) → x + y + 10 - 9 ≡ x + y + 1
    end x y = omega arith

-- Two well-formed decimals with the same text are equal.
pub one_decimal : (d e : Decimal) → is_well_formed d ≡ true → is_well_formed e ≡ true → text_of d ≡ text_of e → d ≡ e
one_decimal d e v w same = sym (decimal_in_text d v) ∙ ap decimal_in same ∙ decimal_in_text e w

-- ---- the test of a text

pub is_text : (d : Decimal) → is_well_formed d ≡ true → is_decimal_text (text_of d) ≡ true
unfolding is_decimal_text
is_text d w =
    let t = text_of d in
    let back = decimal_in_text d w in
    let same = (bytes_eq-Decides t (text_of (decimal_in t))).1 (ap text_of (sym back)) in
    ap (λ (b : Bool). is_well_formed (decimal_in t) && b) same ∙ and-true (is_well_formed (decimal_in t)) ∙ ap is_well_formed back ∙ w

both : (a b : Bool) → a && b ≡ true → (a ≡ true) × (b ≡ true)
both true b e = (refl, e)
both false b e = absurd (false≢true e)

pub text_shown : (s : List ℕ) → is_decimal_text s ≡ true → IsTextOf s (decimal_in s)
unfolding is_decimal_text
text_shown s e =
    let t = text_of (decimal_in s) in
    let parts = both (is_well_formed (decimal_in s)) (bytes_eq s t) e in
    record { well_formed = parts.0; text = (bytes_eq-Decides s t).0 parts.1 }

-- ---- `parse`

-- The text of a well-formed decimal is read back as that decimal.
pub read_back : (d : Decimal) → is_well_formed d ≡ true → parse_of (text_of d) ≡ Some d
read_back d w = parse_number (text_of d) (is_text d w) ∙ ap Some (decimal_in_text d w)

pub parses : (s : List ℕ) → Parses s
parses s = record { accepted = λ d e. accepts d e (is_decimal_text s) refl; complete = completes; refused = refuses }
  where
    accepts : (d : Decimal) → parse_of s ≡ Some d → (b : Bool) → is_decimal_text s ≡ b → IsTextOf s d
    accepts d e true t =
        let n = parse_number s t in
        let same : decimal_in s ≡ d = cc in
        subst (IsTextOf s) same (text_shown s t)
    accepts d e false t =
        let n = parse_refused s t in
        let z : ◌≡◌ {A = ℕ} 0 1 = cc in
        absurd (omega arith)

    completes : (d : Decimal) → IsTextOf s d → parse_of s ≡ Some d
    completes d t = ap parse_of t.text ∙ read_back d t.well_formed

    refuses : parse_of s ≡ None → (d : Decimal) → IsTextOf s d → ⊥
    refuses e d t =
        let n = completes d t in
        let z : ◌≡◌ {A = ℕ} 0 1 = cc in
        omega arith

-- For every f64 in range, what was rounded and written is read back.
pub rounded_read_back : (x : Float) → T (fits binary64 x) → is_in_range x ≡ true → parse_of (text_of (decimal_of x)) ≡ Some (decimal_of x)
rounded_read_back x f e = read_back (decimal_of x) (decimal_well_formed x f e)
