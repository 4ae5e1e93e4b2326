-- No byte of the text of a decimal is LF, the byte 10 (`no_line_feed`): each is a minus sign, a digit or the point.
use mathlib.Core.Path.{◌≡◌, sym, ◌∙◌}
use mathlib.Core.Bool.{Bool, true, false}
use mathlib.Core.List.{List, [], ◌∷◌, ◌++◌}
use Prim.Native.Nat.{ℕ, zero, suc, ◌+◌, ◌-◌, ◌/◌, ◌%◌, ◌^◌, ◌<◌}
use native.Mathlib.Omega.{arith}
use lib.ListN.{length, get_or}
use Rattle.decimal.specs.Texts.{padded, digit_count, sign_text, whole_text, text_of}
use Rattle.decimal.specs.declared.Decimal.{Decimal}
use Rattle.decimal.proofs.Digits.{length_padded, padded_at}

abbrev pub NoLineFeed : List ℕ → Type 0
NoLineFeed l = (i : ℕ) → i < length l → get_or l i 0 ≡ 10 → ⊥

append : (u v : List ℕ) → NoLineFeed u → NoLineFeed v → NoLineFeed (u ++ v)
append [] v p q i h e = q i h e
append (c ∷ u) v p q zero h e = p 0 (omega arith) e
append (c ∷ u) v p q (suc i) h e = append u v (λ j l. p (suc j) (omega arith)) q i (omega arith) e

digits : (k n : ℕ) → NoLineFeed (padded k n)
digits k n i h e = no (n / 10 ^ (k - 1 - i)) (sym (padded_at k n i (rw length_padded at h)) ∙ e)
  where
    no : (x : ℕ) → 48 + x % 10 ≡ 10 → ⊥
    no x f = omega arith

one : (c : ℕ) → (c ≡ 10 → ⊥) → NoLineFeed (c ∷ [])
one c n zero h e = n e
one c n (suc i) h e = omega arith

sign : (b : Bool) → NoLineFeed (sign_text b)
sign true = one 45 (λ e. omega arith)
sign false = λ i h e. omega arith

pub no_line_feed : (d : Decimal) → NoLineFeed (text_of d)
unfolding text_of
no_line_feed d =
    let point = append (46 ∷ []) (padded 9 d.billionths) (one 46 (λ e. omega arith)) (digits 9 d.billionths) in
    let whole = append (whole_text d.whole) (46 ∷ padded 9 d.billionths) (digits (digit_count d.whole) d.whole) point in
    append (sign_text d.negative) (whole_text d.whole ++ (46 ∷ padded 9 d.billionths)) (sign d.negative) whole
