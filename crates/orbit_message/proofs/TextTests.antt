-- The tests of texts, for the functions of src/texts.rt: the length of a text (`out_of_bounds`, `in_bounds`), all tests of one text
-- (`legal_if`), and the eight lines (`not_eight_lines`, `eight_lines`).
use mathlib.Core.Path.{◌≡◌, refl, sym, ap, ◌∙◌}
use mathlib.Core.Bool.{Bool, true, false, not, ◌&&◌, ◌||◌, true≢false}
use mathlib.Core.List.{List}
use Prim.Native.Nat.{ℕ, ◌-◌, ◌≤◌}
use borrow.Author.Tests.{le-leb, lt-leb, ltb-true, ltb-false}
use lib.Dec.{eqb, ltb}
use lib.ListN.{length, get_or}
use Rattle.std.specs.Prelude.{None}
use Rattle.orbit_message.specs.Templates.{placeholders_in, values_in}
use Rattle.orbit_message.specs.Texts.{every, is_printable, is_legal, lines_template, texts_in, are_texts}
use Rattle.orbit_message.specs.Matches.{values_between, IsMatch}
use Rattle.orbit_message.specs.declared.matching.Match.{Match}

-- ---- the bytes of a text

-- A text that is empty or has more than 60 bytes is not legal.
pub out_of_bounds : (s : List ℕ) → ltb (length s) 1 || ltb 60 (length s) ≡ true → false ≡ is_legal s
unfolding is_legal
out_of_bounds s e = by (ltb (length s) 1) refl
  where
    by : (b : Bool) → ltb (length s) 1 ≡ b → false ≡ is_legal s
    by true f = rw (lt-leb 1 (length s) (ltb-true (length s) 1 f))
    by false f =
        let above : ltb 60 (length s) ≡ true = sym (ap (λ (b : Bool). b || ltb 60 (length s)) f) ∙ e in
        rw (le-leb 1 (length s) (ltb-false (length s) 1 f), lt-leb (length s) 60 (ltb-true 60 (length s) above))

pub in_bounds : (s : List ℕ) → ltb (length s) 1 || ltb 60 (length s) ≡ false → (1 ≤ length s) × (length s ≤ 60)
in_bounds s e = by (ltb (length s) 1) (ltb 60 (length s)) (ltb-false (length s) 1) (ltb-false 60 (length s)) e
  where
    by : (a b : Bool) → (a ≡ false → 1 ≤ length s) → (b ≡ false → length s ≤ 60) → a || b ≡ false → (1 ≤ length s) × (length s ≤ 60)
    by true b f g h = absurd (true≢false h)
    by false true f g h = absurd (true≢false h)
    by false false f g h = (f refl, g refl)

pub legal_if : (s : List ℕ) → (1 ≤ length s) × (length s ≤ 60) →
    (every is_printable s && not (eqb (get_or s 0 0) 0x20)) && not (eqb (get_or s (length s - 1) 0) 0x20) ≡ is_legal s
unfolding is_legal
legal_if s h =
    rw (le-leb 1 (length s) h.0, le-leb (length s) 60 h.1)

-- ---- eight lines

pub eight_placeholders : placeholders_in (lines_template 8) ≡ 8
unfolding placeholders_in lines_template
eight_placeholders = refl

pub not_eight_lines : (s : List ℕ) → values_in (lines_template 8) s ≡ None → false ≡ are_texts (texts_in s)
unfolding are_texts texts_in
not_eight_lines s e = rw e refl

-- The texts are the eight values of the match.
pub eight_lines : (s : List ℕ) (m : Match) → IsMatch (lines_template 8) s m →
    every is_legal (values_between s m.spans 8) ≡ are_texts (texts_in s)
unfolding are_texts texts_in values_between
eight_lines s m is =
    let texts : texts_in s ≡ values_between s m.spans 8 = rw (is.outcome, is.count_is, eight_placeholders) refl in
    rw texts refl
