-- The end of a line. `feed_found` and `no_feed` are the cases of `line_end`: the bytes after the line start at the first LF, or there is
-- none. `part_is_line` shows that the bytes up to the end of the line are the line.
use mathlib.Core.Path.{◌≡◌, refl, sym, ap, ◌∙◌}
use mathlib.Core.Bool.{Bool, true, false, cond}
use mathlib.Core.List.{List, [], ◌∷◌}
use Prim.Native.Nat.{ℕ, suc, ◌+◌, ◌-◌, ◌≤◌}
use native.Mathlib.Omega.{arith}
use borrow.Author.Tests.{ltb-true, ltb-false}
use lib.Dec.{eqb, ltb}
use lib.ListN.{length, drop, take, length-append, length-drop, drop_of_length-le}
use lib.Seq.{take_at}
use Rattle.std.specs.Prelude.{Option, Some, None}
use Rattle.std.specs.List.{position, position_or_len}
use Rattle.orbit_message.specs.Templates.{line_in, after_line}
use Rattle.orbit_message.specs.Matches.{part}
use Rattle.orbit_message.proofs.TemplateValues.{zero_is_one, line_then_rest}

-- The test for an LF.
abbrev pub is_feed : ℕ → Bool
is_feed b = eqb b 10

-- The bytes from the first LF on.
from_feed : (l : List ℕ) → drop (position_or_len is_feed l) l ≡ after_line l
unfolding after_line
from_feed [] = refl
from_feed (c ∷ l) = by (from_feed l) (eqb c 10) refl
  where
    by : drop (position_or_len is_feed l) l ≡ after_line l → (b : Bool) → eqb c 10 ≡ b →
        drop (position_or_len is_feed (c ∷ l)) (c ∷ l) ≡ cond (eqb c 10) (c ∷ l) (after_line l)
    by rest true e = rw e
    by rest false e =
        let one : 1 + position_or_len is_feed l ≡ suc (position_or_len is_feed l) = omega arith in
        rw (e, one) rest

pub feed_found : (l : List ℕ) (r : Option ℕ) (k : ℕ) → r ≡ position is_feed l → r ≡ Some k → (k ≤ length l) × (drop k l ≡ after_line l)
feed_found l r k e f = by (ltb (position_or_len is_feed l) (length l)) refl e
  where
    by : (b : Bool) → ltb (position_or_len is_feed l) (length l) ≡ b → r ≡ cond b (Some (position_or_len is_feed l)) None →
        (k ≤ length l) × (drop k l ≡ after_line l)
    by true g h =
        let within = ltb-true (position_or_len is_feed l) (length l) g in
        let here : position_or_len is_feed l ≡ k = cc in
        (omega arith, ap (λ (n : ℕ). drop n l) (sym here) ∙ from_feed l)
    by false g h = zero_is_one cc

pub no_feed : (l : List ℕ) (r : Option ℕ) → r ≡ position is_feed l → r ≡ None → [] ≡ after_line l
no_feed l r e f = by (ltb (position_or_len is_feed l) (length l)) refl e
  where
    by : (b : Bool) → ltb (position_or_len is_feed l) (length l) ≡ b → r ≡ cond b (Some (position_or_len is_feed l)) None →
        [] ≡ after_line l
    by true g h = zero_is_one cc
    by false g h = sym (drop_of_length-le l (ltb-false (position_or_len is_feed l) (length l) g)) ∙ from_feed l

-- If the bytes from e on are those after the line that starts at a, then the bytes from a up to e are this line, because
-- they have the same length.
pub part_is_line : (s : List ℕ) (a e : ℕ) → a ≤ e → e ≤ length s → drop e s ≡ after_line (drop a s) → part s a e ≡ line_in (drop a s)
part_is_line s a e h k f =
    let line = line_in (drop a s) in
    let rest = after_line (drop a s) in
    let whole = line_then_rest (drop a s) in
    let both : length line + length rest ≡ length s - a = sym (length-append line rest) ∙ ap length whole ∙ length-drop a s in
    let after : length rest ≡ length s - e = ap length (sym f) ∙ length-drop e s in
    let size : length line ≡ e - a = omega arith in
    ap (take (e - a)) (sym whole) ∙ take_at line rest (e - a) size
