-- The values that `values_in` finds fill the template (`values_sound`). If a template is filled with values, then `values_in` finds these
-- values again (`values_filled`, `values_complete`). So at most one list of values fills a template to given bytes (`one_filling`), and
-- none does if `values_in` finds none (`no_filling`). `values_sound` and `values_filled` are proved by induction on the template.
use mathlib.Core.Path.{◌≡◌, refl, sym, ap, ◌∙◌, subst}
use mathlib.Core.Bool.{Bool, true, false, cond}
use mathlib.Core.List.{List, [], ◌∷◌, ◌++◌}
use Prim.Native.Nat.{ℕ, zero, suc}
use native.Mathlib.Nat.{suc_inj}
use native.Mathlib.Omega.{arith}
use borrow.Author.Tests.{eq-eqb, ne_eqb, eqb-true, eqb-false}
use lib.Dec.{eqb}
use lib.ListN.{length}
use Rattle.orbit_message.specs.Templates.{filled, placeholders_in, StartsWithLineFeed, ValuesEndLines, OneLine, OneLineEach, IsFilled}
use Rattle.std.specs.Prelude.{Some, None}
use Rattle.orbit_message.specs.Templates.{line_in, after_line, Values, prepend, values_in}

-- ---- the first line of bytes and the bytes after it

-- The first line and the bytes after it are all bytes.
pub line_then_rest : (s : List ℕ) → line_in s ++ after_line s ≡ s
unfolding line_in after_line
line_then_rest [] = refl
line_then_rest (c ∷ s) = by (line_then_rest s) (eqb c 10)
  where
    by : line_in s ++ after_line s ≡ s → (b : Bool) → cond b [] (c ∷ line_in s) ++ cond b (c ∷ s) (after_line s) ≡ c ∷ s
    by e true = refl
    by e false = ap (λ (l : List ℕ). c ∷ l) e

-- The first line has no LF.
pub line_one : (s : List ℕ) → OneLine (line_in s)
unfolding line_in OneLine
line_one [] = tt
line_one (c ∷ s) = by (line_one s) (eqb c 10) refl
  where
    by : OneLine (line_in s) → (b : Bool) → eqb c 10 ≡ b → OneLine (cond b [] (c ∷ line_in s))
    by p true e = tt
    by p false e = (eqb-false c 10 e, p)

-- If v has no LF, then the first line of v followed by an LF is v, and the bytes after it begin with this LF.
pub line_before_feed : (v s : List ℕ) → OneLine v → line_in (v ++ (10 ∷ s)) ≡ v
unfolding line_in OneLine
line_before_feed [] s p = refl
line_before_feed (c ∷ v) s p = rw (ne_eqb c 10 p.0) (ap (λ (l : List ℕ). c ∷ l) (line_before_feed v s p.1))

pub rest_from_feed : (v s : List ℕ) → OneLine v → after_line (v ++ (10 ∷ s)) ≡ 10 ∷ s
unfolding after_line OneLine
rest_from_feed [] s p = refl
rest_from_feed (c ∷ v) s p = rw (ne_eqb c 10 p.0) (rest_from_feed v s p.1)

-- ---- the values found fill the template

-- The first line is the value for a 0.
line_fills_placeholder : {t s : List ℕ} (us : List (List ℕ)) → IsFilled t (after_line s) us → IsFilled (0 ∷ t) s (line_in s ∷ us)
unfolding filled placeholders_in OneLineEach
line_fills_placeholder {t} {s} us f =
    record {
      as_many = ap suc f.as_many;
      one_line = (line_one s, f.one_line);
      same = sym (line_then_rest s) ∙ ap (λ (l : List ℕ). line_in s ++ l) f.same;
    }

-- A byte other than 0 stands for itself.
byte_fills_itself : {c b : ℕ} {t s : List ℕ} {vs : List (List ℕ)} → b ≡ suc c → IsFilled t s vs → IsFilled (suc c ∷ t) (b ∷ s) vs
unfolding filled placeholders_in
byte_fills_itself {c} {b} {t} {s} e f =
    record {
      as_many = f.as_many;
      one_line = f.one_line;
      same = ap (λ (y : ℕ). y ∷ s) e ∙ ap (λ (l : List ℕ). suc c ∷ l) f.same;
    }

pub zero_is_one : {A : Type 0} → ◌≡◌ {A = ℕ} 0 1 → A
zero_is_one e = absurd (omega arith)

pub values_sound : (t s : List ℕ) (vs : List (List ℕ)) → values_in t s ≡ Some vs → IsFilled t s vs
unfolding values_in filled placeholders_in OneLineEach
values_sound [] [] vs e =
    let none : [] ≡ vs = cc in
    subst (IsFilled [] []) none (record { as_many = refl; one_line = tt; same = refl })
values_sound [] (c ∷ s) vs e = zero_is_one cc
values_sound (zero ∷ t) s vs e = by (λ us f. values_sound t (after_line s) us f) (values_in t (after_line s)) refl e
  where
    by : ((us : List (List ℕ)) → values_in t (after_line s) ≡ Some us → IsFilled t (after_line s) us) →
        (r : Values) → values_in t (after_line s) ≡ r → prepend (line_in s ∷ []) r ≡ Some vs → IsFilled (0 ∷ t) s vs
    by rest (Some us) f g =
        let first : line_in s ∷ us ≡ vs = cc in
        subst (IsFilled (0 ∷ t) s) first (line_fills_placeholder us (rest us f))
    by rest None f g = zero_is_one cc
values_sound (suc c ∷ t) [] vs e = zero_is_one cc
values_sound (suc c ∷ t) (b ∷ s) vs e = by (λ f. values_sound t s vs f) (eqb b (suc c)) refl e
  where
    by : (values_in t s ≡ Some vs → IsFilled t s vs) →
        (x : Bool) → eqb b (suc c) ≡ x → cond x (values_in t s) None ≡ Some vs → IsFilled (suc c ∷ t) (b ∷ s) vs
    by rest true f g = byte_fills_itself (eqb-true b (suc c) f) (rest g)
    by rest false f g = zero_is_one cc

-- ---- the values of a filled template are found again

-- If a template begins with an LF, so does the filled template.
filled_starts_with_feed : (t : List ℕ) (vs : List (List ℕ)) → StartsWithLineFeed t → (x : List ℕ) × (filled t vs ≡ 10 ∷ x)
unfolding filled
filled_starts_with_feed [] vs e = absurd e
filled_starts_with_feed (c ∷ t) vs e = (filled t vs, ap (λ (y : ℕ). filled (y ∷ t) vs) e)

-- A value that an LF follows is found.
value_found : (t v s : List ℕ) (vs : List (List ℕ)) → OneLine v → (x : List ℕ) × (s ≡ 10 ∷ x) → values_in t s ≡ Some vs →
    prepend (line_in (v ++ s) ∷ []) (values_in t (after_line (v ++ s))) ≡ Some (v ∷ vs)
value_found t v s vs p (x, e) f =
    let line : line_in (v ++ s) ≡ v = ap (λ (l : List ℕ). line_in (v ++ l)) e ∙ line_before_feed v x p in
    let rest : after_line (v ++ s) ≡ s = ap (λ (l : List ℕ). after_line (v ++ l)) e ∙ rest_from_feed v x p ∙ sym e in
    rw (line, rest, f)

pub values_filled : (t : List ℕ) (vs : List (List ℕ)) → ValuesEndLines t → length vs ≡ placeholders_in t → OneLineEach vs →
    values_in t (filled t vs) ≡ Some vs
unfolding values_in filled placeholders_in OneLineEach ValuesEndLines
values_filled [] [] q l p = refl
values_filled [] (v ∷ vs) q l p = zero_is_one cc
values_filled (zero ∷ t) [] q l p = zero_is_one cc
values_filled (zero ∷ t) (v ∷ vs) q l p =
    let rest = values_filled t vs q.1 (suc_inj l) p.1 in
    value_found t v (filled t vs) vs p.0 (filled_starts_with_feed t vs q.0) rest
values_filled (suc c ∷ t) vs q l p = rw (eq-eqb (suc c) (suc c) refl) (values_filled t vs q l p)

pub values_complete : (t s : List ℕ) (vs : List (List ℕ)) → ValuesEndLines t → IsFilled t s vs → values_in t s ≡ Some vs
values_complete t s vs q f = ap (values_in t) f.same ∙ values_filled t vs q f.as_many f.one_line

-- ---- at most one list of values fills a template to given bytes

pub one_filling : (t s : List ℕ) (us vs : List (List ℕ)) → ValuesEndLines t → IsFilled t s us → IsFilled t s vs → us ≡ vs
one_filling t s us vs q f g =
    let first = values_complete t s us q f in
    let second = values_complete t s vs q g in
    cc

pub no_filling : (t s : List ℕ) (vs : List (List ℕ)) → ValuesEndLines t → values_in t s ≡ None → IsFilled t s vs → ⊥
no_filling t s vs q e f =
    let all = values_complete t s vs q f in
    zero_is_one cc
