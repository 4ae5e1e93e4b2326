-- The entrance checks follow 01's table for the numbers 1 to 10 (01, Numbers of refusal). A number is given exactly
-- when its own condition holds and no earlier one does (`refused_exactly`). A question is accepted exactly when no
-- condition holds (`accepted_exactly`). `the_conditions` lists the ten conditions. The proofs are by induction on the
-- list of checks, whose numbers rise.
use Prim.Native.Nat.{ℕ, zero, suc, ◌≤◌, ◌<◌}
use mathlib.Core.Path.{◌≡◌, refl, sym, ap, ◌∙◌, subst}
use mathlib.Core.Bool.{Bool, true, false, cond, true≢false, false≢true}
use mathlib.Core.List.{List, [], ◌∷◌, map}
use native.Mathlib.Nat.{le_of_suc-le-suc, le_of_eq, le_of_lt, lt_of_le_of_lt, lt_of_not-le, lt_irrefl, zero-lt-suc}
use native.Mathlib.Omega.{arith}
use borrow.Author.Tests.{eqb-true, eqb-false, eq-eqb, ne_eqb, ltb-false}
use lib.Dec.{eqb, lit<, lit≤}
use lib.ListN.{length}
use Rattle.std.specs.Prelude.{Option, Some, None, Result, Ok, Err}
use Rattle.geometry.specs.Triangles.{shape_of}
use Rattle.geometry.specs.declared.Shape.{Shape}
use Rattle.records.specs.Layout.{answer_room}
use Rattle.records.specs.declared.Question.{Question}
use Rattle.geometry.specs.Conditions.{radius_outside, no_plane, short_chord, flat_triangle}
use Rattle.records.specs.Records.{question_of}
use Rattle.entrance.specs.Conditions.{malformed, positions_far, mu_outside, time_outside, many_revolutions, small_buffer}
use Rattle.entrance.specs.Judge.{Check, checks, is_long_way, first_of, fault_number, unless, problem_of, judge_of}
use Rattle.entrance.specs.Table.{Row, rows_of, applies_in, condition_of, verdict_number, First, Exactly}
use Rattle.entrance.specs.declared.Problem.{Problem}
use Rattle.entrance.proofs.Unless.{unless_ok}
use Rattle.entrance.specs.declared.Fault.{Fault}
use Rattle.entrance.specs.declared.Fault.TheVariants.{Malformed, PositionFar, RadiusOutside, MuOutside, TimeOutside}
use Rattle.entrance.specs.declared.Fault.TheVariants.{ManyRevolutions, SmallBuffer, NoPlane, ShortChord, FlatTriangle}

-- ---- lists of rows whose numbers rise, all above `low`
pub data Rising : ℕ → List Row → Type 0 where
  none : {low : ℕ} → Rising low []
  more : {low : ℕ} {c : Row} {cs : List Row} → low < c.number → Rising c.number cs → Rising low (c ∷ cs)

-- No row of the list has a number that is not above `low`.
below : (low : ℕ) (cs : List Row) (m : ℕ) → Rising low cs → m ≤ low → applies_in cs m ≡ false
unfolding applies_in
below low [] m none h = refl
below low (c ∷ cs) m (more l r) h =
    let d : eqb c.number m ≡ false = ne_eqb c.number m (λ (e : c.number ≡ m). omega arith) in
    ap (λ (b : Bool). cond b c.applies (applies_in cs m)) d ∙ below c.number cs m r (le_of_lt (lt_of_le_of_lt h l))

-- The value of `applies_in` at n, in two cases: n is the number of the first row, or it is not.
at_head : (c : Row) (cs : List Row) (n : ℕ) → c.number ≡ n → applies_in (c ∷ cs) n ≡ c.applies
unfolding applies_in
at_head c cs n e = ap (λ (b : Bool). cond b c.applies (applies_in cs n)) (eq-eqb c.number n e)

past_head : (c : Row) (cs : List Row) (n : ℕ) → (c.number ≡ n → ⊥) → applies_in (c ∷ cs) n ≡ applies_in cs n
unfolding applies_in
past_head c cs n d = ap (λ (b : Bool). cond b c.applies (applies_in cs n)) (ne_eqb c.number n d)

-- If the row with the number n applies, n is above `low`.
later : (low : ℕ) (cs : List Row) (n : ℕ) → Rising low cs → applies_in cs n ≡ true → low < n
later low cs n r e = lt_of_not-le (λ (h : n ≤ low). true≢false (sym e ∙ below low cs n r h))

-- ---- lists of rows whose numbers are at most `high`
-- No row of the list has a number above `high` (`above`).
pub data UpTo (high : ℕ) : List Row → Type 0 where
  none : UpTo high []
  more : {c : Row} {cs : List Row} → c.number ≤ high → UpTo high cs → UpTo high (c ∷ cs)

pub above : (high : ℕ) (cs : List Row) (n : ℕ) → UpTo high cs → high < n → applies_in cs n ≡ false
unfolding applies_in
above high [] n none h = refl
above high (c ∷ cs) n (more l r) h = past_head c cs n (λ (e : c.number ≡ n). omega arith) ∙ above high cs n r h

-- ---- the first row that applies
-- The number of the first row that applies, or 0 if none applies.
unfoldable pub first_in : List Row → ℕ
first_in [] = 0
first_in (c ∷ cs) = cond c.applies c.number (first_in cs)

-- For a list whose numbers rise, `first_in` gives n above 0 exactly when `First` holds for n: `first_is` and `is_first`
-- are the two directions.
pub first_is : (low : ℕ) (cs : List Row) (n : ℕ) → Rising low cs → 0 < n → first_in cs ≡ n → First (applies_in cs) n
unfolding first_in
first_is low [] n none p e = absurd (lt_irrefl 0 (subst (λ (x : ℕ). 0 < x) (sym e) p))
first_is low (c ∷ cs) n (more l r) p e = by (λ (f : first_in cs ≡ n). first_is c.number cs n r p f) c.applies refl e
  where
    by : (first_in cs ≡ n → First (applies_in cs) n) → (b : Bool) → c.applies ≡ b → cond b c.number (first_in cs) ≡ n
        → First (applies_in (c ∷ cs)) n
    by rest true h f = record {
      own = at_head c cs n f ∙ h;
      none_earlier = λ m g. past_head c cs m (λ (k : c.number ≡ m). omega arith) ∙ below c.number cs m r (omega arith);
    }
    by rest false h f =
        let i = rest f in
        let n-later = later c.number cs n r i.own in
        record {
          own = past_head c cs n (λ (k : c.number ≡ n). omega arith) ∙ i.own;
          none_earlier = λ m g. earlier m (eqb c.number m) refl (i.none_earlier m g);
        }
      where
        earlier : (m : ℕ) (t : Bool) → eqb c.number m ≡ t → applies_in cs m ≡ false → applies_in (c ∷ cs) m ≡ false
        earlier m true k f' = at_head c cs m (eqb-true c.number m k) ∙ h
        earlier m false k f' = past_head c cs m (eqb-false c.number m k) ∙ f'

pub is_first : (low : ℕ) (cs : List Row) (n : ℕ) → Rising low cs → First (applies_in cs) n → first_in cs ≡ n
unfolding first_in applies_in
is_first low [] n none f = absurd (false≢true f.own)
is_first low (c ∷ cs) n (more l r) f = by (λ (g : First (applies_in cs) n). is_first c.number cs n r g) (eqb c.number n) refl
  where
    by : (First (applies_in cs) n → first_in cs ≡ n) → (t : Bool) → eqb c.number n ≡ t → cond c.applies c.number (first_in cs) ≡ n
    by others true k =
        let e = eqb-true c.number n k in
        let h : c.applies ≡ true = sym (at_head c cs n e) ∙ f.own in
        ap (λ (b : Bool). cond b c.number (first_in cs)) h ∙ e
    by others false k =
        let d = eqb-false c.number n k in
        let own = sym (past_head c cs n d) ∙ f.own in
        let n-later = later c.number cs n r own in
        let h : c.applies ≡ false = sym (at_head c cs c.number refl) ∙ f.none_earlier c.number n-later in
        ap (λ (b : Bool). cond b c.number (first_in cs)) h
        ∙ others (record { own = own; none_earlier = λ m g. rest m (eqb c.number m) refl (f.none_earlier m g) })
      where
        rest : (m : ℕ) (t : Bool) → eqb c.number m ≡ t → applies_in (c ∷ cs) m ≡ false → applies_in cs m ≡ false
        rest m true e g = below c.number cs m r (le_of_eq (sym (eqb-true c.number m e)))
        rest m false e g = sym (past_head c cs m (eqb-false c.number m e)) ∙ g

-- `first_in` is 0 exactly when no row applies: `none_first` and `first_none` are the two directions.
pub none_first : (low : ℕ) (cs : List Row) → Rising low cs → ((n : ℕ) → applies_in cs n ≡ false) → first_in cs ≡ 0
none_first low cs r f = by (first_in cs) refl
  where
    by : (n : ℕ) → first_in cs ≡ n → n ≡ 0
    by zero e = refl
    by (suc n) e = absurd (false≢true (sym (f (suc n)) ∙ (first_is low cs (suc n) r (zero-lt-suc n) e).own))

pub first_none : (low : ℕ) (cs : List Row) → Rising low cs → first_in cs ≡ 0 → (n : ℕ) → applies_in cs n ≡ false
unfolding first_in applies_in
first_none low [] none e n = refl
first_none low (c ∷ cs) (more l r) e n = by (λ (f : first_in cs ≡ 0). first_none c.number cs r f n) c.applies refl e
  where
    by : (first_in cs ≡ 0 → applies_in cs n ≡ false) → (b : Bool) → c.applies ≡ b → cond b c.number (first_in cs) ≡ 0
        → applies_in (c ∷ cs) n ≡ false
    by rest true h f = absurd (omega arith)
    by rest false h f = pick (eqb c.number n) refl
      where
        pick : (t : Bool) → eqb c.number n ≡ t → applies_in (c ∷ cs) n ≡ false
        pick true k = at_head c cs n (eqb-true c.number n k) ∙ h
        pick false k = past_head c cs n (eqb-false c.number n k) ∙ rest f

-- ---- the number of the first fault
-- The number of a fault, or 0 if there is none.
abbrev pub number_or_0 : {F : Type 0} → (F → ℕ) → Option F → ℕ
number_or_0 number None = 0
number_or_0 number (Some f) = number f

-- The first row that applies has the number of the first fault.
pub number_first : {F : Type 0} (number : F → ℕ) (cs : List (Check F))
    → first_in (rows_of number cs) ≡ number_or_0 number (first_of cs)
unfolding first_of first_in
number_first number [] = refl
number_first number (c ∷ cs) = by c.applies (number_first number cs)
  where
    by : (b : Bool) → first_in (rows_of number cs) ≡ number_or_0 number (first_of cs)
        → cond b (number c.fault) (first_in (rows_of number cs)) ≡ number_or_0 number (cond b (Some c.fault) (first_of cs))
    by true e = refl
    by false e = e

-- The number of a fault is from 1 to 10, and different faults have different numbers.
pub fault_positive : (f : Fault) → 0 < fault_number f
fault_positive Malformed = lit< tt
fault_positive PositionFar = lit< tt
fault_positive RadiusOutside = lit< tt
fault_positive MuOutside = lit< tt
fault_positive TimeOutside = lit< tt
fault_positive ManyRevolutions = lit< tt
fault_positive SmallBuffer = lit< tt
fault_positive NoPlane = lit< tt
fault_positive ShortChord = lit< tt
fault_positive FlatTriangle = lit< tt

pub fault_most : (f : Fault) → fault_number f ≤ 10
fault_most Malformed = lit≤ tt
fault_most PositionFar = lit≤ tt
fault_most RadiusOutside = lit≤ tt
fault_most MuOutside = lit≤ tt
fault_most TimeOutside = lit≤ tt
fault_most ManyRevolutions = lit≤ tt
fault_most SmallBuffer = lit≤ tt
fault_most NoPlane = lit≤ tt
fault_most ShortChord = lit≤ tt
fault_most FlatTriangle = lit≤ tt

-- The fault with a number from 1 to 10.
fault_at : ℕ → Fault
fault_at n =
    cond (eqb n 1) Malformed (cond (eqb n 2) PositionFar (cond (eqb n 3) RadiusOutside (cond (eqb n 4) MuOutside
    (cond (eqb n 5) TimeOutside (cond (eqb n 6) ManyRevolutions (cond (eqb n 7) SmallBuffer (cond (eqb n 8) NoPlane
    (cond (eqb n 9) ShortChord FlatTriangle))))))))

at_number : (f : Fault) → fault_at (fault_number f) ≡ f
unfolding fault_at
at_number Malformed = refl
at_number PositionFar = refl
at_number RadiusOutside = refl
at_number MuOutside = refl
at_number TimeOutside = refl
at_number ManyRevolutions = refl
at_number SmallBuffer = refl
at_number NoPlane = refl
at_number ShortChord = refl
at_number FlatTriangle = refl

pub fault_same : (f h : Fault) → fault_number f ≡ fault_number h → f ≡ h
fault_same f h e = sym (at_number f) ∙ ap fault_at e ∙ at_number h

-- ---- the theorems about a question
unless_number : (o : Option Fault) (p : Problem) → verdict_number (unless o p) ≡ number_or_0 fault_number o
unless_number None p = refl
unless_number (Some f) p = refl

no_number : (o : Option Fault) → number_or_0 fault_number o ≡ 0 → o ≡ None
no_number None e = refl
no_number (Some f) e = absurd (omega (arith, e, fault_positive f))

-- A verdict with the number of a fault is that fault.
by_number : (j : Result Problem Fault) (f : Fault) → verdict_number j ≡ fault_number f → j ≡ Err f
by_number (Ok p) f e = absurd (omega (arith, e, fault_positive f))
by_number (Err h) f e = ap Err (fault_same h f e)

module _ (s : List ℕ) (room : ℕ) where
  abbrev q : Question
  q = question_of s

  abbrev g : Shape
  g = shape_of q.r1 q.r2 (is_long_way q)

  -- The first fault that the entrance checks find, and their rows.
  abbrev found : Option Fault
  found = first_of (checks (length s) room q g)

  abbrev rows : List Row
  rows = rows_of fault_number (checks (length s) room q g)

  rising : Rising 0 rows
  unfolding checks
  rising =
      more (lit< tt) (more (lit< tt)
      (more (lit< tt) (more (lit< tt)
      (more (lit< tt) (more (lit< tt) (more (lit< tt) (more (lit< tt) (more (lit< tt) (more (lit< tt) none)))))))))

  to_ten : UpTo 10 rows
  unfolding checks
  to_ten =
      more (lit≤ tt) (more (lit≤ tt)
      (more (lit≤ tt) (more (lit≤ tt)
      (more (lit≤ tt) (more (lit≤ tt) (more (lit≤ tt) (more (lit≤ tt) (more (lit≤ tt) (more (lit≤ tt) none)))))))))

  number_is : verdict_number (judge_of s room) ≡ first_in rows
  unfolding judge_of
  number_is = unless_number found (problem_of q g) ∙ sym (number_first fault_number (checks (length s) room q g))

  pub refused_exactly : (n : ℕ) → 0 < n → Exactly (verdict_number (judge_of s room) ≡ n) (First (condition_of s room) n)
  unfolding condition_of
  refused_exactly n p = record {
    only = λ e. first_is 0 rows n rising p (sym number_is ∙ e);
    always = λ f. number_is ∙ is_first 0 rows n rising f;
  }

  pub fault_exactly : (f : Fault) → Exactly (judge_of s room ≡ Err f) (First (condition_of s room) (fault_number f))
  fault_exactly f =
      let number = refused_exactly (fault_number f) (fault_positive f) in
      record { only = λ e. number.only (ap verdict_number e); always = λ h. by_number (judge_of s room) f (number.always h) }

  pub accepted_when : found ≡ None → judge_of s room ≡ Ok (problem_of q g)
  unfolding judge_of
  accepted_when e = ap (λ (o : Option Fault). unless o (problem_of q g)) e

  pub accepted_exactly : Exactly (judge_of s room ≡ Ok (problem_of q g)) ((n : ℕ) → condition_of s room n ≡ false)
  unfolding judge_of condition_of
  accepted_exactly = record {
    only = λ e. first_none 0 rows rising (sym number_is ∙ ap verdict_number e);
    always = λ f.
        let none = sym (number_first fault_number (checks (length s) room q g)) ∙ none_first 0 rows rising f in
        accepted_when (no_number found none);
  }

  -- An accepted problem is the problem of the question itself (`accepted_problem`), and the answer buffer then has room
  -- for any answer (`accepted_room`).
  pub accepted_problem : (p : Problem) → judge_of s room ≡ Ok p → p ≡ problem_of q g
  unfolding judge_of
  accepted_problem p e =
      let same : ◌≡◌ {A = Result Problem Fault} (Ok p) (Ok (problem_of q g)) =
      sym e ∙ unless_ok found (problem_of q g) p (problem_of q g) e in
      cc same

  pub accepted_room : (p : Problem) → judge_of s room ≡ Ok p → answer_room ≤ room
  unfolding condition_of applies_in checks small_buffer
  accepted_room p e =
      ltb-false room answer_room (accepted_exactly.only (e ∙ ap Ok (accepted_problem p e)) 7)

  -- The ten conditions, in the order of the table.
  pub the_conditions : map (condition_of s room) (1 ∷ 2 ∷ 3 ∷ 4 ∷ 5 ∷ 6 ∷ 7 ∷ 8 ∷ 9 ∷ 10 ∷ [])
      ≡ malformed (length s) q ∷ positions_far q ∷ radius_outside g ∷ mu_outside q ∷ time_outside q ∷ many_revolutions q ∷ small_buffer room
      ∷ no_plane g ∷ short_chord g.triangle ∷ flat_triangle g.triangle ∷ []
  unfolding condition_of applies_in checks
  the_conditions = refl

  -- No number outside 1 to 10 has a condition that holds.
  pub only_ten : (n : ℕ) → condition_of s room n ≡ true → (0 < n) × (n ≤ 10)
  unfolding condition_of
  only_ten n e =
      let most : 11 ≤ n → ⊥ = λ h. true≢false (sym e ∙ above 10 rows n to_ten h) in
      (later 0 rows n rising e, le_of_suc-le-suc (lt_of_not-le most))
