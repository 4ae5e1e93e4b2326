-- The four cases of `placed`, for a list of records and one more record (`placing`). The later lemmas split on these
-- cases. If the job numbers in the list rise, so do those in the result (`placed_rising`). The lemmas also show where
-- each element of the result comes from (`comes`), that no job is lost (`stays`, `arrives`), and how many elements
-- there are (`grown`). Placing the record again changes nothing (`placed_again`), nor does placing a record that does
-- not change what is held for its job (`placed_same`).
use mathlib.Core.Path.{◌≡◌, refl, sym, ap, ◌∙◌}
use mathlib.Core.Bool.{Bool, true, false, cond}
use mathlib.Core.List.Memᴰ.{head as here}
use mathlib.Core.List.Memᴰ.{not-nil as in-none}
use mathlib.Core.List.Memᴰ.{tail as there}
use mathlib.Core.List.{List, [], ◌∷◌}
use mathlib.Core.List.Memᴰ.{cases_cons as in-first}
use mathlib.Core.Logic.{◌⊎◌, inl, inr, ⊎_elim}
use Prim.Native.Nat.{ℕ, suc, ◌<◌}
use native.Mathlib.Omega.{arith}
use borrow.Author.Tests.{ltb-true, ltb-false, lt-ltb, le-ltb, eqb-true, eqb-false, eq-eqb}
use lib.Dec.{ltb, eqb}
use lib.ListN.{length}
use Rattle.records.specs.Layout.{job_of}
use Rattle.little_endian.specs.Bytes.{AreBytes}
use Rattle.slots.specs.Slots.{is_held}
use Rattle.board.specs.Board.{joined, placed, HeldRising, none, next}
use Rattle.arrival_laws.specs.Messages.{◌∈◌, SomeOf, NoneOf}
use Rattle.arrival_laws.proofs.Joining.{joining, joined_job, joined_held, joined_self, joined_again}

pub data Placing (new : List ℕ) : List (List ℕ) → List (List ℕ) → Type 0 where
  last : Placing new [] (new ∷ [])
  before : {c : List ℕ} {cs : List (List ℕ)} → job_of new < job_of c → Placing new (c ∷ cs) (new ∷ c ∷ cs)
  meets : {c : List ℕ} {cs : List (List ℕ)} → job_of c ≡ job_of new → Placing new (c ∷ cs) (joined c new ∷ cs)
  after : {c : List ℕ} {cs ds : List (List ℕ)} → job_of c < job_of new → Placing new cs ds → Placing new (c ∷ cs) (c ∷ ds)

pub placing : (cs : List (List ℕ)) (new : List ℕ) → Placing new cs (placed cs new)
unfolding placed
placing [] new = last
placing (c ∷ cs) new = by (ltb (job_of c) (job_of new)) refl (eqb (job_of c) (job_of new)) refl (placing cs new)
  where
    by : (low : Bool) → ltb (job_of c) (job_of new) ≡ low → (same : Bool) → eqb (job_of c) (job_of new) ≡ same → {ds : List (List ℕ)}
        → Placing new cs ds →
        Placing new (c ∷ cs) (cond low (c ∷ ds) (cond same (joined c new ∷ cs) (new ∷ c ∷ cs)))
    by true e same f p = after (ltb-true (job_of c) (job_of new) e) p
    by false e true f p = meets (eqb-true (job_of c) (job_of new) f)
    by false e false f p =
        let apart : job_of c ≡ job_of new → ⊥ = eqb-false (job_of c) (job_of new) f in
        before {c = c} (omega (arith, ltb-false))

-- ---- rising job numbers

pub above_all : {above : ℕ} {cs : List (List ℕ)} {c : List ℕ} → HeldRising above cs → c ∈ cs → above < job_of c
above_all none m = absurd (in-none m)
above_all (next l h r) m = ⊎_elim (λ e. omega (arith, ap job_of e)) (λ n. omega (arith, above_all r n)) (in-first m)

none_below : {above : ℕ} {cs : List (List ℕ)} → HeldRising above cs → NoneOf above cs
none_below r c m e = omega (arith, above_all r m)

none_first : {job : ℕ} {c : List ℕ} {cs : List (List ℕ)} → (job_of c ≡ job → ⊥) → NoneOf job cs → NoneOf job (c ∷ cs)
none_first f g d m e = ⊎_elim (λ s. f (sym (ap job_of s) ∙ e)) (λ n. g d n e) (in-first m)

some_later : {job : ℕ} {c : List ℕ} {cs : List (List ℕ)} → SomeOf job cs → SomeOf job (c ∷ cs)
some_later s = (s.0, (there s.1.0, s.1.1))

pub placed_rising : {new : List ℕ} {above : ℕ} {cs ds : List (List ℕ)} → Placing new cs ds → AreBytes new → is_held new ≡ true
    → above < job_of new → HeldRising above cs → HeldRising above ds
placed_rising last bytes h l none = next l h none
placed_rising (before k) bytes h l (next low held r) = next l h (next k held r)
placed_rising {new} (meets {c} e) bytes h l (next low held r) =
    let job : job_of (joined c new) ≡ job_of c = joined_job (joining c new) bytes e ∙ sym e in
    next (rw (← job) at low) (joined_held (joining c new) held h) (rw (← job) at r)
placed_rising {above = above} (after {c = c} k p) bytes h l (next low held r) =
    next low held (placed_rising {above = job_of c} p bytes h k r)

-- ---- the origin of each element

pub data Comes (new : List ℕ) (cs : List (List ℕ)) (c : List ℕ) : Type 0 where
  kept : c ∈ cs → (job_of c ≡ job_of new → ⊥) → Comes new cs c
  first : NoneOf (job_of new) cs → c ≡ new → Comes new cs c
  met : {d : List ℕ} → d ∈ cs → job_of d ≡ job_of new → c ≡ joined d new → Comes new cs c

pub comes : {new : List ℕ} {above : ℕ} {cs ds : List (List ℕ)} {c : List ℕ} → Placing new cs ds → HeldRising above cs → c ∈ ds
    → Comes new cs c
comes last none m = ⊎_elim (first (λ d n e. in-none n)) (λ n. absurd (in-none n)) (in-first m)
comes {c} (before k) (next low held r) m =
    let apart = none_below (next k held r) in
    ⊎_elim (first apart) (λ n. kept n (apart c n)) (in-first m)
comes (meets e) (next low held r) m = ⊎_elim (met (here refl) e) (λ n. kept (there n) (λ g. omega (arith, above_all r n))) (in-first m)
comes {new} {above = above} {c = c} (after {c = x} {cs} k p) (next low held r) m =
    ⊎_elim (λ e. kept (here e) (λ g. omega (arith, ap job_of e))) (λ n. later (comes {above = job_of x} p r n)) (in-first m)
  where
    later : Comes new cs c → Comes new (x ∷ cs) c
    later (kept n f) = kept (there n) f
    later (first z e) = first (none_first (λ g. omega arith) z) e
    later (met n e f) = met (there n) e f

-- ---- no job is lost

pub stays : {new : List ℕ} {cs ds : List (List ℕ)} → Placing new cs ds → AreBytes new → (c : List ℕ) → c ∈ cs → SomeOf (job_of c) ds
stays last bytes c m = absurd (in-none m)
stays (before k) bytes c m = (c, (there m, refl))
stays {new} (meets {c = x} e) bytes c m =
    ⊎_elim (λ s. (joined x new, (here refl, joined_job (joining x new) bytes e ∙ sym e ∙ sym (ap job_of s)))) (λ n. (c, (there n, refl)))
    (in-first m)
stays (after k p) bytes c m = ⊎_elim (λ s. (c, (here s, refl))) (λ n. some_later (stays p bytes c n)) (in-first m)

pub arrives : {new : List ℕ} {cs ds : List (List ℕ)} → Placing new cs ds → AreBytes new → SomeOf (job_of new) ds
arrives {new} last bytes = (new, (here refl, refl))
arrives {new} (before k) bytes = (new, (here refl, refl))
arrives {new} (meets {c} e) bytes = (joined c new, (here refl, joined_job (joining c new) bytes e))
arrives (after k p) bytes = some_later (arrives p bytes)

-- ---- the number of elements: one more exactly for a new job

abbrev pub Grown : ℕ → List (List ℕ) → List (List ℕ) → Type 0
Grown job cs ds = (NoneOf job cs × (length ds ≡ suc (length cs))) ⊎ (SomeOf job cs × (length ds ≡ length cs))

pub grown : {new : List ℕ} {above : ℕ} {cs ds : List (List ℕ)} → Placing new cs ds → HeldRising above cs → Grown (job_of new) cs ds
grown last none = inl (λ d n e. in-none n, refl)
grown (before k) (next low held r) = inl (none_below (next k held r), refl)
grown (meets {c} e) (next low held r) = inr ((c, (here refl, e)), refl)
grown {above = above} (after {c = c} k p) (next low held r) =
    ⊎_elim (λ n. inl (none_first (λ g. omega arith) n.0, ap suc n.1)) (λ s. inr (some_later s.0, ap suc s.1)) (grown {above = job_of c} p r)

-- ---- a record that is placed again

at_job : (c new : List ℕ) (cs : List (List ℕ)) → job_of c ≡ job_of new → placed (c ∷ cs) new ≡ joined c new ∷ cs
unfolding placed
at_job c new cs e = rw (le-ltb (job_of c) (job_of new) (omega arith), eq-eqb (job_of c) (job_of new) e)

pub placed_again : {new : List ℕ} {cs ds : List (List ℕ)} → Placing new cs ds → AreBytes new → placed ds new ≡ ds
unfolding placed
placed_again {new} last bytes = at_job new new [] refl ∙ rw (joined_self new)
placed_again {new} (before {c} {cs} k) bytes = at_job new new (c ∷ cs) refl ∙ rw (joined_self new)
placed_again {new} (meets {c} {cs} e) bytes =
    at_job (joined c new) new cs (joined_job (joining c new) bytes e) ∙ rw (joined_again c new bytes)
placed_again {new} (after {c} k p) bytes = rw (lt-ltb (job_of c) (job_of new) k) (ap (λ l. c ∷ l) (placed_again p bytes))

pub placed_same : {new held : List ℕ} {above : ℕ} {cs ds : List (List ℕ)} → Placing new cs ds → HeldRising above cs → held ∈ cs
    → job_of held ≡ job_of new → joined held new ≡ held → ds ≡ cs
placed_same last r m e f = absurd (in-none m)
placed_same (before k) (next low h r) m e f = absurd (omega (arith, above_all (next k h r) m))
placed_same {new} (meets {c} {cs} g) (next low h r) m e f =
    ⊎_elim (λ s. ap (λ l. l ∷ cs) (ap (λ l. joined l new) (sym s) ∙ f ∙ s)) (λ n. absurd (omega (arith, above_all r n))) (in-first m)
placed_same {above = above} (after {c} k p) (next low h r) m e f =
    ⊎_elim (λ s. absurd (omega (arith, ap job_of s))) (λ n. ap (λ l. c ∷ l) (placed_same {above = job_of c} p r n e f)) (in-first m)
