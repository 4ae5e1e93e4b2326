-- The invariant `Keeps` relates the messages that were seen, in any order, to what is held. It is preserved when a
-- postable record is placed (`keeps_more`) and when a record is refused (`keeps_refused`), for any number of jobs. The
-- proofs split on the cases of `placed` and, if the job is already held, of `joined`.
use mathlib.Core.Path.{◌≡◌, refl, sym, ap, ◌∙◌}
use mathlib.Core.Bool.{Bool, true, false}
use mathlib.Core.List.Memᴰ.{cases_cons as in-first}
use mathlib.Core.List.Memᴰ.{head as here}
use mathlib.Core.List.Memᴰ.{tail as there}
use mathlib.Core.List.{List, ◌∷◌}
use mathlib.Core.Logic.{◌⊎◌, inl, inr, ⊎_elim}
use Prim.Native.Nat.{ℕ, ◌≤◌, ◌<◌}
use native.Mathlib.Omega.{arith}
use lib.ListN.{length}
use Rattle.records.proofs.SingleFields.{conflict_revision}
use Rattle.records.specs.Records.{conflict_bytes}
use Rattle.records.specs.Layout.{job_of, revision_of}
use Rattle.little_endian.specs.Bytes.{AreBytes}
use Rattle.outcomes.specs.Outcomes.{is_outcome}
use Rattle.board.specs.Board.{SLOTS, placed, HeldRising}
use Rattle.arrival_laws.specs.Messages.{◌∈◌, AllBytes, Postable, CameFor, OneRecord}
use Rattle.arrival_laws.specs.Messages.{InConflict, TwoDiffer, HeldFor, SomeOf, NoneOf}
use Rattle.slots.proofs.Conflicts.{conflict_no_outcome}
use Rattle.slots.proofs.Held.{outcome_held}
use Rattle.arrival_laws.proofs.Joining.{small_revision, Joining, newer, older, again, clash, joining, joined_job}
use Rattle.arrival_laws.proofs.Placing.{placing, placed_rising, Comes, kept, first, met, comes, stays, arrives, Grown, grown}

-- No Boolean is both true and false.
pub never : {P : Type 0} {t : Bool} → t ≡ true → t ≡ false → P
never e f = absurd (let z : ◌≡◌ {A = ℕ} 0 1 = cc (e, f) in omega arith)

-- ---- what is held for a job, by the records that came for it

module _ {ms : List (List ℕ)} {job : ℕ} {held : List ℕ} where
  pub some_came : HeldFor ms job held → (m : List ℕ) × CameFor ms job m
  some_came (inl o) = (held, o.came)
  some_came (inr o) = (o.two.one, o.two.one_came)

  conflict_in : {ns : List (List ℕ)} {new : List ℕ} → (o : InConflict ms job held) → ((m : List ℕ) → CameFor ms job m → CameFor ns job m)
      → ((m : List ℕ) → CameFor ns job m → revision_of m ≤ o.revision) → new ≡ conflict_bytes job o.revision → InConflict ns job new
  conflict_in o forth highest e =
      let t = o.two in
      record {
        revision = o.revision;
        two = record {
          one = t.one;
          other = t.other;
          one_came = forth t.one t.one_came;
          other_came = forth t.other t.other_came;
          one_at = t.one_at;
          other_at = t.other_at;
          differ = t.differ;
          highest = highest;
        };
        conflict = e;
      }

  -- If two different records of the highest revision came, no record is the only one of the highest revision.
  pub not_one : {revision : ℕ} → TwoDiffer ms job revision → OneRecord ms job held → ⊥
  not_one {revision} t o = t.differ (is t.one t.one_came t.one_at ∙ sym (is t.other t.other_came t.other_at))
    where
      is : (m : List ℕ) → CameFor ms job m → revision_of m ≡ revision → m ≡ held
      is m c e = ⊎_elim (λ s. s) (λ l. absurd (omega (arith, t.highest held o.came))) (o.highest m c)

  -- What is held for a job depends only on the messages that came for this job.
  holds_same : {ns : List (List ℕ)} → ((m : List ℕ) → CameFor ms job m → CameFor ns job m)
      → ((m : List ℕ) → CameFor ns job m → CameFor ms job m) → HeldFor ms job held → HeldFor ns job held
  holds_same forth back (inl o) = inl (record { came = forth held o.came; highest = λ m c. o.highest m (back m c) })
  holds_same forth back (inr o) = inr (conflict_in o forth (λ m c. o.two.highest m (back m c)) o.conflict)

  module _ (all : AllBytes ms) where
    -- A conflict that is held has the revision of the two records that differ.
    pub conflict_at : (o : InConflict ms job held) → revision_of held ≡ o.revision
    conflict_at o =
        let t = o.two in
        ap revision_of o.conflict
        ∙ conflict_revision job o.revision (rw t.one_at at (small_revision t.one (all t.one t.one_came.among)))

    pub none_higher : HeldFor ms job held → (m : List ℕ) → CameFor ms job m → revision_of m ≤ revision_of held
    none_higher (inl o) m c = ⊎_elim (λ e. omega (arith, ap revision_of e)) (λ l. omega arith) (o.highest m c)
    none_higher (inr o) m c = omega (arith, conflict_at o, o.two.highest m c)

-- ---- one more record

module _ {seen : List (List ℕ)} {m : List ℕ} where
  more : {job : ℕ} {n : List ℕ} → CameFor seen job n → CameFor (m ∷ seen) job n
  more c = record { among = there c.among; postable = c.postable; for = c.for }

  which : {job : ℕ} {n : List ℕ} → CameFor (m ∷ seen) job n → (n ≡ m) ⊎ CameFor seen job n
  which c = ⊎_elim inl (λ i. inr (record { among = i; postable = c.postable; for = c.for })) (in-first c.among)

  record_more : {job : ℕ} {held : List ℕ} → OneRecord seen job held → (m ≡ held) ⊎ (revision_of m < revision_of held)
      → OneRecord (m ∷ seen) job held
  record_more o g = record { came = more o.came; highest = λ n c. ⊎_elim (λ e. rw e g) (o.highest n) (which c) }

  conflict_more : {job : ℕ} {held new : List ℕ} → (o : InConflict seen job held) → revision_of m ≤ o.revision
      → new ≡ conflict_bytes job o.revision → InConflict (m ∷ seen) job new
  conflict_more o low e = conflict_in o (λ n c. more c) (λ n c. ⊎_elim (λ f. rw f low) (o.two.highest n) (which c)) e

  module _ (all : AllBytes seen) (postable : Postable m) where
    now : CameFor (m ∷ seen) (job_of m) m
    now = record { among = here refl; postable = postable; for = refl }

    -- If the new record is joined to what is held for its job, the result is what must be held for this job once the
    -- record has come.
    holds_joined : {held c : List ℕ} → Joining held m c → HeldFor seen (job_of m) held → HeldFor (m ∷ seen) (job_of m) c
    holds_joined (newer l) h =
        inl (record { came = now; highest = λ n c. ⊎_elim inl (λ s. inr (omega (arith, none_higher all h n s))) (which c) })
    holds_joined (older l) (inl o) = inl (record_more o (inr l))
    holds_joined (older l) (inr o) = inr (conflict_more o (omega (arith, conflict_at all o)) o.conflict)
    holds_joined (again s) (inl o) = inl (record_more o (inl (sym s)))
    holds_joined (again s) (inr o) =
        never (ap is_outcome s ∙ postable.formed) (ap is_outcome o.conflict ∙ conflict_no_outcome (job_of m) o.revision)
    holds_joined {held} (clash s d) (inl o) =
        inr
        (record {
          revision = revision_of m;
          two = record {
            one = held;
            other = m;
            one_came = more o.came;
            other_came = now;
            one_at = s;
            other_at = refl;
            differ = d;
            highest = λ n c. ⊎_elim (λ e. omega (arith, ap revision_of e)) (λ t. omega (arith, none_higher all (inl o) n t)) (which c);
          };
          conflict = refl;
        })
    holds_joined (clash s d) (inr o) =
        let same = conflict_at all o in
        inr (conflict_more o (omega (arith, same)) (ap (conflict_bytes (job_of m)) (sym s ∙ same)))

-- ---- the invariant

-- What is held has rising job numbers, and for each job it is what the messages for this job determine. As long as
-- fewer than 64 jobs are held, the job of every postable message is held. On a full board a job may have no slot.
pub record Keeps (seen held : List (List ℕ)) : Type 0 where
  pub rising : HeldRising 0 held
  pub holds : (c : List ℕ) → c ∈ held → HeldFor seen (job_of c) c
  pub each : length held < SLOTS → (m : List ℕ) → m ∈ seen → Postable m → SomeOf (job_of m) held

-- The invariant depends only on which postable messages there are, not on their order or repeats.
pub keeps_same : {ms ns held : List (List ℕ)} → ((m : List ℕ) → Postable m → m ∈ ms → m ∈ ns)
    → ((m : List ℕ) → Postable m → m ∈ ns → m ∈ ms) → Keeps ms held → Keeps ns held
keeps_same forth back k = record {
  rising = k.rising;
  holds = λ c i.
      holds_same (λ m s. record { among = forth m s.postable s.among; postable = s.postable; for = s.for })
      (λ m s. record { among = back m s.postable s.among; postable = s.postable; for = s.for }) (k.holds c i);
  each = λ room m i postable. k.each room m (back m postable i) postable;
}

-- A message that is not postable, or is for another job, does not change what is held for a job.
others : {seen : List (List ℕ)} {m : List ℕ} {job : ℕ} {held : List ℕ} → (Postable m → job_of m ≡ job → ⊥) → HeldFor seen job held
    → HeldFor (m ∷ seen) job held
others f h =
    holds_same (λ n s. more s) (λ n s. ⊎_elim (λ e. absurd (f (rw e at s.postable) (sym (ap job_of e) ∙ s.for))) (λ t. t) (which s)) h

-- A refused message: it is not postable, or the board is full and holds nothing for its job.
pub keeps_refused : {seen held : List (List ℕ)} (m : List ℕ) → Keeps seen held
    → (Postable m → (length held ≡ SLOTS) × NoneOf (job_of m) held) → Keeps (m ∷ seen) held
keeps_refused m k f = record {
  rising = k.rising;
  holds = λ c i. others (λ postable e. (f postable).1 c i (sym e)) (k.holds c i);
  each = λ room n i postable. ⊎_elim (λ e. absurd (omega (arith, (f (rw e at postable)).0))) (λ j. k.each room n j postable) (in-first i);
}

pub keeps_more : {seen held : List (List ℕ)} (m : List ℕ) → Keeps seen held → AllBytes seen → AreBytes m → Postable m
    → length (placed held m) ≤ SLOTS → Keeps (m ∷ seen) (placed held m)
keeps_more {seen} {held} m k all bytes postable fits = record {
  rising = placed_rising (placing held m) bytes (outcome_held m postable.formed) postable.named k.rising;
  holds = λ c i. by c (comes (placing held m) k.rising i);
  each =
      λ room n i counted. ⊎_elim (λ e. rw e (arrives (placing held m) bytes)) (λ j. lasts (k.each (omega (arith, no_fewer)) n j counted))
      (in-first i);
}
  where
    how : Grown (job_of m) held (placed held m)
    how = grown (placing held m) k.rising

    no_fewer : length held ≤ length (placed held m)
    no_fewer = ⊎_elim (λ n. omega (arith, n.1)) (λ s. omega (arith, s.1)) how

    room : NoneOf (job_of m) held → length held < SLOTS
    room f = ⊎_elim (λ n. omega (arith, n.1)) (λ s. absurd (f s.0.0 s.0.1.0 s.0.1.1)) how

    lasts : {job : ℕ} → SomeOf job held → SomeOf job (placed held m)
    lasts s = let t = stays (placing held m) bytes s.0 s.1.0 in (t.0, (t.1.0, t.1.1 ∙ s.1.1))

    by : (c : List ℕ) → Comes m held c → HeldFor (m ∷ seen) (job_of c) c
    by c (kept i f) = others (λ postable e. f (sym e)) (k.holds c i)
    by c (first f e) =
        rw e
        (inl
        (record {
          came = now all postable;
          highest =
              λ n s. ⊎_elim inl (λ t. let was = k.each (room f) n t.among t.postable in
              absurd (f was.0 was.1.0 (was.1.1 ∙ t.for))) (which s);
        }))
    by c (met {d} i f e) = rw (e, joined_job (joining d m) bytes f) (holds_joined all postable (joining d m) (rw f at (k.holds d i)))
