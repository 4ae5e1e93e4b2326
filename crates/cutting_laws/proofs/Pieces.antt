-- If a piece is fed to a reader that keeps unfinished bytes, the result is what these bytes and the piece hold together, and no byte of
-- the piece is left (`feed_kept`). The proof is by induction on the number of calls, which must be above the number of bytes in the
-- piece. That is enough, because a call that finishes a question takes at least one byte.
use mathlib.Core.Path.{◌≡◌, refl}
use mathlib.Core.Bool.{cond}
use mathlib.Core.List.{List, [], ◌∷◌, ◌++◌}
use Prim.Native.Nat.{ℕ, zero, suc, ◌+◌, ◌-◌, ◌<◌}
use native.Mathlib.Omega.{arith}
use lib.Dec.{eqb, eqb-suc-zero}
use lib.ListN.{length, take, drop, length-append, length-drop}
use lib.Seq.{drop-length, drop-append-add}
use Rattle.link_reader.specs.declared.Step.{Step}
use Rattle.std.specs.Prelude.{Some, None, Ok}
use Rattle.link_reader.specs.Reading.{as_new}
use Rattle.cutting_laws.specs.Feeding.{question, given_by, Fed, fed, prepend, feed_for, keeping, StreamHolds}
use Rattle.cutting_laws.specs.Feeding.{unfinished, refused_length, next_question}
use Rattle.link_reader.specs.Verdicts.{Verdict, few}
use Rattle.link_reader.proofs.Verdicts.{whole_fits}
use Rattle.cutting_laws.proofs.Calls.{new_keeps, Call, nothing, bad, finished, call}

-- The result of feeding is what the stream holds, and no byte is left.
pub record Comes (stream : List ℕ) (f : Fed) : Type 0 where
  pub holds : StreamHolds stream f.given f.reader
  pub nothing_left : f.left ≡ []

pub none_judged : Verdict [] (Ok None)
none_judged = few (omega arith)

pub new_holds : StreamHolds [] [] as_new
new_holds = rw (← new_keeps) (unfinished none_judged)

-- An empty rest is not passed in again. The result is still what the rest holds.
rest_comes : (q : List ℕ) (f : Fed) → Comes q f → Comes q (cond (eqb (length q) 0) (fed [] as_new []) f)
rest_comes [] f c = record { holds = new_holds; nothing_left = refl }
rest_comes (b ∷ q) f c = rw (eqb-suc-zero (length q)) c

question_comes : {stream rest : List ℕ} {size : ℕ} {f : Fed} → Verdict stream (Ok (Some size)) → drop size stream ≡ rest → Comes rest f
    → Comes stream (prepend (question (take size stream) ∷ []) f)
question_comes j e c = record { holds = next_question j (rw (← e) at c.holds); nothing_left = c.nothing_left }

pub feed_kept : (calls : ℕ) (s p : List ℕ) → Verdict s (Ok None) → length p < calls → Comes (s ++ p) (feed_for calls (keeping s) p)
unfolding feed_for given_by
feed_kept zero s p j l = absurd (omega arith)
feed_kept (suc calls) s p j l = by (call s p j) (λ q m. rw (← new_keeps) (feed_kept calls [] q none_judged m))
  where
    by : {c : Step} → Call s p c → ((q : List ℕ) → length q < calls → Comes q (feed_for calls as_new q)) →
        (let rest = drop c.taken p in
        Comes (s ++ p) (prepend (given_by c.came c.question)
        (cond (eqb (length rest) 0) (fed [] c.next []) (feed_for calls c.next rest))))
    by (nothing k) later = rw (drop-length p) (record { holds = unfinished k; nothing_left = refl })
    by (bad k) later = rw (drop-length p) (record { holds = refused_length k; nothing_left = refl })
    by (finished {size} k m same) later =
        let rest = drop (size - length s) p in
        let sum : length s + (size - length s) ≡ size = omega arith in
        let behind : drop size (s ++ p) ≡ rest = rw sum at (drop-append-add s p (size - length s)) in
        let fewer : length rest < calls = omega (arith, length-drop (size - length s) p, length-append s p, (whole_fits k).0) in
        rw same (question_comes k behind (rest_comes rest (feed_for calls as_new rest) (later rest fewer)))
