-- If no length was refused, every byte of a stream is in a question or is kept (`taken_whole`). If one was refused, the bytes before it
-- are in questions, and those from it on are dropped or left (`taken_to_refusal`). Both follow from the parts of what the taken bytes
-- hold (`taken_holds`, by induction on the pieces).
use mathlib.Core.Path.{◌≡◌, refl, sym, ap, ◌∙◌}
use mathlib.Core.Bool.{true, false, true≢false}
use mathlib.Core.List.{List, [], ◌∷◌, ◌++◌, map, append-nil, append_assoc}
use Prim.Native.Nat.{ℕ, suc}
use native.Mathlib.Omega.{arith}
use lib.ListN.{length}
use Rattle.link_reader.specs.declared.Reader.{Reader}
use Rattle.std.specs.Prelude.{None, Ok}
use Rattle.link_reader.specs.Reading.{as_new, after_refusal}
use Rattle.link_reader.specs.Verdicts.{Verdict}
use Rattle.cutting_laws.specs.Feeding.{Given, question, Fed, feed, feed_all, concatenation}
use Rattle.cutting_laws.specs.Feeding.{keeping, StreamHolds, TakenWhole, TakenToRefusal}
use Rattle.cutting_laws.proofs.Pieces.{new_holds, feed_kept}
use Rattle.cutting_laws.proofs.Refusals.{refused_all}
use Rattle.cutting_laws.proofs.Holding.{feed_holds}
use Rattle.cutting_laws.proofs.Parts.{Ends, kept, refused_rest, kept_ends, refused_ends, parts}

-- A reader that keeps an unfinished rest leaves no byte of a piece.
pub kept_left : {rest : List ℕ} (p : List ℕ) → Verdict rest (Ok None) → (feed (keeping rest) p).left ≡ []
unfolding feed
kept_left {rest} p j = (feed_kept (suc (length p)) rest p j (omega arith)).nothing_left

-- The bytes that calls took after the stream s, and what s and these bytes hold together. The other bytes of the pieces are left; there
-- are none unless a length was refused.
pub record Taken (s : List ℕ) (gs : List Given) (r : Reader) (ps : List (List ℕ)) : Type 0 where
  pub taken : List ℕ
  pub bytes : taken ++ (feed_all r ps).left ≡ concatenation ps
  pub holds : StreamHolds (s ++ taken) (gs ++ (feed_all r ps).given) (feed_all r ps).reader
  pub all : (feed_all r ps).reader.refused ≡ false → (feed_all r ps).left ≡ []

-- A piece that is taken whole, and then the other pieces.
taken_more : {s : List ℕ} {gs : List Given} {r : Reader} (p : List ℕ) (ps : List (List ℕ)) → (feed r p).left ≡ []
    → Taken (s ++ p) (gs ++ (feed r p).given) (feed r p).reader ps → Taken s gs r (p ∷ ps)
unfolding feed_all concatenation
taken_more {s} {gs} {r} p ps none t =
    record {
      taken = p ++ t.taken;
      bytes = rw none (append_assoc p t.taken (feed_all (feed r p).reader ps).left ∙ ap (λ (l : List ℕ). p ++ l) t.bytes);
      holds = rw (← append_assoc s p t.taken, ← append_assoc gs (feed r p).given (feed_all (feed r p).reader ps).given) t.holds;
      all = λ e. rw none (t.all e);
    }

-- After a refusal no byte is taken.
taken_none : {s : List ℕ} {gs : List Given} (ps : List (List ℕ)) → StreamHolds s gs after_refusal → Taken s gs after_refusal ps
taken_none {s} {gs} ps h =
    record {
      taken = [];
      bytes = rw (refused_all ps) refl;
      holds = rw (refused_all ps, append-nil s, append-nil gs) h;
      all = λ e. absurd (true≢false (sym (ap (λ (g : Fed). g.reader.refused) (refused_all ps)) ∙ e));
    }

pub taken_holds : {s : List ℕ} {gs : List Given} {r : Reader} (ps : List (List ℕ)) → StreamHolds s gs r → Taken s gs r ps
unfolding feed_all concatenation
taken_holds {s} {gs} [] h = record { taken = []; bytes = refl; holds = rw (append-nil s, append-nil gs) h; all = λ e. refl }
taken_holds {s} {gs} {r} (p ∷ ps) h = by (parts h).ends h (taken_holds {s = s ++ p} {gs = gs
    ++ (feed r p).given} {r = (feed r p).reader} ps (feed_holds p h))
  where
    by : {rest : List ℕ} {last : List Given} {t : Reader} → Ends rest last t → StreamHolds s gs t
        → Taken (s ++ p) (gs ++ (feed t p).given) (feed t p).reader ps → Taken s gs t (p ∷ ps)
    by (kept j) h later = taken_more p ps (kept_left p j) later
    by (refused_rest j) h later = taken_none (p ∷ ps) h

-- ---- From a reset on

module _ (ps : List (List ℕ)) where
  abbrev f : Fed
  f = feed_all as_new ps

  from_new : Taken [] [] as_new ps
  from_new = taken_holds ps new_holds

  pub taken_whole : f.reader.refused ≡ false → TakenWhole (concatenation ps) f
  taken_whole e =
      let p = parts from_new.holds in
      let end = kept_ends p.ends e in
      let none : f.left ≡ [] = from_new.all e in
      record {
        questions = p.questions;
        all = p.all;
        given = p.given ∙ ap (λ (l : List Given). map question p.questions ++ l) end.0 ∙ append-nil (map question p.questions);
        bytes =
            ap (λ (l : List ℕ). concatenation p.questions ++ l) end.1 ∙ p.bytes ∙ sym (append-nil from_new.taken)
            ∙ ap (λ (l : List ℕ). from_new.taken ++ l) (sym none) ∙ from_new.bytes;
        not_finished = rw end.1 end.2;
        nothing_left = none;
      }

  pub taken_to_refusal : f.reader.refused ≡ true → TakenToRefusal (concatenation ps) f
  taken_to_refusal e =
      let p = parts from_new.holds in
      let end = refused_ends p.ends e in
      record {
        questions = p.questions;
        all = p.all;
        given = p.given ∙ ap (λ (l : List Given). map question p.questions ++ l) end.0;
        dropped = p.rest;
        bad_length = end.1;
        bytes = ap (λ (l : List ℕ). l ++ f.left) p.bytes ∙ from_new.bytes;
        reader = end.2;
      }
