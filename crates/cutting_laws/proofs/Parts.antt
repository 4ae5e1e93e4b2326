-- What a stream holds, in parts: its questions, and a rest that is unfinished or begins with a refused length (`parts`, by induction on
-- what the stream holds). Every state that a reader can reach is the state after a rest of this kind (`reached`, by induction on the
-- calls).
use mathlib.Core.Path.{◌≡◌, refl, ap, ◌∙◌}
use mathlib.Core.Bool.{true, false}
use mathlib.Core.List.Memᴰ.{cases_cons as in-first}
use mathlib.Core.List.Memᴰ.{not-nil as in-none}
use mathlib.Core.List.{List, [], ◌∷◌, ◌++◌, map, append_assoc}
use mathlib.Core.Logic.{⊎_elim}
use Prim.Native.Nat.{ℕ}
use lib.ListN.{take, take-append-drop}
use Rattle.link_reader.specs.declared.Reader.{Reader}
use Rattle.link_reader.specs.declared.Step.{Step}
use Rattle.std.specs.Prelude.{None, Ok, Err}
use Rattle.link_reader.specs.declared.Refusal.TheVariants.{BadLength}
use Rattle.link_reader.specs.Reading.{refusal_of, kept_of, as_new, after_refusal, read_of}
use Rattle.link_reader.specs.Verdicts.{Verdict}
use Rattle.cutting_laws.specs.Feeding.{Given, question, refusal, concatenation, keeping, StreamHolds, unfinished}
use Rattle.cutting_laws.specs.Feeding.{refused_length, next_question, IsQuestion, AllQuestions, Reached, new, called}
use Rattle.cutting_laws.proofs.More.{whole_is}
use Rattle.cutting_laws.proofs.Calls.{new_keeps, kept_is, Call, nothing, bad, finished, call}
use Rattle.cutting_laws.proofs.Pieces.{none_judged}
use Rattle.cutting_laws.proofs.Refusals.{needs_reset_lem}

-- What a rest gives out, and the state after it.
pub data Ends (rest : List ℕ) : List Given → Reader → Type 0 where
  kept : Verdict rest (Ok None) → Ends rest [] (keeping rest)
  refused_rest : Verdict rest (Err BadLength) → Ends rest (map refusal (refusal_of (Err BadLength))) after_refusal

pub ends_hold : {rest : List ℕ} {last : List Given} {r : Reader} → Ends rest last r → StreamHolds rest last r
ends_hold (kept j) = unfinished j
ends_hold (refused_rest j) = refused_length j

pub kept_ends : {rest : List ℕ} {last : List Given} {r : Reader} → Ends rest last r → r.refused ≡ false
    → (last ≡ []) × (kept_of r ≡ rest) × Verdict rest (Ok None)
kept_ends (kept j) e = (refl, kept_is j, j)
kept_ends (refused_rest j) e = absurd cc

pub refused_ends : {rest : List ℕ} {last : List Given} {r : Reader} → Ends rest last r → r.refused ≡ true
    → (last ≡ map refusal (refusal_of (Err BadLength))) × Verdict rest (Err BadLength) × (r ≡ after_refusal)
refused_ends (kept j) e = absurd cc
refused_ends (refused_rest j) e = (refl, j, refl)

-- ---- The parts of a stream

pub record Parts (stream : List ℕ) (gs : List Given) (r : Reader) : Type 0 where
  pub questions : List (List ℕ)
  pub all : AllQuestions questions
  pub rest : List ℕ
  pub bytes : concatenation questions ++ rest ≡ stream
  pub last : List Given
  pub given : gs ≡ map question questions ++ last
  pub ends : Ends rest last r

alone : {s : List ℕ} {gs : List Given} {r : Reader} → Ends s gs r → Parts s gs r
unfolding concatenation
alone {s} {gs} e = record { questions = []; all = λ q i. absurd (in-none i); rest = s; bytes = refl; last = gs; given = refl; ends = e }

pub parts : {s : List ℕ} {gs : List Given} {r : Reader} → StreamHolds s gs r → Parts s gs r
unfolding concatenation
parts (unfinished e) = alone (kept e)
parts (refused_length e) = alone (refused_rest e)
parts (next_question {stream} {size = size} e h) =
    let later = parts h in
    let first = take size stream in
    let is : IsQuestion first = whole_is e in
    record {
      questions = first ∷ later.questions;
      all = λ q i. ⊎_elim (λ f. rw f is) (later.all q) (in-first i);
      rest = later.rest;
      bytes =
          append_assoc first (concatenation later.questions) later.rest ∙ ap (λ (l : List ℕ). first ++ l) later.bytes
          ∙ take-append-drop size stream;
      last = later.last;
      given = ap (λ (l : List Given). question first ∷ l) later.given;
      ends = later.ends;
    }

-- ---- The states that a reader can reach

pub record Standing (r : Reader) : Type 0 where
  pub rest : List ℕ
  pub last : List Given
  pub ends : Ends rest last r

standing : {rest : List ℕ} {last : List Given} {r : Reader} → Ends rest last r → Standing r
standing {rest} {last} e = record { rest = rest; last = last; ends = e }

new_stands : Standing as_new
new_stands = rw (← new_keeps) (standing (kept none_judged))

call_stands : {s p : List ℕ} {c : Step} → Call s p c → Standing c.next
call_stands (nothing k) = standing (kept k)
call_stands (bad k) = standing (refused_rest k)
call_stands (finished k l same) = new_stands

pub reached : {r : Reader} → Reached r → Standing r
reached new = new_stands
reached (called {r} h piece) = by (reached h).ends
  where
    by : {rest : List ℕ} {last : List Given} {t : Reader} → Ends rest last t → Standing (read_of t piece).next
    by {rest} (kept j) = call_stands (call rest piece j)
    by (refused_rest j) = rw (needs_reset_lem after_refusal piece refl).2 (standing (refused_rest j))
