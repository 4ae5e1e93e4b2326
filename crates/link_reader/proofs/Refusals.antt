-- The result of a call has the refusal that `refusal_for` gives for the reader and the piece (`refusal_is`). If a length was refused
-- before, it is B4. Otherwise the proof goes through the four cases of `Verdict`.
use mathlib.Core.Path.{◌≡◌, refl, ap, ◌∙◌}
use mathlib.Core.Bool.{Bool, true, false, cond}
use mathlib.Core.List.{List, [], ◌∷◌, ◌++◌}
use Prim.Native.Nat.{ℕ}
use borrow.Author.Tests.{le-leb, lt-leb}
use lib.ListN.{length}
use Rattle.records.specs.Layout.{LENGTH}
use Rattle.link_reader.specs.declared.Reader.{Reader}
use Rattle.link_reader.specs.declared.Step.{Step}
use Rattle.std.specs.Prelude.{Some, None, Ok, Err}
use Rattle.link_reader.specs.declared.Refusal.TheVariants.{BadLength, NeedsReset}
use Rattle.link_reader.specs.Reading.{
  Came,
  number,
  number_b,
  kept_of,
  judged,
  has_bad_length,
  refusal_of,
  refusal_for,
  came_of,
  step_by,
  read_of,
}
use Rattle.link_reader.specs.Verdicts.{Verdict, few, bad, part, whole}
use Rattle.link_reader.proofs.Verdicts.{verdict}

-- Only one verdict on the bytes held is a refusal: a length that is not in force.
refusal_judged : {s : List ℕ} {came : Came} → Verdict s came → refusal_of came ≡ cond (has_bad_length s) (number 1 ∷ []) []
refusal_judged {s} (few l) = rw (lt-leb LENGTH.width (length s) l)
refusal_judged {s} (bad n f) = rw (le-leb LENGTH.width (length s) n, f)
refusal_judged {s} (part n f l) = rw (le-leb LENGTH.width (length s) n, f)
refusal_judged {s} (whole n f l e) = rw (le-leb LENGTH.width (length s) n, f)

pub refusal_came : (r : Reader) (piece : List ℕ) → refusal_of (came_of r piece) ≡ refusal_for r piece
unfolding came_of refusal_for
refusal_came r piece = by (kept_of r ++ piece) r.refused
  where
    by : (held : List ℕ) (b : Bool)
        → refusal_of (cond b (Err NeedsReset) (judged held)) ≡ cond b (number_b 4 ∷ []) (cond (has_bad_length held) (number 1 ∷ []) [])
    by held true = refl
    by held false = refusal_judged (verdict refl)

-- A step contains the result that it was made for.
step_came : (came : Came) (r : Reader) (piece : List ℕ) → (step_by came r piece).came ≡ came
unfolding step_by
step_came (Ok (Some size)) r piece = refl
step_came (Ok None) r piece = refl
step_came (Err BadLength) r piece = refl
step_came (Err NeedsReset) r piece = refl

pub refusal_is : (r : Reader) (piece : List ℕ) {s : Step} → s ≡ read_of r piece → refusal_of s.came ≡ refusal_for r piece
unfolding read_of
refusal_is r piece is =
    ap (λ (t : Step). refusal_of t.came) is ∙ ap refusal_of (step_came (came_of r piece) r piece) ∙ refusal_came r piece
