-- The result of `judged` has a `Verdict` (`verdict`), and a `Verdict` determines the result of `judged` (`judged_by`). Later lemmas go
-- through the four cases of `Verdict`. The bytes of an unfinished question fit the buffer (`part_fits`), and so do those of a finished
-- one (`whole_fits`). The tests that the code makes lead to the result of `judged` (`judged_steps`).
use mathlib.Core.Path.{◌≡◌, refl}
use mathlib.Core.Bool.{Bool, true, false, not, cond}
use mathlib.Core.List.{List, ◌++◌}
use Prim.Native.Nat.{ℕ, ◌+◌, ◌≤◌, ◌<◌}
use native.Mathlib.Omega.{arith}
use borrow.Author.Tests.{ltb-true, ltb-false, lt-ltb, le-ltb}
use lib.Dec.{ltb}
use lib.ListN.{length, length-append}
use Rattle.records.specs.Layout.{LENGTH, question_room, value_of, size_of}
use Rattle.link_reader.specs.declared.Reader.{Reader}
use Rattle.std.specs.Prelude.{Option, Some, None, Ok, Err}
use Rattle.link_reader.specs.declared.Refusal.TheVariants.{BadLength, NeedsReset}
use Rattle.link_reader.specs.Reading.{Came, kept_of, is_question_length, judged, came_of}
use Rattle.link_reader.specs.Verdicts.{Verdict, few, bad, part, whole}
use Rattle.link_reader.proofs.Lengths.{in_force_fits}

verdict_of : (s : List ℕ) → Verdict s (judged s)
unfolding judged
verdict_of s = by (ltb (length s) LENGTH.width) refl (is_question_length (value_of LENGTH s)) refl (ltb (length s) (size_of s)) refl
  where
    by : (a : Bool) → ltb (length s) LENGTH.width ≡ a → (b : Bool) → is_question_length (value_of LENGTH s) ≡ b → (c : Bool)
        → ltb (length s) (size_of s) ≡ c →
        Verdict s (cond a (Ok None) (cond (not b) (Err BadLength) (cond c (Ok None) (Ok (Some (size_of s))))))
    by true e b f c g = few (omega (arith, ltb-true))
    by false e false f c g = bad (omega (arith, ltb-false)) f
    by false e true f true g = part (omega (arith, ltb-false)) f (ltb-true (length s) (size_of s) g)
    by false e true f false g = whole (omega (arith, ltb-false)) f (ltb-false (length s) (size_of s) g) refl

pub verdict : {s : List ℕ} {c : Came} → judged s ≡ c → Verdict s c
verdict {s} e = rw e at (verdict_of s)

pub judged_by : {s : List ℕ} {c : Came} → Verdict s c → judged s ≡ c
unfolding judged
judged_by {s} (few l) = rw (lt-ltb (length s) LENGTH.width l)
judged_by {s} (bad n f) = rw (le-ltb (length s) LENGTH.width n, f)
judged_by {s} (part n f l) = rw (le-ltb (length s) LENGTH.width n, f, lt-ltb (length s) (size_of s) l)
judged_by {s} (whole n f l e) = rw (le-ltb (length s) LENGTH.width n, f, le-ltb (length s) (size_of s) l, e)

-- No bytes have the verdict `NeedsReset`.
pub never_reset : {s : List ℕ} {P : Type 0} → Verdict s (Err NeedsReset) → P
never_reset j = elim j [ ]

pub part_fits : {s : List ℕ} → Verdict s (Ok None) → length s < question_room
part_fits (few l) = omega arith
part_fits {s} (part n f l) = omega (arith, in_force_fits (value_of LENGTH s) f)

pub whole_fits : {s : List ℕ} {size : ℕ} → Verdict s (Ok (Some size)) → (size ≤ length s) × (size ≤ question_room)
whole_fits {s} (whole n f l e) = (omega arith, omega (arith, in_force_fits (value_of LENGTH s) f))

-- If a call is not refused, the bytes held decide its result.
pub came_verdict : (r : Reader) (piece : List ℕ) {given : Option ℕ} → came_of r piece ≡ Ok given → Verdict (kept_of r ++ piece) (Ok given)
unfolding came_of
came_verdict r piece {given} e = by r.refused e
  where
    by : (b : Bool) → cond b (Err NeedsReset) (judged (kept_of r ++ piece)) ≡ Ok given → Verdict (kept_of r ++ piece) (Ok given)
    by true f = absurd cc
    by false f = verdict f

-- The result of `judged` for kept bytes followed by a piece, from the tests that the code makes.
module _ (kept piece : List ℕ) where
  pub judged_few : length kept + length piece < LENGTH.width → judged (kept ++ piece) ≡ Ok None
  judged_few l = judged_by (few (simp length-append l))

  module _ (long : LENGTH.width ≤ length kept + length piece) where
    pub judged_bad : is_question_length (value_of LENGTH (kept ++ piece)) ≡ false → judged (kept ++ piece) ≡ Err BadLength
    judged_bad f = judged_by (bad (simp length-append long) f)

    pub judged_part : is_question_length (value_of LENGTH (kept ++ piece)) ≡ true → length kept + length piece < size_of (kept ++ piece)
        → judged (kept ++ piece) ≡ Ok None
    judged_part f l = judged_by (part (simp length-append long) f (simp length-append l))

    pub judged_whole : is_question_length (value_of LENGTH (kept ++ piece)) ≡ true → size_of (kept ++ piece) ≤ length kept + length piece
        → judged (kept ++ piece) ≡ Ok (Some (size_of (kept ++ piece)))
    judged_whole f l = judged_by (whole (simp length-append long) f (simp length-append l) refl)

pub ruleset judged_steps = (judged_few, judged_bad, judged_part, judged_whole)
