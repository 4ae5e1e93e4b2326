-- Two facts about the step of any call, whatever the state: it takes no more bytes than the piece has (`taken_within`), and a finished
-- question fits the buffer (`question_fits`).
use mathlib.Core.Path.{◌≡◌, refl}
use mathlib.Core.List.{List}
use Prim.Native.Nat.{ℕ, ◌+◌, ◌-◌, ◌≤◌}
use native.Mathlib.Nat.{min-le_left}
use native.Mathlib.Omega.{arith}
use lib.ListN.{length, take, drop, length-append, length-take}
use Rattle.records.specs.Layout.{question_room}
use Rattle.link_reader.specs.declared.Reader.{Reader}
use Rattle.link_reader.specs.declared.Step.{Step}
use Rattle.std.specs.Prelude.{Some, None, Ok, Err}
use Rattle.link_reader.specs.declared.Refusal.TheVariants.{BadLength, NeedsReset}
use Rattle.link_reader.specs.Reading.{Came, kept_of, size_given, came_of, step_by, read_of}
use Rattle.link_reader.proofs.Verdicts.{came_verdict, whole_fits}

pub taken_within : (r : Reader) (piece : List ℕ) (s : Step) → s ≡ read_of r piece → s.taken ≤ length piece
unfolding read_of step_by
taken_within r piece s is = rw is (by (came_of r piece) refl)
  where
    by : (came : Came) → came_of r piece ≡ came → (step_by came r piece).taken ≤ length piece
    by (Ok (Some size)) e = omega (arith, (whole_fits (came_verdict r piece e)).0, length-append (kept_of r) piece)
    by (Ok None) e = omega arith
    by (Err BadLength) e = omega arith
    by (Err NeedsReset) e = omega arith

pub question_fits : (r : Reader) (piece : List ℕ) (s : Step) → s ≡ read_of r piece → size_given s.came ≤ question_room
unfolding read_of step_by
question_fits r piece s is = rw is (by (came_of r piece) refl)
  where
    by : (came : Came) → came_of r piece ≡ came → size_given (step_by came r piece).came ≤ question_room
    by (Ok (Some size)) e = (whole_fits (came_verdict r piece e)).1
    by (Ok None) e = omega arith
    by (Err BadLength) e = omega arith
    by (Err NeedsReset) e = omega arith

-- If a call reads the rest of a piece from index `at` on, the bytes it takes end within the piece.
pub rest_within : (r : Reader) (piece : List ℕ) (at : ℕ) (s : Step) → at ≤ length piece
    → s ≡ read_of r (take (length piece - at) (drop at piece)) → at + s.taken ≤ length piece
rest_within r piece at s h is =
    let rest = take (length piece - at) (drop at piece) in
    omega (
      arith,
      taken_within r rest s is,
      length-take (length piece - at) (drop at piece),
      min-le_left (length piece - at) (length (drop at piece)),
    )
