-- A question whose length is in force fits the buffer (`in_force_fits`): every length in the list does (`among_fits`, by induction on the
-- list). The list has one element, so a length is in force if it is that one (`is_question_length_lem`).
use mathlib.Core.Path.{◌≡◌, refl}
use mathlib.Core.Bool.{Bool, true, ◌&&◌, or-false}
use mathlib.Core.List.{List, [], ◌∷◌}
use Prim.Native.Nat.{ℕ, ◌+◌, ◌≤◌}
use native.Mathlib.Omega.{arith}
use Rattle.std.proofs.lemmas.Bool.Decides.{nat_tests}
use Rattle.std.proofs.lemmas.Grind.{common_steps}
use lib.Dec.{leb, eqb}
use Rattle.records.specs.Layout.{LENGTH, question_length, question_lengths, question_room}
use Rattle.link_reader.specs.Reading.{is_among, is_question_length}

fitting : List ℕ → Bool
fitting [] = true
fitting (m ∷ ms) = leb (LENGTH.width + m) question_room && fitting ms

among_fits : (n : ℕ) (ms : List ℕ) → fitting ms ≡ true → is_among n ms ≡ true → LENGTH.width + n ≤ question_room
unfolding fitting is_among
among_fits n [] f e = absurd cc
among_fits n (m ∷ ms) f e = grind (arith, nat_tests, common_steps, among_fits n ms)

pub in_force_fits : (n : ℕ) → is_question_length n ≡ true → LENGTH.width + n ≤ question_room
unfolding fitting question_lengths
in_force_fits n e = among_fits n question_lengths refl e

pub is_question_length_lem : (n : ℕ) → is_question_length n ≡ eqb n question_length
unfolding is_among question_lengths
is_question_length_lem n = or-false (eqb n question_length)
