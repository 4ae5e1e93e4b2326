-- The numbers in an answer fit their fields on the wire, so reading the answer gives back what was written. For an entry
-- (`entry_held`): its lower end is between two places of the grid, and it has at most 20 halvings. For the head (`head_held`): its job
-- and revision come from a question that consists of bytes.
use mathlib.Core.Path.{◌≡◌, refl}
use mathlib.Core.Bool.{Bool, true, false, cond}
use mathlib.Core.Logic.{inl, inr}
use mathlib.Core.List.{List, [], ◌∷◌}
use Prim.Native.Nat.{ℕ, zero, suc, ◌+◌, ◌-◌, ◌^◌, ◌≤◌, ◌<◌, zero-le}
use native.Mathlib.Omega.{arith}
use lib.Dec.{ltb}
use lib.IntN.{ℤ, pos, negsuc, ◌+ℤ◌}
use lib.ListN.{length, get_or}
use lib.Signed.{mag}
use mir.Syntax.{w64}
use mir.Val.{SFits}
use Rattle.little_endian.specs.Bytes.{AreBytes}
use Rattle.little_endian.proofs.Numbers.{number_lt}
use Rattle.records.specs.Layout.{JOB, REVISION, most_entries}
use Rattle.records.specs.Records.{question_of, answer_head_of}
use Rattle.records.specs.Ranges.{HeadHeld, EntryHeld}
use Rattle.records.proofs.Reading.{answer_held}
use Rattle.entrance.specs.declared.Problem.{Problem}
use Rattle.stations.proofs.Grids.{grid_room}
use Rattle.crossing_laws.specs.Listed.{Listed}
use Rattle.entries.proofs.Ends.{bracket_entry_held}
use Rattle.solver.specs.Crossed.{search_of, grid_of}
use Rattle.demand_laws.specs.Demand.{IsCrossing, bracket_at, entry_at}
use Rattle.demand_laws.proofs.Answered.{bracket_of_lem}

-- ---- `mag` of a place between two others is at most the sum of their `mag`s

above_zero : ℤ → ℕ
above_zero (pos n) = n
above_zero (negsuc n) = 0

below_zero : ℤ → ℕ
below_zero (pos n) = 0
below_zero (negsuc n) = n

mag_is : (x : ℤ) → mag x ≡ above_zero x + below_zero x
unfolding above_zero below_zero
mag_is (pos n) = omega arith
mag_is (negsuc n) = omega arith

above_rises : (x : ℤ) (n : ℕ) → above_zero x ≤ above_zero (x +ℤ pos n)
unfolding above_zero
above_rises (pos a) n = omega arith
above_rises (negsuc a) n = zero-le

below_falls : (x : ℤ) (n : ℕ) → below_zero (x +ℤ pos n) ≤ below_zero x
unfolding below_zero
below_falls (pos a) n = zero-le
below_falls (negsuc a) n = by (ltb n (suc a))
  where
    by : (t : Bool) → below_zero (cond t (negsuc (suc a - suc n)) (pos (n - suc a))) ≤ a
    by true = omega arith
    by false = zero-le

mag_between : (a x y b : ℤ) (k m n : ℕ) → x ≡ a +ℤ pos k → y ≡ x +ℤ pos m → b ≡ y +ℤ pos n → mag x ≤ mag a + mag b
mag_between a x y b k m n e f g =
    let low : below_zero x ≤ below_zero a = rw e (below_falls a k) in
    let middle : above_zero x ≤ above_zero y = rw f (above_rises x m) in
    let high : above_zero y ≤ above_zero b = rw g (above_rises y n) in
    omega (arith, mag_is x, mag_is a, mag_is b, low, middle, high)

-- ---- an entry

module _ (p : Problem) where
  lower_held : (i : ℕ) → IsCrossing p i → SFits w64 (bracket_at p i).lower
  lower_held i c =
      let r = bracket_at p i in
      let b = bracket_of_lem p i c in
      let low = (grid_of p).place i in
      let high = (grid_of p).place (i + 1) in
      let between : mag r.lower ≤ mag low + mag high =
      mag_between low r.lower r.upper high _ _ _ b.lower_is b.width b.upper_is in
      let low-room = grid_room (search_of p) i (omega (arith, c.within)) in
      let high-room = grid_room (search_of p) (i + 1) (omega (arith, c.within)) in
      record { sfits = omega (arith, between, low-room, high-room) }

  pub entry_held : (i : ℕ) → IsCrossing p i → EntryHeld (entry_at p i)
  entry_held i c =
      let small : (bracket_at p i).halvings < 2 ^ 32 = omega (arith, (bracket_of_lem p i c).most) in
      bracket_entry_held p (bracket_at p i) (lower_held i c) small

-- ---- the head

pub head_held : (s : List ℕ) (n : ℕ) → AreBytes s → n ≤ most_entries
    → HeadHeld (answer_head_of (question_of s).job (question_of s).revision n)
unfolding question_of
head_held s n bytes few =
    let job = number_lt JOB.width JOB.offset s bytes in
    let revision = number_lt REVISION.width REVISION.offset s bytes in
    answer_held (question_of s).job (question_of s).revision job revision n few

-- ---- the elements of a list are listed in it

pub listed_at : (xs : List ℕ) (i : ℕ) → i < length xs → Listed (get_or xs i 0) xs
unfolding Listed
listed_at [] i h = absurd (omega arith)
listed_at (x ∷ xs) zero h = inl refl
listed_at (x ∷ xs) (suc i) h = inr (listed_at xs i (omega arith))
