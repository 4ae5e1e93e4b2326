-- `is_answer` meets its contract. It returns early exactly if n is outside the range that `is_answer` allows. The other
-- tests are those of `is_answer`.
use Prim.Native.Nat.{ℕ, ◌≤◌, ◌<◌}
use mathlib.Core.Path.{◌≡◌, refl}
use mathlib.Core.Bool.{Bool, true, false, ◌&&◌, and-true, and-false}
use native.Mathlib.Omega.{arith}
use borrow.Author.Tests.{le-leb, lt-leb, leb-true}
use lib.Dec.{leb}
use Rattle.records.specs.Layout.{most_entries}
use Rattle.outcomes.specs.Outcomes.{is_between, is_answer}
use Rattle.outcomes.proofs.is_answer.Goals as goal

-- A number that is above `most_entries` unless it is below 1 is outside the range.
outside : (n : ℕ) → (1 ≤ n → most_entries < n) → is_between 1 most_entries n ≡ false
outside n above = by (leb 1 n) refl
  where
    by : (b : Bool) → leb 1 n ≡ b → b && leb n most_entries ≡ false
    by false e = refl
    by true e = lt-leb n most_entries (above (leb-true 1 n e))

pub returns-then-n-lt1 : goal.returns-then-n-lt1
unfolding is_answer
returns-then-n-lt1 c =
    let n = c.number_of-n.result in
    let above : 1 ≤ n → most_entries < n = λ h. grind arith in
    simp (← c.number_of-n.ensures, outside n above, and-false)

-- If the code does not return early, n is at least 1 and at most `most_entries`, so it is in the range.
inside : (n : ℕ) → 1 ≤ n → n ≤ most_entries → is_between 1 most_entries n ≡ true
inside n l h = rw (le-leb 1 n l, le-leb n most_entries h)

pub returns : goal.returns
unfolding is_answer
returns c =
    let read = c.number_of-n in
    let between = inside read.result (omega arith) (omega arith) in
    simp (
      ← read.ensures,
      between,
      and-true,
      c.name_ends.ensures,
      c.is_sized.ensures,
      c.answer_size.ensures,
      c.kind_of.ensures,
    )
