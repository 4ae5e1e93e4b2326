-- `reason_of` meets its contract. The text for each number is that of the definition.
use borrow.Author.Tests.{ne_eqb}
use mathlib.Core.Path.{◌≡◌}
use mathlib.Core.List.{[]}
use Prim.Native.Nat.{ℕ}
use native.Mathlib.Omega.{arith}
use Rattle.record_stream.specs.Reasons.{text_bytes, reason_of}
use Rattle.record_stream.proofs.reasons.reason_of.Goals as goal

pub returns-in-0 : goal.returns-in-0
unfolding reason_of text_bytes
returns-in-0 c = let is : c.args.number ≡ 0 = omega arith in rw is c.put.ensures

pub returns-in-1 : goal.returns-in-1
unfolding reason_of text_bytes
returns-in-1 c = let is : c.args.number ≡ 1 = omega arith in rw is c.put-in-1.ensures

pub returns-in-2 : goal.returns-in-2
unfolding reason_of text_bytes
returns-in-2 c = let is : c.args.number ≡ 2 = omega arith in rw is c.put-in-2.ensures

pub returns-in-3 : goal.returns-in-3
unfolding reason_of text_bytes
returns-in-3 c = let is : c.args.number ≡ 3 = omega arith in rw is c.put-in-3.ensures

-- Any other number has an empty text.
other : (n : ℕ) → (n ≡ 0 → ⊥) → (n ≡ 1 → ⊥) → (n ≡ 2 → ⊥) → (n ≡ 3 → ⊥) → reason_of n ≡ []
unfolding reason_of
other n not-0 not-1 not-2 not-3 = rw (ne_eqb n 0 not-0, ne_eqb n 1 not-1, ne_eqb n 2 not-2, ne_eqb n 3 not-3)

pub returns-in_default : goal.returns-in_default
returns-in_default c =
    let is = other c.args.number (omega arith) (omega arith) (omega arith) (omega arith) in
    rw is c.put-in_default.ensures
