-- `parsing::value_at` meets its contract. The loop's invariant: the value is the number that the bytes so far show, and it is below
-- 2 * 10 ^ i after i bytes.
use Prim.Native.Nat.{◌+◌, ◌*◌, ◌^◌, ◌≤◌}
use mathlib.Core.Path.{◌≡◌}
use Rattle.decimal.specs.Texts.{value_at}
use Rattle.decimal.proofs.parsing.value_at.Given as goal

abbrev pub invariant-loop-b : goal.invariant-loop-b
invariant-loop-b l = (l.value ≡ value_at l.s l.at l.b-index) × (l.value + 2 ≤ 2 * 10 ^ l.b-index)
