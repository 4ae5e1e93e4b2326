-- `digit_count` meets its contract. The loop's invariant: the digits that are needed are those that are needed from `count` on.
use Prim.Native.Nat.{◌-◌, ◌≤◌}
use mathlib.Core.Path.{◌≡◌}
use Rattle.decimal.specs.Texts.{digit_count_from, digit_count}
use Rattle.decimal.proofs.texts.digit_count.Given as goal

abbrev pub invariant-loop-count : goal.invariant-loop-count
invariant-loop-count l = (1 ≤ l.count) × (l.count ≤ 7) × (digit_count l.n ≡ digit_count_from (7 - l.count) l.count l.n)
