-- The loop of `find_values`. The invariant says that the result for the bytes of the template that are left, after the values
-- found so far, is the result for the whole template.
use Prim.Native.Nat.{◌+◌, ◌≤◌}
use mathlib.Core.Path.{◌≡◌}
use lib.ListN.{length, drop}
use Rattle.orbit_message.specs.Templates.{placeholders_in, values_in}
use Rattle.orbit_message.specs.Matches.{progress, Inside}
use Rattle.orbit_message.proofs.matching.find_values.Given as goal

abbrev pub invariant-loop-byte : goal.invariant-loop-byte
invariant-loop-byte l =
    (l.byte-index ≤ length l.template)
    × (l.done.at ≤ length l.s)
    × (l.done.count + placeholders_in (drop l.byte-index l.template) ≡ placeholders_in l.template)
    × Inside l.s l.done
    × (progress (drop l.byte-index l.template) l.s l.done ≡ values_in l.template l.s)
