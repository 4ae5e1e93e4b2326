-- The loop of `fill`. The invariant says that the bytes written, followed by the rest of the template filled with the values
-- left, are the whole template filled with all values. It also says that the rest fits into the array.
use Prim.Native.Nat.{◌+◌, ◌-◌, ◌*◌, ◌≤◌}
use mathlib.Core.Path.{◌≡◌}
use mathlib.Core.List.{◌++◌}
use lib.ListN.{length, drop}
use Rattle.orbit_message.specs.Templates.{filled, placeholders_in}
use Rattle.orbit_message.specs.Matches.{matched_values}
use Rattle.orbit_message.specs.Fillings.{filled_bytes}
use Rattle.orbit_message.proofs.filling.fill.Given as goal

abbrev pub invariant-loop-byte : goal.invariant-loop-byte
invariant-loop-byte l =
    let rest = drop l.byte-index l.template in
    let vs = matched_values l.s l.values in
    (l.byte-index ≤ length l.template)
    × (l.done.count + placeholders_in rest ≡ placeholders_in l.template)
    × (l.done.length + (length l.template - l.byte-index) + 60 * placeholders_in rest ≤ 1100)
    × (filled_bytes l.done ++ filled rest (drop l.done.count vs) ≡ filled l.template vs)
