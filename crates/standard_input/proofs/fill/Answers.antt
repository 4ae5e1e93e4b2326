-- `fill` meets its contract: a read puts its bytes after those that were read before.
use Rattle.std.proofs.Common.{◌-◌, rules, length, subst}
use Rattle.std.specs.Io.KnownBytes.{Consumes}
use Rattle.std.proofs.KnownBytes.{Consumes-trans}
use Rattle.standard_input.proofs.Parts.{joined}
use Rattle.standard_input.proofs.fill.Goals as goal

pub loop-done-preserved : goal.loop-done-preserved
loop-done-preserved g c =
    let from = c.loop-done.done in
    let room = length c.loop-done.buffer - from in
    let n = c.in_ok-more.more in
    let is = joined from room n c.loop-done.buffer c.read_some.new.part c.loop-done.invariant.0 c.in_ok-more.ensures.within.0 in
    (search rules, subst (Consumes _ _) is (Consumes-trans _ _ _ _ _ c.loop-done.invariant.1 c.in_ok-more.ensures.bytes.0))
