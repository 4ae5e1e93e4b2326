-- `find_values` meets its contract. The invariant's parts follow from the lemmas of `proofs/MatchSteps.antt`.
use native.Mathlib.Omega.{arith}
use native.Mathlib.Nat.{zero-add}
use mathlib.Core.Path.{refl}
use Rattle.orbit_message.specs.Templates.{placeholders_in}
use Rattle.orbit_message.proofs.MatchSteps.{progress_start, placeholder_left, progress_next, progress_stops, match_at_end, bytes_left}
use Rattle.orbit_message.proofs.matching.find_values.Goals as goal

pub loop-byte-init : goal.loop-byte-init
loop-byte-init c =
    let t = c.args.template.now in
    let s = c.args.s.now in
    (omega arith, omega arith, zero-add (placeholders_in t), λ k l. absurd (omega arith), progress_start t s _ refl refl)

pub advance-requires : goal.advance-requires
advance-requires c =
    let l = c.loop-byte in
    let t = c.args.template.now in
    (l.invariant.1, placeholder_left t l.byte-index l.done.count c.loop-byte-test.true c.requires l.invariant.2)

pub returns-in_err-done : goal.returns-in_err-done
returns-in_err-done c =
    let l = c.loop-byte in
    let a = c.args in
    let stop = c.in_err-done.ensures in
    rw c.from_residual.ensures (progress_stops a.template.now a.s.now l.byte-index l.done c.loop-byte-test.true stop l.invariant.4)

pub loop-byte-preserved : goal.loop-byte-preserved
loop-byte-preserved c =
    let l = c.loop-byte in
    let a = c.args in
    let e = c.in_ok-done.ensures in
    let test = c.loop-byte-test.true in
    let next = progress_next a.template.now a.s.now l.byte-index l.done c.in_ok-done.done test e l.invariant.2 l.invariant.4 in
    (omega arith, e.within, next.0, e.inside l.invariant.3, next.1)

pub returns-then-done-s : goal.returns-then-done-s
returns-then-done-s c =
    let l = c.loop-byte in
    let a = c.args in
    let v = l.invariant in
    match_at_end a.template.now a.s.now l.byte-index l.done c.loop-byte-test.false v.4 c.if-done-s.true v.2 v.3

pub returns-else-done-s : goal.returns-else-done-s
returns-else-done-s c =
    let l = c.loop-byte in
    let a = c.args in
    let v = l.invariant in
    bytes_left a.template.now a.s.now l.byte-index l.done c.loop-byte-test.false v.4 (omega (arith, v.1, c.if-done-s.false))
