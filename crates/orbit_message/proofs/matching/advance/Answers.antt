-- `advance` meets its contract. The returns are the cases of `proofs/MatchSteps.antt`: a 0 of the template, and another byte of the
-- template where s has the same byte, or not.
use mathlib.Core.Path.{◌≡◌}
use lib.ListN.{length}
use Rattle.orbit_message.proofs.MatchSteps.{value_step, byte_step, other_byte, no_byte}
use borrow.Author.Rules.{rules}
use Rattle.orbit_message.proofs.matching.advance.Goals as goal
use Rattle.orbit_message.proofs.matching.advance.Goals.{else-old-s-via-then-old-s+else-s-old, else-old-s-via-else-old-s}

pub returns-then-byte-eq0 : goal.returns-then-byte-eq0
returns-then-byte-eq0 c =
    let s = c.args.s.now in
    let old = c.args.old in
    let size : length old.spans ≡ 14 = search (rules, c.well_formed) in
    let left = c.requires.1 c.if-byte-eq0.true in
    let e = c.line_end-end.ensures in
    rw c.if-byte-eq0.true (value_step s old c.line_end-end.result size left e.0 e.1 e.2)

pub returns-then-s-old : goal.returns-then-s-old
returns-then-s-old c =
    let a = c.args in
    byte_step a.s.now a.old a.byte c.if-byte-eq0.false c.if-old-s.true c.if-s-old.true

pub returns-else-old-s : goal.returns-else-old-s
returns-else-old-s c =
    let a = c.args in
    let other = c.if-byte-eq0.false in
    elim c.else-old-s.branch [
      | else-old-s-via-then-old-s+else-s-old w ↦ other_byte a.s.now a.old a.byte other w.if-old-s.true w.if-s-old.false
      | else-old-s-via-else-old-s w ↦ no_byte a.s.now a.old a.byte other w.if-old-s.false
    ]
