-- `refusals::read_refusal` meets its contract: each call reads the field that the layout has at that offset, and the test is that of
-- `refusal_of`.
use mir.Facts.{to_z-of_z}
use mir.Syntax.{w32}
use mir.Val.{SFits}
use borrow.Author.Tests.{eq-eqb, ne_eqb}
use borrow.Author.Rules.{rules}
use Rattle.records.specs.Layout.{void_number}
use Rattle.records.specs.Records.{refusal_of}
use Rattle.records.proofs.refusals.read_refusal.Goals as goal

pub returns-then-number-eq-VOID_NUMBER : goal.returns-then-number-eq-VOID_NUMBER
unfolding refusal_of
returns-then-number-eq-VOID_NUMBER c =
    let is_12 = eq-eqb c.u16_at-number.result void_number c.if-number-eq-VOID_NUMBER.true in
    let f : SFits w32 c.signed32_of-station.result = search rules in
    rw (to_z-of_z f)
    (simp (
      ← c.u16_at-number.ensures,
      is_12,
      c.u16_at-reason.ensures,
      c.signed32_of-station.ensures,
      c.u32_at.ensures,
      c.u32_at-revision.ensures,
      c.u32_at-job.ensures,
    ))

pub returns : goal.returns
unfolding refusal_of
returns c =
    let not_12 = ne_eqb c.u16_at-number.result void_number c.if-number-eq-VOID_NUMBER.false in
    simp (
      ← c.u16_at-number.ensures,
      not_12,
      c.refusal_with.ensures,
      c.u32_at-revision.ensures,
      c.u32_at-job.ensures,
    )
