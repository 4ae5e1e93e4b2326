-- `void_refusal_for` meets its contract: each field follows from the contract of the call that gives it.
use borrow.Author.Rules.{rules}
use mir.Syntax.{w32}
use mir.Val.{SFits}
use mir.Facts.{to_z-of_z}
use Rattle.question_record.specs.Record.{void_refusal_for}
use Rattle.question_record.proofs.void_refusal_for.Goals as goal

pub returns : goal.returns
unfolding void_refusal_for
returns c =
    let fits : SFits w32 c.args.station.j = search (rules, c.well_formed) in
    rw (to_z-of_z fits) (simp (c.from.ensures, c.revision_of.ensures, c.job_of.ensures))
