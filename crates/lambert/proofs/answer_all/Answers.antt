-- `answer_all` meets its contract: the last slot completes the records of the input.
use Rattle.std.proofs.Common.{rules}
use Rattle.lambert.proofs.Rounds.{one_more, all_answered}
use Rattle.lambert.proofs.answer_all.Goals as goal

pub loop-preserved : goal.loop-preserved
loop-preserved g c =
    one_more _ (g.W.Write.contents c.loop.output) (g.W.Write.contents c.answer_one.new.output)
    (g.R.Read.remaining c.answer_one.new.input)
    (g.R.Read.remaining c.args.input.now) (g.R.Read.remaining c.loop.input) _ (search rules) c.loop.invariant c.in_ok-answer_one.ensures

pub returns-then-not-branch : goal.returns-then-not-branch
returns-then-not-branch g c =
    all_answered _ (g.W.Write.contents c.loop.output) (g.W.Write.contents c.answer_one.new.output)
    (g.R.Read.remaining c.answer_one.new.input)
    (g.R.Read.remaining c.args.input.now) (g.R.Read.remaining c.loop.input) _ (search rules) c.loop.invariant c.in_ok-answer_one.ensures
