-- The loop invariant of `answer_all`: the slots so far are answered, in order, and the rest of the input is left.
use Rattle.std.proofs.Common.{IfSome}
use Rattle.lambert.proofs.Rounds.{SoFar}
use Rattle.lambert.proofs.answer_all.Given as goal

abbrev pub invariant-loop : goal.invariant-loop
invariant-loop g l =
    IfSome (g.R.Read.remaining l.initial.input)
    (λ xs. SoFar xs (g.R.Read.remaining l.input) (g.W.Write.contents l.initial.output) (g.W.Write.contents l.output))
