-- `read_some` meets its contract. The loop invariant: the reads so far were interrupted and took nothing from the input.
use Rattle.std.specs.Io.KnownBytes.{Keeps}
use Rattle.standard_input.proofs.read_some.Given as goal

abbrev pub invariant-loop : goal.invariant-loop
invariant-loop g l = Keeps (g.R.Read.remaining l.initial.input) (g.R.Read.remaining l.input)
