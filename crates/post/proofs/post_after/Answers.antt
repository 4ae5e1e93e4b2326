-- `post_after` is safe: the rest of a record fits in the buffer.
use Rattle.std.proofs.Common.{sym, ◌∙◌}
use Rattle.record_stream.proofs.Starts.{rest_short}
use Rattle.post.proofs.post_after.Goals as goal

pub post_rest-requires-clause-rest : goal.post_rest-requires-clause-rest
post_rest-requires-clause-rest g c = rest_short _ c.in-Record.rest (sym c.start_of.ensures ∙ c.in-Record.is)
