-- `length_reason` meets its contract. Its text is that of the definition.
use Rattle.record_stream.specs.Reasons.{text_bytes, length_reason}
use Rattle.record_stream.proofs.reasons.length_reason.Goals as goal

pub returns : goal.returns
unfolding length_reason text_bytes
returns c = c.put.ensures
