-- `put_refusal` meets its contract. This follows from the contracts of the functions that it calls.
use Rattle.question_record.proofs.put_refusal.Goals as goal

pub returns : goal.returns
returns c =
    record { size = c.refusal_size.ensures; buffer = c.write_refusal.ensures.bytes }
