-- `feed` is safe: a call takes no more bytes than are left, and a question that it gives fits its room.
use Rattle.link_reader.proofs.Laws.{taken_within, question_fits}
use Rattle.test_link.proofs.feed.Goals as goal

pub slice_bounds-rest-count : goal.slice_bounds-rest-count
slice_bounds-rest-count g c = taken_within _ _ _ c.read-step.ensures.step

pub slice_bounds-rest-start : goal.slice_bounds-rest-start
slice_bounds-rest-start g c = taken_within _ _ _ c.read-step.ensures.step

pub print_step-requires : goal.print_step-requires
print_step-requires g c = question_fits _ _ _ c.read-step.ensures.step
