-- `put` meets its contract. The text is at the start of the buffer, and zeros follow it.
use mathlib.Core.Path.{◌≡◌, refl, sym, ap, ◌∙◌}
use Prim.Native.Nat.{ℕ, ◌-◌}
use native.Mathlib.Omega.{arith}
use lib.ListN.{length, take, replicate}
use lib.Seq.{take-append_seam}
use Rattle.slots.specs.Slots.{padded}
use Rattle.slots.proofs.Padding.{padded_is}
use Rattle.record_stream.specs.Reasons.{reason_room}
use Rattle.record_stream.proofs.reasons.put.Goals as goal

pub returns : goal.returns
returns c =
    let words = c.args.words.now in
    let buffer = c.fill.new.slot in
    let room : length c.args.out.now ≡ reason_room = omega arith in
    let filled : buffer ≡ padded reason_room words = c.fill.ensures ∙ ap (λ (n : ℕ). padded n words) room in
    let first : take (length words) buffer ≡ words =
    ap (take (length words)) (filled ∙ padded_is reason_room words c.requires)
    ∙ take-append_seam words (replicate (reason_room - length words) 0) in
    record { size = refl; buffer = filled; within = (omega (arith, c.requires), sym (ap length first)); words = first }
