-- A text at the start of a buffer: what holds after it is put there (`put_facts`), and the same for an equal text
-- (`same_words`).
use mathlib.Core.Path.{◌≡◌, refl, sym, ap, ◌∙◌}
use mathlib.Core.List.{List}
use Prim.Native.Nat.{ℕ, ◌-◌, ◌≤◌}
use native.Mathlib.Omega.{arith}
use lib.ListN.{length, take, replicate}
use lib.Seq.{take-append_seam}
use Rattle.slots.specs.Slots.{padded}
use Rattle.slots.proofs.Padding.{padded_is, padded_length}
use Rattle.record_stream.specs.Reasons.{reason_room}

-- What the contracts in `reasons.rt` say about the text, the returned size and the buffer.
pub record Stand (words : List ℕ) (size : ℕ) (buffer : List ℕ) : Type 0 where
  pub sized : size ≡ length words
  pub filled : buffer ≡ padded reason_room words
  pub within : (size ≤ length buffer) × (size ≡ length (take size buffer))
  pub first : take size buffer ≡ words

pub put_facts : (words buffer : List ℕ) → length words ≤ reason_room → buffer ≡ padded reason_room words
    → Stand words (length words) buffer
put_facts words buffer fits is =
    let first : take (length words) buffer ≡ words =
    ap (take (length words)) (is ∙ padded_is reason_room words fits)
    ∙ take-append_seam words (replicate (reason_room - length words) 0) in
    let long : length buffer ≡ reason_room = ap length is ∙ padded_length reason_room words in
    record { sized = refl; filled = is; within = (omega (arith, long, fits), sym (ap length first)); first = first }

pub same_words : (words others : List ℕ) (size : ℕ) (buffer : List ℕ) → words ≡ others
    → size ≡ length words → buffer ≡ padded reason_room words
    → (size ≤ length buffer) × (size ≡ length (take size buffer)) → take size buffer ≡ words → Stand others size buffer
same_words words others size buffer e sized filled within first = record {
  sized = sized ∙ ap length e;
  filled = filled ∙ ap (padded reason_room) e;
  within = within;
  first = first ∙ e;
}
