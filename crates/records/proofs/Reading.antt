-- Shows what reading the bytes of a record returns if its values fit their fields: an entry (`entry_read`), an answer's head
-- (`answer_head_read`) and a refusal's head (`refusal_head_read`), whatever follows them, and a refusal's head without
-- anything after the refusal (`refusal_head_back`). The values in the head of a refusal fit their fields if job, revision
-- and number do (`refusal_held`). Those in the head of an answer fit if job and revision do and the answer has at most
-- `most_entries` entries (`answer_held`).
use mathlib.Core.Path.{◌≡◌, sym, ap, ◌∙◌}
use mathlib.Core.List.{List, ◌++◌, append_assoc}
use Prim.Native.Nat.{ℕ, ◌^◌, ◌≤◌, ◌<◌}
use native.Mathlib.Omega.{arith}
use lib.ListN.{length, take, drop, take-append-drop}
use Rattle.records.specs.Layout.{entry_size, most_entries}
use Rattle.records.specs.Records.{head_of, head_bytes, refusal_head_of, refusal_bytes, answer_head_of, entry_of, entry_bytes, entries_bytes}
use Rattle.records.specs.Records.{answer_bytes}
use Rattle.records.specs.Ranges.{HeadHeld, EntryHeld}
use Rattle.records.specs.declared.Refusal.{Refusal}
use Rattle.records.specs.declared.Entry.{Entry}
use Rattle.records.proofs.Sizes.{refusal_between}
use Rattle.records.proofs.RefusalParts.{after_head, refusal_parts, refusal_starts}
use Rattle.records.proofs.RoundTrip.{head_back, entry_back}

-- Bytes that begin with the bytes of an entry are read as that entry.
pub entry_read : (l : List ℕ) (e : Entry) → take entry_size l ≡ entry_bytes e → EntryHeld e → entry_of l ≡ e
entry_read l e t h =
    let parts : l ≡ entry_bytes e ++ drop entry_size l =
    sym (take-append-drop entry_size l) ∙ ap (λ (x : List ℕ). x ++ drop entry_size l) t in
    ap entry_of parts ∙ entry_back e (drop entry_size l) h

-- ---- a refusal

module _ (r : Refusal) where
  pub refusal_head_back : HeadHeld (refusal_head_of r) → head_of (refusal_bytes r) ≡ refusal_head_of r
  refusal_head_back h = ap head_of (refusal_parts r) ∙ head_back (refusal_head_of r) (after_head r) h

  pub refusal_head_read : (after : List ℕ) → HeadHeld (refusal_head_of r) → head_of (refusal_bytes r ++ after) ≡ refusal_head_of r
  refusal_head_read after h = ap head_of (refusal_starts r after) ∙ head_back (refusal_head_of r) (after_head r ++ after) h

  pub refusal_held : r.job < 2 ^ 32 → r.revision < 2 ^ 32 → r.number < 2 ^ 16 → HeadHeld (refusal_head_of r)
  unfolding refusal_head_of
  refusal_held job revision number =
      let between = refusal_between r.number in
      record { length = omega arith; kind = omega arith; job = job; revision = revision; number = number }

-- ---- an answer

module _ (job revision : ℕ) where
  pub answer_head_read : (es : List Entry) (after : List ℕ) → HeadHeld (answer_head_of job revision (length es)) →
      head_of (answer_bytes job revision es ++ after) ≡ answer_head_of job revision (length es)
  unfolding answer_bytes
  answer_head_read es after h =
      let head = answer_head_of job revision (length es) in
      ap head_of (append_assoc (head_bytes head) (entries_bytes es) after) ∙ head_back head (entries_bytes es ++ after) h

  pub answer_held : job < 2 ^ 32 → revision < 2 ^ 32 → (n : ℕ) → n ≤ most_entries → HeadHeld (answer_head_of job revision n)
  unfolding answer_head_of
  answer_held small_job small_revision n few =
      record { length = omega arith; kind = omega arith; job = small_job; revision = small_revision; number = omega arith }
