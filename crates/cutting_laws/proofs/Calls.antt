-- The step of a call if the reader keeps unfinished bytes (`call`). It follows from the verdict on these bytes and the piece together:
-- nothing yet, a refused length, or a finished question.
use mathlib.Core.Path.{◌≡◌, refl, ◌∙◌}
use mathlib.Core.List.{List, [], ◌++◌}
use Prim.Native.Nat.{ℕ, ◌-◌, ◌<◌}
use native.Mathlib.Omega.{arith}
use lib.ListN.{length, take, length-append}
use lib.Seq.{take-take, take-length, length-take-le}
use Rattle.little_endian.specs.Bytes.{has_room, written}
use Rattle.records.specs.Layout.{question_room}
use Rattle.link_reader.specs.declared.Step.{Step}
use Rattle.std.specs.Prelude.{Some, None, Ok, Err}
use Rattle.link_reader.specs.declared.Refusal.TheVariants.{BadLength, NeedsReset}
use Rattle.link_reader.specs.Reading.{Came, kept_of, blank, as_new, after_refusal, judged, came_of, step_by, read_of}
use Rattle.cutting_laws.specs.Feeding.{keeping}
use Rattle.link_reader.specs.Verdicts.{Verdict}
use Rattle.link_reader.proofs.Verdicts.{verdict, never_reset, part_fits, whole_fits}
use Rattle.cutting_laws.proofs.More.{part_ends}
use Rattle.little_endian.proofs.Laid.{laid_length, laid_front, laid_over}

pub new_keeps : keeping [] ≡ as_new
unfolding has_room written
new_keeps = refl

pub kept_is : {s : List ℕ} → Verdict s (Ok None) → kept_of (keeping s) ≡ s
kept_is {s} j = laid_front (length s) blank s (omega (arith, part_fits j)) (omega arith) ∙ take-length s

-- The step of a call with the piece p if the bytes s are kept, for each verdict on both together. The bytes of a finished question are
-- at the start of its buffer.
pub data Call (s p : List ℕ) : Step → Type 0 where
  nothing : Verdict (s ++ p) (Ok None) → Call s p (record { next = keeping (s ++ p); taken = length p; came = Ok None; question = blank })
  bad : Verdict (s ++ p) (Err BadLength) →
      Call s p (record { next = after_refusal; taken = length p; came = Err BadLength; question = blank })
  finished : {size : ℕ} {bytes : List ℕ} → Verdict (s ++ p) (Ok (Some size)) → length s < size → take size bytes ≡ take size (s ++ p) →
      Call s p (record { next = as_new; taken = size - length s; came = Ok (Some size); question = bytes })

pub call : (s p : List ℕ) → Verdict s (Ok None) → Call s p (read_of (keeping s) p)
unfolding read_of came_of step_by
call s p j = rw (kept_is j) (by (judged (s ++ p)) (verdict refl))
  where
    by : (c : Came) → Verdict (s ++ p) c → Call s p (step_by c (keeping s) p)
    by (Ok (Some size)) k =
        let held = take size (s ++ p) in
        let long : length held ≡ size = length-take-le size (s ++ p) (whole_fits k).0 in
        let room : length (written blank s) ≡ question_room = laid_length blank s (omega (arith, part_fits j)) in
        let front = laid_front size (written blank s) held (omega (arith, (whole_fits k).1)) (omega arith) in
        rw (kept_is j) (finished k (part_ends p j k) (front ∙ take-take size size (s ++ p) (omega arith)))
    by (Ok None) k =
        let over : written (written blank s) (s ++ p) ≡ written blank (s ++ p) =
        laid_over blank s (s ++ p) (omega (arith, length-append s p)) (omega (arith, part_fits k)) in
        rw (kept_is j, over) (nothing k)
    by (Err BadLength) k = bad k
    by (Err NeedsReset) k = never_reset k
