-- The bytes that a call does not take have no effect on it, whatever the state: the step is the same without them (`only_taken`). So the
-- next state is the same whether or not these bytes were passed in with the call.
use mathlib.Core.Path.{◌≡◌, refl, sym, ap, ◌∙◌}
use mathlib.Core.Bool.{Bool, true, false, cond}
use mathlib.Core.List.{List, [], ◌∷◌, ◌++◌}
use Prim.Native.Nat.{ℕ, zero, suc, ◌-◌}
use native.Mathlib.Omega.{arith}
use lib.ListN.{length, take, drop, take-append-drop}
use lib.Seq.{take-nil, take-length, take-take}
use Rattle.little_endian.specs.Bytes.{written}
use Rattle.link_reader.specs.declared.Reader.{Reader}
use Rattle.link_reader.specs.declared.Step.{Step}
use Rattle.std.specs.Prelude.{Some, None, Ok, Err}
use Rattle.link_reader.specs.declared.Refusal.TheVariants.{BadLength, NeedsReset}
use Rattle.link_reader.specs.Reading.{Came, kept_of, as_new, judged, came_of, step_by, read_of}
use Rattle.link_reader.specs.Verdicts.{Verdict}
use Rattle.link_reader.proofs.Verdicts.{verdict, judged_by, never_reset}
use Rattle.cutting_laws.proofs.More.{whole_more, whole_alone}

-- The first bytes of two lists after each other are the first bytes of each list.
take_both : (kept piece : List ℕ) (size : ℕ) → take size (kept ++ piece) ≡ take size kept ++ take (size - length kept) piece
take_both [] piece size = rw (take-nil {A = ℕ} size) (ap (λ (n : ℕ). take n piece) (omega arith))
take_both (b ∷ kept) piece zero =
    let none : 0 ≡ 0 - suc (length kept) = omega arith in
    ap (λ (n : ℕ). take n piece) none
take_both (b ∷ kept) piece (suc size) =
    let less : size - length kept ≡ suc size - suc (length kept) = omega arith in
    ap (λ (l : List ℕ). b ∷ l) (take_both kept piece size ∙ ap (λ (n : ℕ). take size kept ++ take n piece) less)

-- The first `size` bytes of the kept bytes followed by a piece stay the same if the piece is cut to the bytes that are missing.
cut_front : (kept piece : List ℕ) (size : ℕ) → take size (kept ++ take (size - length kept) piece) ≡ take size (kept ++ piece)
cut_front kept piece size =
    let missing = size - length kept in
    take_both kept (take missing piece) size
    ∙ ap (λ (l : List ℕ). take size kept ++ l) (take-take missing missing piece (omega arith)) ∙ sym (take_both kept piece size)

module _ (r : Reader) (piece : List ℕ) where
  -- The bytes that a finished question takes from a piece finish it even without the rest of the piece.
  question_alone : {size : ℕ} → Verdict (kept_of r ++ piece) (Ok (Some size))
      → Verdict (kept_of r ++ take (size - length (kept_of r)) piece) (Ok (Some size))
  question_alone {size} j =
      let held = kept_of r ++ take (size - length (kept_of r)) piece in
      let front : take size held ≡ take size (kept_of r ++ piece) = cut_front (kept_of r) piece size in
      rw (take-append-drop size held) at (whole_more (drop size held) (rw (← front) at (whole_alone j)))

  -- If no length was refused, the verdict on the kept bytes followed by any piece decides the step.
  step_by_lem : (other : List ℕ) {c : Came} → r.refused ≡ false → judged (kept_of r ++ other) ≡ c → read_of r other ≡ step_by c r other
  unfolding read_of came_of
  step_by_lem other e f =
      ap (λ (k : Came). step_by k r other) (ap (λ (b : Bool). cond b (Err NeedsReset) (judged (kept_of r ++ other))) e ∙ f)

  judged_alone : (c : Came) → Verdict (kept_of r ++ piece) c → r.refused ≡ false
      → read_of r (take (step_by c r piece).taken piece) ≡ step_by c r piece
  unfolding step_by
  judged_alone (Ok (Some size)) j e =
      let front = cut_front (kept_of r) piece size in
      step_by_lem (take (size - length (kept_of r)) piece) e (judged_by (question_alone j))
      ∙ ap (λ (l : List ℕ). record {
        next = as_new;
        taken = size - length (kept_of r);
        came = Ok (Some size);
        question = written r.bytes l;
      }) front
  judged_alone (Ok None) j e = rw (take-length piece) (step_by_lem piece e (judged_by j))
  judged_alone (Err BadLength) j e = rw (take-length piece) (step_by_lem piece e (judged_by j))
  judged_alone (Err NeedsReset) j e = never_reset j

  pub only_taken : read_of r (take (read_of r piece).taken piece) ≡ read_of r piece
  unfolding read_of came_of step_by
  only_taken = by r.refused refl
    where
      by : (b : Bool) → r.refused ≡ b → read_of r (take (read_of r piece).taken piece) ≡ read_of r piece
      by true e =
          let is : (p : List ℕ) → read_of r p ≡ step_by (Err NeedsReset) r [] =
          λ p. ap (λ (b : Bool). step_by (cond b (Err NeedsReset) (judged (kept_of r ++ p))) r p) e in
          is (take (read_of r piece).taken piece) ∙ sym (is piece)
      by false e =
          let is : read_of r piece ≡ step_by (judged (kept_of r ++ piece)) r piece = step_by_lem piece e refl in
          ap (λ (s : Step). read_of r (take s.taken piece)) is ∙ judged_alone (judged (kept_of r ++ piece)) (verdict refl) e ∙ sym is
