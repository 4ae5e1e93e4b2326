-- What is known after some slots of the input are answered (`SoFar`): at the start (`started`), after a slot that another may follow
-- (`one_more`), and after the last slot (`all_answered`).
use Rattle.std.proofs.Common.{◌≡◌, Bool, true, false, cond, List, [], ◌++◌, ℕ, Option, Some, None, IfSome, Ok, take, drop}
use Rattle.std.proofs.Common.{refl, sym, ap, ◌∙◌, subst, append_assoc}
use Rattle.std.proofs.lemmas.List.{append-nil}
use Rattle.std.specs.Io.KnownBytes.{Appends}
use Rattle.std.proofs.KnownBytes.{Appends-nil, Appends-trans}
use Rattle.records.specs.Layout.{question_size}
use Rattle.slot_records.specs.Inputs.{records_of, slot_record, slot_reply}
use Rattle.slot_records.proofs.Inputs.{records_by_steps}
use Rattle.lambert.specs.Following.{SlotAnswered}

-- The input began as xs, and `left` is left of it. The output has grown by `written`, and the records of the slots that are left are to
-- follow.
pub record SoFar (xs : List ℕ) (rest output after : Option (List ℕ)) : Type 0 where
  pub left : List ℕ
  pub written : List ℕ
  pub rest_is : rest ≡ Some left
  pub grown : Appends output after written
  pub to_come : records_of xs ≡ written ++ records_of left

-- The output for an input, if another slot may follow its first one, and if none may.
another_step : (xs : List ℕ) → (slot_reply (take question_size xs)).another ≡ true
    → records_of xs ≡ slot_record (take question_size xs) ++ records_of (drop question_size xs)
another_step xs more =
    records_by_steps xs
    ∙ ap (λ b. slot_record (take question_size xs) ++ cond b (records_of (drop question_size xs)) []) more

last_step : (xs : List ℕ) → (slot_reply (take question_size xs)).another ≡ false
    → records_of xs ≡ slot_record (take question_size xs)
last_step xs none =
    records_by_steps xs
    ∙ ap (λ b. slot_record (take question_size xs) ++ cond b (records_of (drop question_size xs)) []) none
    ∙ append-nil (slot_record (take question_size xs))

pub started : (input output : Option (List ℕ)) → IfSome input (λ xs. SoFar xs input output output)
started None output = tt
started (Some xs) output =
    record { left = xs; written = []; rest_is = refl; grown = Appends-nil output; to_come = refl }

module _ (output between after rest : Option (List ℕ)) where
  more : (xs : List ℕ) (mid : Option (List ℕ)) → SoFar xs mid output between
      → IfSome mid (λ ys. SlotAnswered ys rest between after (Ok true)) → SoFar xs rest output after
  more xs mid so answered =
      let here : SlotAnswered so.left rest between after (Ok true) =
      subst (λ m. IfSome m (λ ys. SlotAnswered ys rest between after (Ok true))) so.rest_is answered in
      let bytes = slot_record (take question_size so.left) in
      let later = records_of (drop question_size so.left) in
      record {
        left = drop question_size so.left;
        written = so.written ++ bytes;
        rest_is = here.0;
        grown = Appends-trans output between after so.written bytes so.grown here.1;
        to_come = so.to_come ∙ ap (λ l. so.written ++ l) (another_step so.left here.2) ∙ sym (append_assoc so.written bytes later);
      }

  end : (xs : List ℕ) (mid : Option (List ℕ)) → SoFar xs mid output between
      → IfSome mid (λ ys. SlotAnswered ys rest between after (Ok false)) → Appends output after (records_of xs)
  end xs mid so answered =
      let here : SlotAnswered so.left rest between after (Ok false) =
      subst (λ m. IfSome m (λ ys. SlotAnswered ys rest between after (Ok false))) so.rest_is answered in
      let bytes = slot_record (take question_size so.left) in
      subst (Appends output after) (sym (so.to_come ∙ ap (λ l. so.written ++ l) (last_step so.left here.1)))
      (Appends-trans output between after so.written bytes so.grown here.0)

  pub one_more : (input mid : Option (List ℕ)) (another : Bool) → another ≡ true → IfSome input (λ xs. SoFar xs mid output between)
      → IfSome mid (λ ys. SlotAnswered ys rest between after (Ok another)) → IfSome input (λ xs. SoFar xs rest output after)
  one_more None mid another is so answered = tt
  one_more (Some xs) mid another is so answered =
      more xs mid so (subst (λ b. IfSome mid (λ ys. SlotAnswered ys rest between after (Ok b))) is answered)

  pub all_answered : (input mid : Option (List ℕ)) (another : Bool) → another ≡ false → IfSome input (λ xs. SoFar xs mid output between)
      → IfSome mid (λ ys. SlotAnswered ys rest between after (Ok another)) → IfSome input (λ xs. Appends output after (records_of xs))
  all_answered None mid another is so answered = tt
  all_answered (Some xs) mid another is so answered =
      end xs mid so (subst (λ b. IfSome mid (λ ys. SlotAnswered ys rest between after (Ok b))) is answered)
