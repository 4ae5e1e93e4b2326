-- The cases of `read_of`, for `read`: the bytes do not follow the template (`not_template`), a text is not legal (`not_legal`), a
-- number of the position or of the velocity is not a decimal (`not_position`, `not_velocity`), or the bytes are a message
-- (`is_message`).
use mathlib.Core.Path.{◌≡◌, refl, sym, ap, ◌∙◌}
use mathlib.Core.Bool.{true, false, ◌&&◌, and-false}
use mathlib.Core.List.{List, [], ◌∷◌, ◌++◌}
use Prim.Native.Nat.{ℕ}
use lib.ListN.{take, drop}
use Rattle.std.specs.Prelude.{Option, Some, None, Result, Ok, Err}
use Rattle.decimal.specs.Texts.{is_decimal_text}
use Rattle.orbit_message.specs.Texts.{every, is_legal}
use Rattle.orbit_message.specs.Templates.{values_in}
use Rattle.orbit_message.specs.Messages.{template}
use Rattle.orbit_message.specs.Reading.{vector_in, state_in, are_values, result_for, read_of}
use Rattle.orbit_message.specs.Matches.{matched_value, values_between, IsMatch}
use Rattle.orbit_message.specs.States.{vector_shown}
use Rattle.orbit_message.specs.declared.matching.Match.{Match}
use Rattle.orbit_message.specs.declared.states.DecimalVector.{DecimalVector}
use Rattle.orbit_message.specs.declared.states.State.{State}
use Rattle.orbit_message.specs.declared.refusals.Refusal.{Refusal}
use Rattle.orbit_message.specs.declared.refusals.Refusal.TheVariants.{NotAMessage}
use Rattle.orbit_message.proofs.EveryElement.{every_append}
use Rattle.orbit_message.proofs.StateCases.{test_failed, test_passed}
use Rattle.orbit_message.proofs.MessageTemplate.{fourteen_placeholders}

-- ---- the result for any values

texts_fail : (vs : List (List ℕ)) → every is_legal (take 8 vs) ≡ false → Err NotAMessage ≡ result_for (Some vs)
unfolding result_for are_values
texts_fail vs e = rw e

numbers_fail : (vs : List (List ℕ)) → every is_decimal_text (drop 8 vs) ≡ false → Err NotAMessage ≡ result_for (Some vs)
unfolding result_for are_values
numbers_fail vs e = rw (e, and-false (every is_legal (take 8 vs)))

all_pass : (vs : List (List ℕ)) → every is_legal (take 8 vs) ≡ true → every is_decimal_text (drop 8 vs) ≡ true →
    Ok (state_in (drop 8 vs)) ≡ result_for (Some vs)
unfolding result_for are_values
all_pass vs e f = rw (e, f)

pub not_template : (s : List ℕ) → values_in template s ≡ None → Err NotAMessage ≡ read_of s
unfolding read_of result_for
not_template s e = rw e refl

-- ---- the values of a match with the template

module _ (s : List ℕ) (m : Match) (is : IsMatch template s m) where
  values : List (List ℕ)
  values = values_between s m.spans 14

  abbrev texts : List (List ℕ)
  texts = values_between s m.spans 8

  -- The values of the position and of the velocity.
  abbrev position : List (List ℕ)
  position = matched_value s m 8 ∷ (matched_value s m 9 ∷ (matched_value s m 10 ∷ []))

  abbrev velocity : List (List ℕ)
  velocity = matched_value s m 11 ∷ (matched_value s m 12 ∷ (matched_value s m 13 ∷ []))

  first_eight : take 8 values ≡ texts
  unfolding values values_between
  first_eight = refl

  last_six : drop 8 values ≡ position ++ velocity
  unfolding values values_between
  last_six = refl

  read_is : result_for (Some values) ≡ read_of s
  unfolding read_of values
  read_is =
      let all = ap (values_between s m.spans) (is.count_is ∙ fourteen_placeholders) in
      sym (ap result_for (is.outcome ∙ ap Some all))

  pub not_legal : every is_legal texts ≡ false → Err NotAMessage ≡ read_of s
  not_legal f = texts_fail values (ap (every is_legal) first_eight ∙ f) ∙ read_is

  numbers : every is_decimal_text (drop 8 values) ≡ every is_decimal_text position && every is_decimal_text velocity
  numbers = ap (every is_decimal_text) last_six ∙ every_append is_decimal_text position velocity

  pub not_position : (p : Option DecimalVector) → p ≡ vector_shown position → p ≡ None →
      Err NotAMessage ≡ read_of s
  unfolding vector_shown
  not_position p f g =
      let none = test_failed (every is_decimal_text position) (vector_in position) p f g in
      numbers_fail values (numbers ∙ rw none) ∙ read_is

  pub not_velocity : (q : Option DecimalVector) → q ≡ vector_shown velocity → q ≡ None →
      Err NotAMessage ≡ read_of s
  unfolding vector_shown
  not_velocity q f g =
      let none = test_failed (every is_decimal_text velocity) (vector_in velocity) q f g in
      numbers_fail values (numbers ∙ rw (none, and-false (every is_decimal_text position))) ∙ read_is

  shown : (x y : DecimalVector) → x ≡ vector_in position → y ≡ vector_in velocity →
      ◌≡◌ {A = Result State Refusal} (Ok (record { position = x; velocity = y })) (Ok (state_in (drop 8 values)))
  unfolding state_in vector_in values values_between
  shown x y e f = rw (e, f)

  pub is_message : every is_legal texts ≡ true → (p q : Option DecimalVector) (x y : DecimalVector) →
      p ≡ vector_shown position → p ≡ Some x → q ≡ vector_shown velocity → q ≡ Some y →
      Ok (record { position = x; velocity = y }) ≡ read_of s
  unfolding vector_shown
  is_message f p q x y g h i j =
      let first = test_passed (every is_decimal_text position) (vector_in position) x p g h in
      let second = test_passed (every is_decimal_text velocity) (vector_in velocity) y q i j in
      let legal = ap (every is_legal) first_eight ∙ f in
      shown x y first.1 second.1 ∙ all_pass values legal (numbers ∙ rw (first.0, second.0)) ∙ read_is
