-- `write` refuses exactly with the first condition that holds (`refuses_exactly`). The definition is a chain of conditions, so each field
-- but the numbers is a case distinction over their five truth values.
use mathlib.Core.Path.{◌≡◌, refl, sym, ap, ◌∙◌}
use mathlib.Core.Bool.{Bool, true, false, cond, not, ◌||◌}
use mathlib.Core.List.{List, [], ◌∷◌}
use Prim.Native.Nat.{ℕ}
use lib.Dec.{eqb}
use Rattle.std.specs.Prelude.{Option, Some, None, Ok, Err}
use Rattle.float64.specs.declared.Vector.{Vector}
use Rattle.decimal.specs.Decimals.{is_in_range}
use Rattle.little_endian.specs.Bytes.{has_room, written}
use Rattle.records.specs.Layout.{refusal_kind, kind_of, number_of}
use Rattle.outcomes.specs.Outcomes.{is_between, is_outcome}
use Rattle.orbit_message.specs.Texts.{every, texts_in, are_texts}
use Rattle.orbit_message.specs.Writing.{WriteResult, put_of, write_of}
use Rattle.orbit_message.specs.declared.refusals.Refusal.{Refusal}
use Rattle.orbit_message.specs.declared.refusals.Refusal.TheVariants.{NotAnAnswer, IllegalTexts, NoSuchEntry}
use Rattle.orbit_message.specs.declared.refusals.Refusal.TheVariants.{OutOfRange, SmallBuffer}
use Rattle.orbit_message.proofs.TemplateValues.{zero_is_one}
use Rattle.message_laws.specs.Refusals.{Condition, condition, first_that_holds, numbers, message, conditions}
use Rattle.message_laws.specs.Refusals.{result_of_first, RefusesExactly}

module _ (answer : List ℕ) (entry : ℕ) (r1 : Vector) (texts out : List ℕ) where
  abbrev result : Option Refusal → WriteResult
  result first = result_of_first answer entry r1 texts out first

  -- The chain of the definition, and the list of conditions, for any five truth values.
  abbrev chain : Bool → Bool → Bool → Bool → Bool → WriteResult
  chain a b c d e =
      cond a (result (Some NotAnAnswer))
      (cond b (result (Some IllegalTexts))
      (cond c (result (Some NoSuchEntry))
      (cond d (result (Some OutOfRange)) (cond e (result (Some SmallBuffer)) (result None)))))

  abbrev listed : Bool → Bool → Bool → Bool → Bool → List Condition
  listed a b c d e =
      condition NotAnAnswer a
      ∷ condition IllegalTexts b
      ∷ condition NoSuchEntry c
      ∷ condition OutOfRange d
      ∷ condition SmallBuffer e
      ∷ []

  first : (a b c d e : Bool) → chain a b c d e ≡ result (first_that_holds (listed a b c d e))
  unfolding first_that_holds
  first true b c d e = refl
  first false true c d e = refl
  first false false true d e = refl
  first false false false true e = refl
  first false false false false true = refl
  first false false false false false = refl

  refused : (a b c d e : Bool) (r : Refusal) → (chain a b c d e).result ≡ Err r → first_that_holds (listed a b c d e) ≡ Some r
  unfolding first_that_holds
  refused true b c d e r h = cc
  refused false true c d e r h = cc
  refused false false true d e r h = cc
  refused false false false true e r h = cc
  refused false false false false true r h = cc
  refused false false false false false r h = zero_is_one (cc)

  put_message : (a b c d e : Bool) (n : ℕ) → (chain a b c d e).result ≡ Ok n → first_that_holds (listed a b c d e) ≡ None
  unfolding first_that_holds
  put_message true b c d e n h = zero_is_one (cc)
  put_message false true c d e n h = zero_is_one (cc)
  put_message false false true d e n h = zero_is_one (cc)
  put_message false false false true e n h = zero_is_one (cc)
  put_message false false false false true n h = zero_is_one (cc)
  put_message false false false false false n h = refl

  -- The five truth values.
  abbrev b1 : Bool
  b1 = not (is_outcome answer) || eqb (kind_of answer) refusal_kind

  abbrev b5 : Bool
  b5 = not (are_texts (texts_in texts))

  abbrev b6 : Bool
  b6 = not (is_between 1 (number_of answer) entry)

  abbrev b7 : Bool
  b7 = not (every is_in_range (numbers answer entry r1 texts out))

  abbrev b8 : Bool
  b8 = not (has_room out (message answer entry r1 texts out))

  -- The last link of the chain.
  last : (b : Bool) → has_room out (message answer entry r1 texts out) ≡ b →
      put_of (message answer entry r1 texts out) out ≡ cond (not b) (result (Some SmallBuffer)) (result None)
  unfolding put_of written
  last true e = rw e
  last false e = rw e

  is_chain : write_of answer entry r1 texts out ≡ chain b1 b5 b6 b7 b8
  unfolding write_of
  is_chain =
      let room = has_room out (message answer entry r1 texts out) in
      let before : WriteResult → WriteResult = λ r.
      cond b1 (result (Some NotAnAnswer))
      (cond b5 (result (Some IllegalTexts)) (cond b6 (result (Some NoSuchEntry)) (cond b7 (result (Some OutOfRange)) r))) in
      ap before (last room refl)

  pub refuses_exactly : RefusesExactly answer entry r1 texts out
  unfolding conditions
  refuses_exactly =
      let told = sym (ap (λ (r : WriteResult). r.result) is_chain) in
      record {
        numbers_are = refl;
        result_is = is_chain ∙ first b1 b5 b6 b7 b8;
        refused = λ r e. refused b1 b5 b6 b7 b8 r (told ∙ e);
        written = λ n e. put_message b1 b5 b6 b7 b8 n (told ∙ e);
      }
