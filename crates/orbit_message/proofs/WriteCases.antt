-- The cases of `write_of`, for `write`: each refusal when its condition is the first that holds (`b1`, `b5`, `b6`, `b7`), and the
-- message otherwise (`message_put`). `entry_inside` shows that every entry of an answer lies in its bytes.
use mathlib.Core.Path.{◌≡◌, refl, sym, ap, ◌∙◌}
use mathlib.Core.Bool.{Bool, true, false, not, ◌&&◌, ◌||◌, true≢false}
use mathlib.Core.List.{List, ◌++◌, map}
use Prim.Native.Nat.{ℕ, ◌-◌, ◌≤◌}
use native.Mathlib.Omega.{arith}
use borrow.Author.Tests.{leb-true, eqb-true, ltb-true, ltb-false, lt-leb, le-leb}
use lib.Dec.{eqb, leb, ltb}
use lib.Ieee.{Float}
use lib.ListN.{length}
use Rattle.float64.specs.declared.Vector.{Vector}
use Rattle.decimal.specs.Decimals.{is_in_range, decimal_of}
use Rattle.records.specs.Layout.{refusal_kind, answer_kind, most_entries, first_number, last_number, kind_of, number_of}
use Rattle.records.specs.Layout.{refusal_size, answer_size, size_of}
use Rattle.outcomes.specs.Outcomes.{is_sized, is_between, is_refusal, all_name_an_end, is_answer, is_outcome}
use Rattle.orbit_message.specs.Texts.{every, texts_in, are_texts}
use Rattle.orbit_message.specs.Messages.{message_of}
use Rattle.orbit_message.specs.Writing.{components, departure_velocity, refusal, put_of, write_of}
use Rattle.orbit_message.specs.declared.refusals.Refusal.TheVariants.{NotAnAnswer, IllegalTexts, NoSuchEntry, OutOfRange}
use Rattle.orbit_message.proofs.EveryElement.{both}

-- ---- the tests of the code

-- A number below the first or above the last is not between them.
pub outside : (low high n : ℕ) → ltb n low || ltb high n ≡ not (is_between low high n)
outside low high n = by (ltb n low) (ltb high n) refl refl
  where
    by : (a b : Bool) → ltb n low ≡ a → ltb high n ≡ b → a || b ≡ not (is_between low high n)
    by true b e f = rw (lt-leb low n (ltb-true n low e))
    by false true e f = rw (le-leb low n (ltb-false n low e), lt-leb n high (ltb-true high n f))
    by false false e f = rw (le-leb low n (ltb-false n low e), le-leb n high (ltb-false high n f))

-- ---- an answer

-- Whether the bytes are malformed or a refusal: the condition of B1.
abbrev pub has_no_answer : List ℕ → Bool
has_no_answer answer = not (is_outcome answer) || eqb (kind_of answer) refusal_kind

not_or : (a b : Bool) → not a || b ≡ false → (a ≡ true) × (b ≡ false)
not_or true true e = absurd (true≢false e)
not_or true false e = (refl, refl)
not_or false b e = absurd (true≢false e)

answer_is : (answer : List ℕ) → has_no_answer answer ≡ false → is_answer answer ≡ true
unfolding is_outcome is_refusal
answer_is answer e =
    let facts = not_or (is_outcome answer) (eqb (kind_of answer) refusal_kind) e in
    let number = number_of answer in
    let rest = is_sized answer (refusal_size number) in
    let range = is_between first_number last_number number in
    let split : Bool → Bool = λ k. (k && rest && range) || is_answer answer in
    sym (ap split facts.1) ∙ facts.0

-- Every entry of an answer lies in its bytes.
pub entry_inside : (answer : List ℕ) (entry : ℕ) → has_no_answer answer ≡ false → is_between 1 (number_of answer) entry ≡ true →
    (1 ≤ entry) × (entry ≤ most_entries) × (answer_size (entry - 1) ≤ length answer)
unfolding is_answer is_sized
entry_inside answer entry e f =
    let n = number_of answer in
    let kind = eqb (kind_of answer) answer_kind in
    let range = is_between 1 most_entries n in
    let sized = is_sized answer (answer_size n) in
    let is = answer_is answer e in
    let rest = (both (kind && range && sized) (all_name_an_end n answer) is).0 in
    let sizes = both (kind && range) sized rest in
    let most = (both kind range sizes.0).1 in
    let few = leb-true n most_entries (both (leb 1 n) (leb n most_entries) most).1 in
    let same_size = (both (eqb (length answer) (answer_size n)) (eqb (size_of answer) (answer_size n)) sizes.1).0 in
    let size = eqb-true (length answer) (answer_size n) same_size in
    let bounds = both (leb 1 entry) (leb entry n) f in
    let low = leb-true 1 entry bounds.0 in
    let high = leb-true entry n bounds.1 in
    (low, omega arith, omega arith)

-- ---- the refusals in their order

module _ (answer : List ℕ) (entry : ℕ) (r1 : Vector) (texts out : List ℕ) where
  abbrev pub numbers : List Float
  numbers = components r1 ++ components (departure_velocity answer entry)

  pub b1 : has_no_answer answer ≡ true → refusal NotAnAnswer out ≡ write_of answer entry r1 texts out
  unfolding write_of
  b1 e = rw e

  module _ (good : has_no_answer answer ≡ false) where
    pub b5 : are_texts (texts_in texts) ≡ false → refusal IllegalTexts out ≡ write_of answer entry r1 texts out
    unfolding write_of
    b5 e = rw (good, e)

    module _ (legal : are_texts (texts_in texts) ≡ true) where
      pub b6 : is_between 1 (number_of answer) entry ≡ false → refusal NoSuchEntry out ≡ write_of answer entry r1 texts out
      unfolding write_of
      b6 e = rw (good, legal, e)

      module _ (there : is_between 1 (number_of answer) entry ≡ true) where
        pub b7 : every is_in_range numbers ≡ false → refusal OutOfRange out ≡ write_of answer entry r1 texts out
        unfolding write_of
        b7 e = rw (good, legal, there, e)

        pub message_put : every is_in_range numbers ≡ true →
            put_of (message_of (texts_in texts) (map decimal_of numbers)) out ≡ write_of answer entry r1 texts out
        unfolding write_of
        message_put e = rw (good, legal, there, e)
