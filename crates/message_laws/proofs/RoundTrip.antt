-- The reader after the writer (`reads_back`). If `write` writes a message, no condition of a refusal holds, so the texts are legal and the
-- numbers are in range (`is_written`), and `read` accepts the message and returns its numbers.
use mathlib.Core.Path.{◌≡◌, refl, sym, ap, ◌∙◌}
use mathlib.Core.Bool.{Bool, true, false, not}
use mathlib.Core.List.{List, [], ◌∷◌, map}
use Prim.Native.Nat.{ℕ}
use borrow.Author.Tests.{not-false}
use lib.Dec.{T}
use lib.Ieee.{Float, binary64, fits}
use lib.Ieee.Bits.{of_bits-fits}
use lib.ListN.{length, take, drop}
use lib.Seq.{take_at}
use Rattle.std.specs.Prelude.{Result, None, Ok}
use Rattle.float64.specs.declared.Vector.{Vector}
use Rattle.decimal.specs.Decimals.{is_in_range, decimal_of}
use Rattle.decimal.specs.Texts.{is_well_formed}
use Rattle.decimal_laws.proofs.Rounding.{decimal_well_formed}
use Rattle.records.specs.Ranges.{VectorHeld}
use Rattle.records.specs.Records.{entry_of}
use Rattle.orbit_message.specs.Texts.{every, texts_in, are_texts}
use Rattle.orbit_message.specs.Reading.{read_of}
use Rattle.orbit_message.specs.Writing.{departure_velocity, WriteResult, write_of}
use Rattle.orbit_message.specs.States.{state_numbers}
use Rattle.orbit_message.specs.declared.states.State.{State}
use Rattle.orbit_message.specs.declared.refusals.Refusal.{Refusal}
use Rattle.orbit_message.specs.declared.refusals.Refusal.TheVariants.{NotAnAnswer, IllegalTexts, NoSuchEntry}
use Rattle.orbit_message.specs.declared.refusals.Refusal.TheVariants.{OutOfRange}
use Rattle.orbit_message.proofs.TemplateValues.{zero_is_one}
use Rattle.orbit_message.proofs.EveryElement.{both}
use Rattle.message_laws.specs.Exactness.{IsMessage}
use Rattle.message_laws.specs.RoundTrip.{ReadsBack}
use Rattle.message_laws.specs.Refusals.{Condition, condition, first_that_holds, numbers, message, conditions, result_of_first}
use Rattle.message_laws.proofs.Refusals.{refuses_exactly}
use Rattle.message_laws.proofs.Exactness.{reads_exactly}

-- ---- no condition holds

-- If no condition holds, the first of the list does not, and none of the rest.
none_of : (b : Bool) (r : Refusal) (cs : List Condition) → first_that_holds (condition r b ∷ cs) ≡ None →
    (b ≡ false) × (first_that_holds cs ≡ None)
unfolding first_that_holds
none_of true r cs e = zero_is_one cc
none_of false r cs e = (refl, e)

-- ---- numbers that are f64s

-- Every number is an f64.
unfoldable AllHeld : List Float → Type 0
AllHeld [] = Unit
AllHeld (x ∷ xs) = T (fits binary64 x) × AllHeld xs

rounded_well_formed : (xs : List Float) → AllHeld xs → every is_in_range xs ≡ true → every is_well_formed (map decimal_of xs) ≡ true
unfolding every AllHeld
rounded_well_formed [] h e = refl
rounded_well_formed (x ∷ xs) h e =
    let parts = both (is_in_range x) (every is_in_range xs) e in
    rw (decimal_well_formed x h.0 parts.0) (rounded_well_formed xs h.1 parts.1)

module _ (answer : List ℕ) (entry : ℕ) (r1 : Vector) (texts out : List ℕ) (held : VectorHeld r1) where
  abbrev six : List Float
  six = numbers answer entry r1 texts out

  abbrev text : List ℕ
  text = message answer entry r1 texts out

  -- The velocity of an entry is read from bits.
  all_held : AllHeld six
  unfolding AllHeld departure_velocity entry_of
  all_held = (
    held.x,
    (held.y, (held.z, (of_bits-fits binary64 _, (of_bits-fits binary64 _, (of_bits-fits binary64 _, tt))))),
  )

  pub is_written : first_that_holds (conditions answer entry r1 texts out) ≡ None → IsMessage text (texts_in texts) (map decimal_of six)
  unfolding conditions
  is_written e =
      let after-b1 = none_of _ NotAnAnswer _ e in
      let after-b5 = none_of (not (are_texts (texts_in texts))) IllegalTexts _ after-b1.1 in
      let after-b6 = none_of _ NoSuchEntry _ after-b5.1 in
      let after-b7 = none_of (not (every is_in_range six)) OutOfRange _ after-b6.1 in
      record {
        legal = not-false (are_texts (texts_in texts)) after-b5.0;
        six = refl;
        well_formed = rounded_well_formed six all_held (not-false (every is_in_range six) after-b7.0);
        same = refl;
      }

  pub reads_back : ReadsBack answer entry r1 texts out
  reads_back = record { back = back }
    where
      back : (n : ℕ) → (write_of answer entry r1 texts out).result ≡ Ok n →
          (s : State) × (read_of (take n (write_of answer entry r1 texts out).buffer) ≡ Ok s)
          × (state_numbers s ≡ map decimal_of six)
      back n e =
          let law = refuses_exactly answer entry r1 texts out in
          let none = law.written n e in
          let whole = law.result_is ∙ ap (result_of_first answer entry r1 texts out) none in
          let told : ◌≡◌ {A = Result ℕ Refusal} (Ok (length text)) (Ok n) = sym (ap (λ (r : WriteResult). r.result) whole) ∙ e in
          let size : length text ≡ n = cc in
          let buffer = ap (λ (r : WriteResult). take n r.buffer) whole ∙ take_at text (drop (length text) out) n size in
          let read = (reads_exactly text).complete (texts_in texts) (map decimal_of six) (is_written none) in
          (read.0, ap read_of buffer ∙ read.1, read.2)
