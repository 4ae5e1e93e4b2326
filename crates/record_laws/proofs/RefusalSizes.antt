-- Every refusal that is not malformed has the size and the length field of its number (`refusal_sizes`): the longer form goes with number
-- 12 and with nothing else, both ways. So bytes of the kind of a refusal whose length field is not that of their number are malformed,
-- whatever the rest of them is (`wrong_length_malformed`). The proof takes the tests of `is_refusal` apart and splits on whether the number
-- is 12.
use mathlib.Core.Path.{◌≡◌, refl}
use mathlib.Core.Bool.{Bool, true, false, ◌&&◌, cond}
use mathlib.Core.List.{List}
use Prim.Native.Nat.{ℕ}
use native.Mathlib.Omega.{arith}
use borrow.Author.Tests.{eqb-true, eqb-false, ne_eqb}
use lib.Dec.{eqb}
use lib.ListN.{length}
use Rattle.records.specs.Layout.{LENGTH, refusal_kind, answer_kind, head_size, void_refusal_size, void_number, first_number, last_number}
use Rattle.records.specs.Layout.{refusal_size, length_for, value_of, kind_of, number_of, size_of}
use Rattle.outcomes.specs.Outcomes.{is_sized, is_between, is_refusal, is_answer, is_outcome}
use Rattle.slots.proofs.Zeros.{both}
use Rattle.record_laws.specs.RefusalSizes.{RefusalSizes}

-- The two tests of a size.
record Sized (s : List ℕ) (n : ℕ) : Type 0 where
  size : length s ≡ n
  field : size_of s ≡ n

sized : (s : List ℕ) → is_refusal s ≡ true → Sized s (refusal_size (number_of s))
unfolding is_refusal is_sized
sized s e =
    let number = number_of s in
    let n = refusal_size number in
    let kind = eqb (kind_of s) refusal_kind in
    let formed = both (kind && is_sized s n) (is_between first_number last_number number) e in
    let tests = both (eqb (length s) n) (eqb (size_of s) n) (both kind (is_sized s n) formed.0).1 in
    record { size = eqb-true (length s) n tests.0; field = eqb-true (size_of s) n tests.1 }

-- The four facts, given whether the number is 12.
by_number : (s : List ℕ) (twelve : Bool) → eqb (number_of s) void_number ≡ twelve →
    Sized s (cond twelve void_refusal_size head_size) → RefusalSizes s
by_number s true t told =
    let is : number_of s ≡ void_number = eqb-true (number_of s) void_number t in
    record {
      void = λ e. (told.size, omega (arith, told.field));
      other = λ not. absurd (not is);
      longer = λ e. is;
      shorter = λ e f. omega (arith, told.field, e);
    }
by_number s false t told =
    let not : number_of s ≡ void_number → ⊥ = eqb-false (number_of s) void_number t in
    record {
      void = λ e. absurd (not e);
      other = λ e. (told.size, omega (arith, told.field));
      longer = λ e. absurd (omega (arith, told.field, e));
      shorter = λ e f. not f;
    }

pub refusal_sizes : (s : List ℕ) → is_refusal s ≡ true → RefusalSizes s
refusal_sizes s e = by_number s (eqb (number_of s) void_number) refl (sized s e)

-- ---- bytes with the length field of another number

no_answer : (s : List ℕ) → kind_of s ≡ refusal_kind → is_answer s ≡ false
unfolding is_answer
no_answer s kind = rw (ne_eqb (kind_of s) answer_kind (λ e. omega (arith, kind, e)))

pub wrong_length_malformed : (s : List ℕ) → kind_of s ≡ refusal_kind → (value_of LENGTH s ≡ length_for (refusal_size (number_of s)) → ⊥) →
    is_outcome s ≡ false
unfolding is_outcome
wrong_length_malformed s kind wrong = by (is_refusal s) refl
  where
    by : (refusal : Bool) → is_refusal s ≡ refusal → is_outcome s ≡ false
    by true e = let told = sized s e in absurd (wrong (omega (arith, told.field)))
    by false e = rw (e, no_answer s kind)
