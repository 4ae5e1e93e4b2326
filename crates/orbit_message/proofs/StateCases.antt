-- An option that is `Some` if a test passes (`test_failed`, `test_passed`).
-- The cases of rounding or reading a vector: a component is missing (`no_first`, `no_second`, `no_third`), or none is (`all_three`).
-- The cases of rounding a state: a vector is missing (`no_position`, `no_velocity`), or none is (`both_vectors`).
use mathlib.Core.Path.{◌≡◌, refl}
use mathlib.Core.Bool.{Bool, true, false, cond, and-false}
use mathlib.Core.List.{[], ◌∷◌}
use Rattle.std.specs.Prelude.{Option, Some, None}
use Rattle.float64.specs.declared.Vector.{Vector}
use Rattle.decimal.specs.declared.Decimal.{Decimal}
use Rattle.decimal.specs.Decimals.{is_in_range}
use Rattle.orbit_message.specs.Texts.{every}
use Rattle.orbit_message.specs.Writing.{components}
use Rattle.orbit_message.specs.States.{rounded_vector, vector_of, state_of}
use Rattle.orbit_message.specs.declared.states.DecimalVector.{DecimalVector}
use Rattle.orbit_message.proofs.TemplateValues.{zero_is_one}
use Rattle.orbit_message.proofs.EveryElement.{every_append}

-- ---- a value if a test passes

pub test_failed : {A : Type 0} (b : Bool) (d : A) (r : Option A) → r ≡ cond b (Some d) None → r ≡ None → b ≡ false
test_failed true d r e f = zero_is_one cc
test_failed false d r e f = refl

pub test_passed : {A : Type 0} (b : Bool) (d x : A) (r : Option A) → r ≡ cond b (Some d) None → r ≡ Some x → (b ≡ true) × (x ≡ d)
test_passed true d x r e f = (refl, cc)
test_passed false d x r e f = zero_is_one cc

-- ---- three decimals

module _ {A : Type 0} (test : A → Bool) (make : A → Decimal) (u v w : A) where
  abbrev pub vector_result : Option DecimalVector
  vector_result =
      cond (every test (u ∷ (v ∷ (w ∷ []))))
      (Some (record { x = make u; y = make v; z = make w }))
      None

  pub no_first : test u ≡ false → None ≡ vector_result
  unfolding every
  no_first e = rw e

  pub no_second : test v ≡ false → None ≡ vector_result
  unfolding every
  no_second e = rw (e, and-false (test u))

  pub no_third : test w ≡ false → None ≡ vector_result
  unfolding every
  no_third e = rw (e, and-false (test v), and-false (test u))

  pub all_three : (x y z : Decimal) → (test u ≡ true) × (x ≡ make u) → (test v ≡ true) × (y ≡ make v) → (test w ≡ true) × (z ≡ make w)
      → Some (record { x = x; y = y; z = z }) ≡ vector_result
  unfolding every
  all_three x y z e f g = rw (e.0, f.0, g.0, e.1, f.1, g.1)

-- ---- two vectors

module _ (r v : Vector) where
  pub no_position : (p : Option DecimalVector) → p ≡ vector_of r → p ≡ None → None ≡ state_of r v
  unfolding vector_of state_of
  no_position p e f =
      let out = test_failed (every is_in_range (components r)) (rounded_vector r) p e f in
      rw (every_append is_in_range (components r) (components v), out)

  pub no_velocity : (q : Option DecimalVector) → q ≡ vector_of v → q ≡ None → None ≡ state_of r v
  unfolding vector_of state_of
  no_velocity q e f =
      let out = test_failed (every is_in_range (components v)) (rounded_vector v) q e f in
      rw (every_append is_in_range (components r) (components v), out, and-false (every is_in_range (components r)))

  pub both_vectors : (p q : Option DecimalVector) (x y : DecimalVector) → p ≡ vector_of r → p ≡ Some x
      → q ≡ vector_of v → q ≡ Some y → Some (record { position = x; velocity = y }) ≡ state_of r v
  unfolding vector_of state_of
  both_vectors p q x y e f g h =
      let first = test_passed (every is_in_range (components r)) (rounded_vector r) x p e f in
      let second = test_passed (every is_in_range (components v)) (rounded_vector v) y q g h in
      rw (every_append is_in_range (components r) (components v), first.0, second.0, first.1, second.1)
