-- The bytes of a conflict, for any job and revision: they are a conflict (`conflict_is`), a slot may hold them
-- (`conflict_held`), and they are not an outcome (`conflict_no_outcome`).
use mathlib.Core.Path.{◌≡◌, refl}
use mathlib.Core.Bool.{true, false}
use Prim.Native.Nat.{ℕ}
use borrow.Author.Tests.{eq-eqb}
use lib.ListN.{length}
use Rattle.records.specs.Layout.{conflict_size, size_of}
use Rattle.records.specs.Records.{conflict_bytes}
use Rattle.records.proofs.Sizes.{conflict_length}
use Rattle.records.proofs.SingleFields.{conflict_kind_lem, conflict_size_lem}
use Rattle.outcomes.specs.Outcomes.{is_sized, is_refusal, is_answer, is_outcome}
use Rattle.slots.specs.Slots.{is_conflict, is_held}

module _ (job revision : ℕ) where
  pub conflict_no_outcome : is_outcome (conflict_bytes job revision) ≡ false
  unfolding is_outcome is_refusal is_answer
  conflict_no_outcome = rw (conflict_kind_lem job revision) refl

  pub conflict_is : is_conflict (conflict_bytes job revision) ≡ true
  unfolding is_conflict is_sized
  conflict_is =
      let c = conflict_bytes job revision in
      let long = eq-eqb (length c) conflict_size (conflict_length job revision) in
      rw (conflict_kind_lem job revision, long, eq-eqb (size_of c) conflict_size (conflict_size_lem job revision)) refl

  pub conflict_held : is_held (conflict_bytes job revision) ≡ true
  unfolding is_held
  conflict_held = rw (conflict_no_outcome, conflict_is) refl
