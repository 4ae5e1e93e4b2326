-- `change_of` meets its contract. The proof splits on which revision is higher and, if they are equal, on whether the
-- bytes are the same.
use mathlib.Core.Path.{◌≡◌, refl, sym, ap, ◌∙◌}
use mathlib.Core.Bool.{false}
use mathlib.Core.List.{List}
use Prim.Native.Nat.{ℕ}
use native.Mathlib.Omega.{arith}
use borrow.Author.Tests.{lt-ltb, le-ltb}
use lib.Dec.{ltb}
use lib.ListN.{take}
use lib.Seq.{length-take-le}
use Rattle.little_endian.proofs.Cuts.{take_cut}
use Rattle.records.specs.Layout.{revision_of, size_of}
use Rattle.slots.specs.Slots.{content_of, same_bytes}
use Rattle.slots.proofs.Held.{slot_revision}
use Rattle.board.specs.Board.{joined}
use Rattle.board.proofs.moves.change_of.Goals as goal
use Rattle.board.proofs.moves.change_of.Goals.{After-revision_of-new, After-same_bytes}

-- A slot and its content have the same revision.
same_revision : (c : After-revision_of-new) → revision_of (content_of c.args.slot.now) ≡ revision_of c.args.slot.now
same_revision c =
    let slot = c.args.slot.now in
    sym (ap revision_of c.requires ∙ slot_revision (content_of slot))

-- The bytes that the code compares with the record are the slot's content.
content_is : (c : After-same_bytes) → c.same_bytes.result ≡ same_bytes (content_of c.args.slot.now) c.args.message.now
unfolding content_of
content_is c =
    let slot = c.args.slot.now in
    let cut = ap (λ (n : ℕ). take n slot) c.content_size-size.ensures ∙ take_cut (size_of slot) slot in
    c.same_bytes.ensures ∙ ap (λ (l : List ℕ). same_bytes l c.args.message.now) cut

pub returns-then-held-new : goal.returns-then-held-new
unfolding joined
returns-then-held-new c =
    let held = revision_of c.args.slot.now in
    let new = revision_of c.args.message.now in
    let newer = lt-ltb held new (omega (arith, c.revision_of-held.ensures, c.revision_of-new.ensures, c.if-held-new.true)) in
    rw (same_revision (goal.at.returns-then-held-new c).After-revision_of-new, newer) refl

pub returns-then-new-held : goal.returns-then-new-held
unfolding joined
returns-then-new-held c =
    let held_is = c.revision_of-held.ensures in
    let new_is = c.revision_of-new.ensures in
    let held = revision_of c.args.slot.now in
    let new = revision_of c.args.message.now in
    let not_newer = le-ltb held new (omega (arith, held_is, new_is, c.if-new-held.true)) in
    let older = lt-ltb new held (omega (arith, held_is, new_is, c.if-new-held.true)) in
    rw (same_revision (goal.at.returns-then-new-held c).After-revision_of-new, not_newer, older) refl

-- Neither revision is below the other.
level : (c : After-same_bytes) →
    let held = revision_of c.args.slot.now in
    let new = revision_of c.args.message.now in
    (ltb held new ≡ false) × (ltb new held ≡ false)
level c =
    let held_is = c.revision_of-held.ensures in
    let new_is = c.revision_of-new.ensures in
    let held = revision_of c.args.slot.now in
    let new = revision_of c.args.message.now in (
      le-ltb held new (omega (arith, held_is, new_is, c.if-held-new.false)),
      le-ltb new held (omega (arith, held_is, new_is, c.if-new-held.false)),
    )

pub slice_bounds-same_bytes-end : goal.slice_bounds-same_bytes-end
slice_bounds-same_bytes-end c =
    sym (length-take-le c.content_size-size.result c.args.slot.now (omega (arith, c.content_size-size.ensures)))

pub returns-then-same_bytes : goal.returns-then-same_bytes
unfolding joined
returns-then-same_bytes c =
    let at = goal.at.returns-then-same_bytes c in
    let even = level at.After-same_bytes in
    rw (same_revision at.After-revision_of-new, even.0, even.1, ← content_is at.After-same_bytes, c.if-same_bytes.true) refl

pub returns : goal.returns
unfolding joined
returns c =
    let at = goal.at.returns c in
    let even = level at.After-same_bytes in
    rw (same_revision at.After-revision_of-new, even.0, even.1, ← content_is at.After-same_bytes, c.if-same_bytes.false) refl
