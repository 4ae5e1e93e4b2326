-- `join` meets its contract. After each kind of change the slot holds what `joined` gives.
use mathlib.Core.Path.{◌≡◌, sym, ap, ◌∙◌}
use mathlib.Core.List.{List}
use Prim.Native.Nat.{ℕ}
use lib.ListN.{length}
use Rattle.records.specs.Layout.{answer_room}
use Rattle.records.specs.Records.{conflict_bytes}
use Rattle.slots.specs.Slots.{padded, slot_of, content_of}
use Rattle.slots.proofs.Padding.{padded_length}
use Rattle.board.specs.declared.moves.Change.{Change}
use Rattle.board.specs.declared.moves.Change.TheVariants.{Nothing, Replaced, Conflict}
use Rattle.board.specs.Board.{joined}
use Rattle.board.specs.Internals.{changed}
use Rattle.board.proofs.moves.join.Goals as goal
use Rattle.board.proofs.moves.join.Goals.{After-change_of}

-- The slot, the posted record, and the precondition: the slot is the one made from its content.
abbrev slot_at : After-change_of → List ℕ
slot_at c = c.args.slot.now

abbrev message_at : After-change_of → List ℕ
message_at c = c.args.message.now

ready : (c : After-change_of) → slot_at c ≡ slot_of (content_of (slot_at c))
ready c = c.requires

-- So it has the size of a slot.
sized : (c : After-change_of) → length (slot_at c) ≡ answer_room
sized c = ap length (ready c) ∙ padded_length answer_room (content_of (slot_at c))

-- The change that `change_of` found leads to what `joined` gives.
becomes : (c : After-change_of) (r : Change) → c.change_of.result ≡ r →
    changed r (content_of (slot_at c)) (message_at c) ≡ joined (content_of (slot_at c)) (message_at c)
becomes c r e = ap (λ (x : Change). changed x (content_of (slot_at c)) (message_at c)) (sym e) ∙ c.change_of.ensures

pub returns-in-Nothing : goal.returns-in-Nothing
returns-in-Nothing c =
    ready (goal.at.returns-in-Nothing c).After-change_of ∙ ap slot_of (becomes
    (goal.at.returns-in-Nothing c).After-change_of Nothing c.in-Nothing.is)

pub returns-in-Replaced : goal.returns-in-Replaced
returns-in-Replaced c =
    c.fill.ensures
    ∙ ap (λ (n : ℕ). padded n (message_at (goal.at.returns-in-Replaced c).After-change_of)) (sized
    (goal.at.returns-in-Replaced c).After-change_of)
    ∙ ap slot_of (becomes (goal.at.returns-in-Replaced c).After-change_of Replaced c.in-Replaced.is)

pub returns-in-Conflict : goal.returns-in-Conflict
returns-in-Conflict c =
    c.fill_conflict.ensures
    ∙ ap (λ (n : ℕ). padded n (conflict_bytes c.job_of.result c.revision_of.result)) (sized (goal.at.returns-in-Conflict c).After-change_of)
    ∙ ap slot_of (rw (c.job_of.ensures, c.revision_of.ensures) (becomes
    (goal.at.returns-in-Conflict c).After-change_of Conflict c.in-Conflict.is))
