-- `departure_velocity` meets its contract: the entry starts after the head and the entries before it.
use mathlib.Core.Path.{◌≡◌, ap, ◌∙◌}
use mathlib.Core.List.{List}
use Prim.Native.Nat.{ℕ, ◌-◌}
use native.Mathlib.Omega.{arith}
use lib.ListN.{length, drop, length-drop}
use lib.Seq.{take_all}
use Rattle.records.specs.Layout.{answer_size}
use Rattle.records.specs.Records.{entry_of}
use Rattle.records.specs.declared.Entry.{Entry}
use Rattle.orbit_message.specs.Writing.{departure_velocity}
use Rattle.orbit_message.proofs.writer.departure_velocity.Goals as goal

pub returns : goal.returns
unfolding departure_velocity
returns c =
    let read = c.read_entry-e in
    let sized = c.answer_size-at in
    let args = c.args in
    let answer = args.answer.now in
    let at = sized.result in
    let rest : drop at answer ≡ drop (answer_size (args.entry - 1)) answer = ap (λ (n : ℕ). drop n answer) sized.ensures in
    let whole = take_all (length answer - at) (drop at answer) (omega (arith, length-drop at answer)) in
    ap (λ (e : Entry). e.v1) read.ensures ∙ ap (λ (s : List ℕ). (entry_of s).v1) (whole ∙ rest)
