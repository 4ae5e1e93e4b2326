-- `message_of` meets its contract: the fourteen lines are the values of the message, and they fill its template.
use mathlib.Core.Path.{◌≡◌, refl, sym, ap, ◌∙◌}
use mathlib.Core.List.{◌++◌, map}
use Prim.Native.Nat.{◌≤◌}
use native.Mathlib.Omega.{arith}
use borrow.Author.Rules.{rules}
use lib.ListN.{length}
use lib.Seq.{length-take-le}
use Rattle.decimal.specs.Texts.{text_of}
use Rattle.orbit_message.specs.Texts.{texts_in}
use Rattle.orbit_message.specs.Messages.{message_of}
use Rattle.orbit_message.specs.Fillings.{filled_bytes}
use Rattle.orbit_message.specs.States.{state_numbers, Lined}
use Rattle.orbit_message.proofs.MessageTemplate.{message_filled}
use Rattle.orbit_message.proofs.ValueLines.{texts_lined, fourteen_values, lined, texts_room}
use Rattle.orbit_message.proofs.messages.message_of.Goals as goal
use Rattle.orbit_message.proofs.messages.message_of.Goals.{Start, After-value_lines-values}

-- The texts take at most 488 bytes.
room : (c : Start) → length c.args.texts.now ≤ 488
room c =
    let texts = c.args.texts.now in
    let size = ap length (texts_lined texts c.requires) in
    omega (arith, size, texts_room (texts_in texts) (state_numbers c.args.state) c.requires refl)

pub value_lines-values-requires : goal.value_lines-values-requires
value_lines-values-requires c = omega (arith, room (goal.at.value_lines-values-requires c).Start)

-- The array has room for the lines, and the lines are fourteen values.
held : (c : After-value_lines-values) → length c.args.texts.now ≤ 488
    → c.value_lines-values.result.length ≤ length c.value_lines-values.result.bytes
held c small =
    let lines = c.value_lines-values in
    let sized : length lines.result.bytes ≡ 1100 = search (rules, lines.type_inv) in
    omega (arith, sized, lines.ensures.1)

lines_are : (c : After-value_lines-values)
    → Lined (filled_bytes c.value_lines-values.result) (texts_in c.args.texts.now ++ map text_of (state_numbers c.args.state))
lines_are c =
    let texts = c.args.texts.now in
    let numbers = state_numbers c.args.state in
    let bytes = filled_bytes c.value_lines-values.result in
    lined (texts_in texts) numbers c.requires refl texts bytes (texts_lined texts c.requires) c.value_lines-values.ensures.0

pub slice_bounds-bytes-end : goal.slice_bounds-bytes-end
slice_bounds-bytes-end c =
    let at = goal.at.slice_bounds-bytes-end c in
    held at.After-value_lines-values (room at.Start)

pub slice_bounds-fill_message-end : goal.slice_bounds-fill_message-end
slice_bounds-fill_message-end c =
    let at = goal.at.slice_bounds-fill_message-end c in
    let lines = c.value_lines-values.result in
    sym (length-take-le lines.length lines.bytes (held at.After-value_lines-values (room at.Start)))

pub fill_message-requires : goal.fill_message-requires
fill_message-requires c =
    let values = texts_in c.args.texts.now ++ map text_of (state_numbers c.args.state) in
    (values, lines_are (goal.at.fill_message-requires c).After-value_lines-values)

pub returns : goal.returns
unfolding message_of
returns c =
    let texts = texts_in c.args.texts.now in
    let numbers = state_numbers c.args.state in
    let values = texts ++ map text_of numbers in
    let many = fourteen_values texts numbers c.requires refl in
    let said = c.fill_message.ensures in
    record {
      bytes = said.bytes values (lines_are (goal.at.returns c).After-value_lines-values) ∙ message_filled values many;
      size = said.size;
    }
