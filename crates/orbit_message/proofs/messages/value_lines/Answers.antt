-- `value_lines` meets its contract: the texts, and then six lines.
use mathlib.Core.Path.{ap, ◌∙◌}
use mathlib.Core.List.{List, map, ◌++◌}
use Prim.Native.Nat.{ℕ}
use native.Mathlib.Omega.{arith}
use Rattle.decimal.specs.Texts.{text_of}
use Rattle.orbit_message.specs.Fillings.{filled_bytes}
use Rattle.orbit_message.specs.States.{vector_numbers}
use Rattle.orbit_message.proofs.ValueLines.{all_appended}
use Rattle.orbit_message.proofs.messages.value_lines.Goals as goal

pub returns : goal.returns
returns c =
    let args = c.args in
    let texts = c.append in
    let position = c.append_vector in
    let velocity = c.append_vector-2 in
    let first = map text_of (vector_numbers args.state.position) in
    let second = map text_of (vector_numbers args.state.velocity) in
    let after_texts = filled_bytes texts.new.self in
    let after_position = filled_bytes position.new.self in
    let after_velocity = filled_bytes velocity.new.self in
    let first_texts = texts.ensures.0 ∙ ap (λ (none : List ℕ). none ++ args.texts.now) c.new-lines.ensures.0 in
    let bytes =
    all_appended args.texts.now first second after_texts after_position after_velocity
    first_texts position.ensures.0 velocity.ensures.0 in
    (bytes, omega (arith, c.new-lines.ensures.1, texts.ensures.1, position.ensures.1, velocity.ensures.1))
