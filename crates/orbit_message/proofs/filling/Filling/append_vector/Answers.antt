-- `append_vector` meets its contract: three lines follow what was written.
use native.Mathlib.Omega.{arith}
use Rattle.decimal.specs.Texts.{text_of}
use Rattle.orbit_message.specs.Fillings.{filled_bytes}
use Rattle.orbit_message.proofs.ValueLines.{three_appended}
use Rattle.orbit_message.proofs.filling.Filling.append_vector.Goals as goal

pub returns : goal.returns
returns c =
    let args = c.args in
    let v = args.v in
    let x = c.append_number in
    let y = c.append_number-2 in
    let z = c.append_number-3 in
    let three_texts = three_appended (text_of v.x) (text_of v.y) (text_of v.z) (filled_bytes args.self.now) in
    let after_three = three_texts (filled_bytes x.new.self) (filled_bytes y.new.self) (filled_bytes z.new.self) in
    let bytes = after_three x.ensures.0 y.ensures.0 z.ensures.0 in
    (bytes, omega (arith, x.ensures.1, y.ensures.1, z.ensures.1), omega (arith, x.ensures.2, y.ensures.2, z.ensures.2))
