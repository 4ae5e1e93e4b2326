-- `lambert_opm_write` meets its contract: it returns the result of `write` as one number.
use mathlib.Core.Path.{◌≡◌, sym, ap, ◌∙◌}
use lib.Ieee.{Float}
use Rattle.float64.specs.declared.Vector.{Vector}
use Rattle.orbit_message.specs.Writing.{WriteResult, write_of}
use Rattle.c_message.specs.Numbers.{write_number, vector_of_bits}
use Rattle.c_message.proofs.lambert_opm_write.Goals as goal
use Rattle.c_message.proofs.lambert_opm_write.Goals.{After-write}

-- What `write` gives for the vector of the given bits.
abbrev definition : After-write → WriteResult
definition c =
    let a = c.args in
    write_of a.answer.now a.entry (vector_of_bits a.x a.y a.z) a.texts.now a.out.now

same_vector : {x y z u v w : Float} → x ≡ u → y ≡ v → z ≡ w →
    ◌≡◌ {A = Vector} (record { x = x; y = y; z = z }) (record { x = u; y = v; z = w })
same_vector e f g = rw (e, f, g)

result_is : (c : After-write) → c.write.result ≡ (definition c).result
result_is c =
    let a = c.args in
    let same = same_vector c.from_bits.ensures c.from_bits-2.ensures c.from_bits-3.ensures in
    c.write.ensures.result ∙ ap (λ (r : Vector). (write_of a.answer.now a.entry r a.texts.now a.out.now).result) same

buffer_is : (c : After-write) → c.write.new.out ≡ (definition c).buffer
buffer_is c =
    let a = c.args in
    let same = same_vector c.from_bits.ensures c.from_bits-2.ensures c.from_bits-3.ensures in
    c.write.ensures.buffer ∙ ap (λ (r : Vector). (write_of a.answer.now a.entry r a.texts.now a.out.now).buffer) same

pub returns-in-Ok : goal.returns-in-Ok
returns-in-Ok c =
    let called = (goal.at.returns-in-Ok c).After-write in
    record { result = ap write_number (sym c.in-Ok.is ∙ result_is called); buffer = buffer_is called }

pub returns-in-Err : goal.returns-in-Err
returns-in-Err c =
    let called = (goal.at.returns-in-Err c).After-write in
    let number = ap write_number (sym c.in-Err.is ∙ result_is called) in
    record { result = c.from-in-Err.ensures ∙ c.from.ensures ∙ number; buffer = buffer_is called }
