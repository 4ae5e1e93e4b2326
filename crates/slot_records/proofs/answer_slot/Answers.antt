-- `answer_slot` meets its contract: it writes nothing if no byte was read, and otherwise the record of the bytes that were read.
use mathlib.Core.Path.{◌≡◌, sym, ap, ◌∙◌}
use Prim.Native.Nat.{ℕ}
use native.Mathlib.Omega.{arith}
use lib.Dec.{eqb}
use lib.ListN.{length}
use Rattle.little_endian.specs.Bytes.{written}
use Rattle.records.specs.Layout.{question_size}
use Rattle.slot_records.specs.Inputs.{slot_reply}
use Rattle.slot_records.proofs.SlotSteps.{some_came, none_came, none_reply, none_written}
use Rattle.slot_records.proofs.answer_slot.Goals as goal

pub returns-then-came-eq0 : goal.returns-then-came-eq0
returns-then-came-eq0 c =
    let a = c.args in
    let came = a.came.now in
    let none : length came ≡ 0 = omega (arith, c.if-came-eq0.true) in
    record {
      reply = none_reply came none;
      buffer = none_written came none a.out.now;
      within = (omega arith, omega arith);
      bytes = sym (none_came came none);
    }

pub returns : goal.returns
unfolding slot_reply
returns c =
    let a = c.args in
    let came = a.came.now in
    let e = c.record_of-size.ensures in
    let whole = sym (some_came came c.if-came-eq0.false) in
    record {
      reply = ap (λ (n : ℕ). record { size = n; another = eqb (length came) question_size }) (e.size ∙ ap length whole);
      buffer = e.buffer ∙ ap (written a.out.now) whole;
      within = e.within;
      bytes = e.«record» ∙ whole;
    }
