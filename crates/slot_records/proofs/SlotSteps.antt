-- The output for a slot of which no byte was read (`none_came`, `none_reply`, `none_written`), and for any other slot (`some_came`).
use mathlib.Core.Path.{◌≡◌, sym, ap, ◌∙◌}
use mathlib.Core.Bool.{false}
use mathlib.Core.List.{List, []}
use Prim.Native.Nat.{ℕ}
use native.Mathlib.Omega.{arith}
use borrow.Author.Tests.{eq-eqb, ne_eqb}
use lib.Dec.{eqb}
use lib.ListN.{length}
use Rattle.question_record.specs.Record.{record_of}
use Rattle.little_endian.specs.Bytes.{written}
use Rattle.little_endian.proofs.Laid.{laid}
use Rattle.records.specs.Layout.{question_size}
use Rattle.slot_records.specs.Inputs.{slot_record, slot_reply}

pub some_came : (came : List ℕ) → (length came ≡ 0 → ⊥) → slot_record came ≡ record_of came
unfolding slot_record
some_came came h = rw (ne_eqb (length came) 0 h)

module _ (came : List ℕ) (h : length came ≡ 0) where
  pub none_came : slot_record came ≡ []
  unfolding slot_record
  none_came = rw (eq-eqb (length came) 0 h)

  pub none_reply : record { size = 0; another = false } ≡ slot_reply came
  unfolding slot_reply
  none_reply = sym (ap (λ (n : ℕ). record { size = length (slot_record came); another = eqb n question_size }) h
      ∙ ap (λ (s : List ℕ). record { size = length s; another = false }) none_came)

  pub none_written : (buffer : List ℕ) → buffer ≡ written buffer (slot_record came)
  none_written buffer = sym (ap (written buffer) none_came ∙ laid buffer [] (omega arith))
