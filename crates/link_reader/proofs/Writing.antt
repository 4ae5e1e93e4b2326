-- Bytes written at the start of the buffer, where the buffer already begins with some of them. Bytes put after the kept ones are written
-- together with these (`put_after`). The bytes of a finished question are the kept ones and the bytes of the piece that are missing, or
-- they are all kept already (`question_written`).
use mathlib.Core.Path.{◌≡◌, refl, sym, ap, ◌∙◌}
use mathlib.Core.Bool.{Bool, true, false}
use mathlib.Core.List.{List, ◌++◌, append_assoc, append-nil}
use Prim.Native.Nat.{ℕ, ◌+◌, ◌-◌, ◌≤◌}
use native.Mathlib.Omega.{arith}
use borrow.Author.Tests.{leb-true, leb-false}
use borrow.Rule.Slice.PartMut.{put_mid}
use lib.Dec.{leb}
use lib.ListN.{length, take, drop, length-append, length-take, take-append-drop}
use lib.Seq.{take-append-add, take-append-le, take-take, drop-drop, length-take-le}
use Rattle.little_endian.specs.Bytes.{written}
use Rattle.little_endian.proofs.Laid.{laid}
use Rattle.little_endian.proofs.Cuts.{take_cut}
use Rattle.link_reader.specs.declared.Reader.{Reader}
use Rattle.link_reader.specs.Reading.{kept_of}

-- The kept bytes are as many of the buffer's as their length says.
kept_front : (r : Reader) → take (length (kept_of r)) r.bytes ≡ kept_of r
kept_front r = rw (length-take r.count r.bytes) (take_cut r.count r.bytes)

kept_within : (r : Reader) → length (kept_of r) ≤ length r.bytes
kept_within r = omega (arith, length-take r.count r.bytes)

pub put_after : (r : Reader) (k : ℕ) (more new : List ℕ) → length (kept_of r) + length more ≤ length r.bytes
    → new ≡ more → k ≡ length more → put_mid (length (kept_of r)) k r.bytes new ≡ written r.bytes (kept_of r ++ more)
put_after r k more new h e f =
    let n = length (kept_of r) in
    let rest = drop (n + length more) r.bytes in
    let all = length-append (kept_of r) more in
    let put : put_mid n k r.bytes new ≡ kept_of r ++ (more ++ rest) = rw (e, f, kept_front r, drop-drop (length more) n r.bytes) refl in
    let wrote : written r.bytes (kept_of r ++ more) ≡ kept_of r ++ more ++ rest =
    laid r.bytes (kept_of r ++ more) (omega (arith, all)) ∙ ap (λ (j : ℕ). kept_of r ++ more ++ drop j r.bytes) all in
    put ∙ sym (append_assoc (kept_of r) more rest) ∙ sym wrote

-- Writing the first bytes of a buffer again changes nothing.
written_again : (n : ℕ) (buffer : List ℕ) → n ≤ length buffer → written buffer (take n buffer) ≡ buffer
written_again n buffer h =
    let long = length-take-le n buffer h in
    laid buffer (take n buffer) (omega (arith, long)) ∙ ap (λ (j : ℕ). take n buffer ++ drop j buffer) long ∙ take-append-drop n buffer

module _ (r : Reader) (piece : List ℕ) (size : ℕ) where
  abbrev n : ℕ
  n = length (kept_of r)

  abbrev missing : ℕ
  missing = size - n

  abbrev Same : Type 0
  Same = written r.bytes (kept_of r ++ take missing piece) ≡ written r.bytes (take size (kept_of r ++ piece))

  -- The bytes of the question are all kept already, and the buffer begins with them.
  all_kept : size ≤ n → Same
  all_kept h =
      let none : missing ≡ 0 = omega arith in
      let before : kept_of r ++ take missing piece ≡ take n r.bytes =
      ap (λ (k : ℕ). kept_of r ++ take k piece) none ∙ append-nil (kept_of r) ∙ sym (kept_front r) in
      let after : take size (kept_of r ++ piece) ≡ take size r.bytes =
      take-append-le size (kept_of r) piece h ∙ ap (take size) (sym (kept_front r)) ∙ take-take size n r.bytes h in
      ap (written r.bytes) before ∙ written_again n r.bytes (kept_within r)
      ∙ sym (ap (written r.bytes) after ∙ written_again size r.bytes (omega (arith, kept_within r)))

  -- The bytes of the question are the kept ones and bytes of the piece.
  some_missing : n ≤ size → Same
  some_missing h =
      let sum : size ≡ n + missing = omega arith in
      ap (written r.bytes) (sym (ap (λ (k : ℕ). take k (kept_of r ++ piece)) sum ∙ take-append-add (kept_of r) piece missing))

  pub question_written : written r.bytes (kept_of r ++ take (size - length (kept_of r)) piece)
      ≡ written r.bytes (take size (kept_of r ++ piece))
  question_written = by (leb size n) refl
    where
      by : (b : Bool) → leb size n ≡ b → Same
      by true e = all_kept (leb-true size n e)
      by false e = some_missing (omega (arith, leb-false size n e))
