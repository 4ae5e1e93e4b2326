-- The reader after a piece of the link (02, A2). Definitions only.
use Rattle.std.specs.Prelude.{ℕ, zero, suc, cond, List, eqb, length, drop}
use Rattle.link_reader.specs.declared.Reader.{Reader}
use Rattle.link_reader.specs.Reading.{read_of}

-- The reader after a piece is passed in, and the bytes that a call did not take are passed in again, in at most the given number of
-- calls.
unfoldable pub reader_for : ℕ → Reader → List ℕ → Reader
reader_for zero r piece = r
reader_for (suc calls) r piece =
    let s = read_of r piece in
    let rest = drop s.taken piece in
    cond (eqb (length rest) 0) s.next (reader_for calls s.next rest)

-- The same, in at most one call more than the piece has bytes.
unfoldable pub reader_after : Reader → List ℕ → Reader
reader_after r piece = reader_for (suc (length piece)) r piece
