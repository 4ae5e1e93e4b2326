-- `feed` is safe and ends. The loop invariant: the calls that are left lead from the bytes that are left to the reader after the whole
-- piece.
use Rattle.std.proofs.Common.{◌≡◌, ◌+◌, ◌-◌}
use Rattle.link.specs.Pieces.{reader_for, reader_after}
use Rattle.link.proofs.feed.Given as goal

abbrev pub invariant-loop : goal.invariant-loop
invariant-loop g l = reader_for (l.end - l.counter + 1) l.reader l.rest ≡ reader_after l.initial.reader l.piece
