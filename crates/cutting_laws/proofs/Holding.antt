-- A new reader fed with pieces gives out what the stream of these pieces holds (`holds`). Feeding one more piece gives what the longer
-- stream holds (`feed_holds`, by induction on `StreamHolds`), and so does feeding several (`feed_all_holds`, by induction on the
-- pieces).
use mathlib.Core.List.{List, [], ◌∷◌, ◌++◌, append-nil, append_assoc}
use Prim.Native.Nat.{ℕ, suc, ◌≤◌}
use native.Mathlib.Omega.{arith}
use lib.ListN.{length}
use lib.Seq.{take-append-le, drop-append-le}
use Rattle.link_reader.specs.declared.Reader.{Reader}
use Rattle.link_reader.specs.Reading.{as_new}
use Rattle.cutting_laws.specs.Feeding.{Given, feed, feed_all, concatenation, StreamHolds, unfinished, refused_length, next_question}
use Rattle.link_reader.proofs.Verdicts.{whole_fits}
use Rattle.cutting_laws.proofs.More.{bad_more, whole_more}
use Rattle.cutting_laws.proofs.Pieces.{new_holds, feed_kept}
use Rattle.cutting_laws.proofs.Refusals.{refused_piece}

pub feed_holds : {s : List ℕ} {gs : List Given} {r : Reader} (p : List ℕ) → StreamHolds s gs r
    → StreamHolds (s ++ p) (gs ++ (feed r p).given) (feed r p).reader
unfolding feed
feed_holds p (unfinished {stream} e) = (feed_kept (suc (length p)) stream p e (omega arith)).holds
feed_holds p (refused_length {stream} e) =
    rw (refused_piece p) (refused_length (bad_more p e))
feed_holds p (next_question {stream} {size = size} e h) =
    let enough : size ≤ length stream = (whole_fits e).0 in
    rw (← take-append-le size stream p enough)
    (next_question (whole_more p e) (rw (← drop-append-le size stream p enough) at (feed_holds p h)))

pub feed_all_holds : {s : List ℕ} {gs : List Given} {r : Reader} (ps : List (List ℕ)) → StreamHolds s gs r
    → StreamHolds (s ++ concatenation ps) (gs ++ (feed_all r ps).given) (feed_all r ps).reader
unfolding feed_all concatenation
feed_all_holds {s} {gs} [] h = rw (append-nil s, append-nil gs) h
feed_all_holds {s} {gs} {r} (p ∷ ps) h =
    rw (← append_assoc s p (concatenation ps), ← append_assoc gs (feed r p).given (feed_all (feed r p).reader ps).given)
    (feed_all_holds {s = s ++ p} {gs = gs ++ (feed r p).given} {r = (feed r p).reader} ps (feed_holds p h))

pub holds : (ps : List (List ℕ)) → StreamHolds (concatenation ps) (feed_all as_new ps).given (feed_all as_new ps).reader
holds ps = feed_all_holds ps new_holds
