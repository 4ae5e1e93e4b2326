-- `post_all` changes the board only by posting records. The loop invariant: the board is the initial one with the records so far posted
-- on it, and the rest of the input is left.
use Rattle.std.proofs.Common.{IfSome}
use Rattle.post.specs.Posting.{Postings}
use Rattle.post.proofs.WhatIsRead.{SoFar}
use Rattle.post.proofs.post_all.Given as goal

abbrev pub invariant-loop : goal.invariant-loop
invariant-loop g l =
    Postings l.initial.board l.board
    × IfSome (g.R.Read.remaining l.initial.input) (λ xs. SoFar xs (g.R.Read.remaining l.input) l.initial.board l.board)
