-- `post_next` meets its contract: at most as many bytes are read as a length field has, and the rest follows from what `post_after`
-- ensures.
use Rattle.std.proofs.Common.{◌≡◌, Ok, subst, rules}
use Rattle.std.specs.Io.{ReadsAtMost}
use Rattle.standard_input.specs.Reading.{Taken}
use Rattle.records.specs.Layout.{LENGTH}
use Rattle.post.specs.Posting.{AfterNext.unread, AfterNext.begun}
use Rattle.post.proofs.WhatIsRead.{record_read}
use Rattle.post.proofs.post_next.Goals as goal

pub returns-in_err-n-clause-board : goal.returns-in_err-n-clause-board
returns-in_err-n-clause-board g c = unread (search rules) (search rules)

pub returns-clause-board : goal.returns-clause-board
returns-clause-board g c = begun c.in_ok-n.n (search rules) c.post_after.ensures.board

pub returns-clause-input : goal.returns-clause-input
returns-clause-input g c =
    let is : c.fill.result ≡ Ok c.in_ok-n.n = search rules in
    record_read _ (g.R.Read.remaining c.fill.new.input) (g.R.Read.remaining c.post_after.new.input) c.args.bytes.now c.fill.new.buffer
    c.in_ok-n.n LENGTH.width c.post_after.result c.args.board.now c.post_after.new.board
    (subst (λ r. ReadsAtMost r c.fill.new.buffer) is c.fill.ensures.within).0 (search rules)
    (subst (Taken (g.R.Read.remaining c.args.input.now) (g.R.Read.remaining c.fill.new.input) c.fill.new.buffer) is c.fill.ensures.bytes)
    c.post_after.ensures.input
