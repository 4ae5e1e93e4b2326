-- `post_rest` meets its contract: what it reads is the rest of the record.
use Rattle.std.proofs.Common.{◌≡◌, ◌+◌, ◌-◌, Ok, subst, rules, arith}
use Rattle.std.specs.Io.{ReadsAtMost}
use Rattle.standard_input.specs.Reading.{Taken}
use Rattle.post.proofs.WhatIsRead.{rest_read}
use Rattle.post.proofs.post_rest.Goals as goal

pub returns-clause-input : goal.returns-clause-input
returns-clause-input g c =
    let is : c.fill.result ≡ Ok c.in_ok-more.more = search rules in
    rest_read _ (g.R.Read.remaining c.fill.new.input) c.args.bytes.now c.fill.new.buffer c.args.n c.args.rest c.in_ok-more.more
    (c.args.n + c.args.rest - c.args.n) c.args.place c.args.board.now c.post.new.board
    (omega arith) (subst (λ r. ReadsAtMost r c.fill.new.buffer) is c.fill.ensures.within).0 (search rules)
    (subst (Taken (g.R.Read.remaining c.args.input.now) (g.R.Read.remaining c.fill.new.input) c.fill.new.buffer) is c.fill.ensures.bytes)
    c.post.ensures.board
