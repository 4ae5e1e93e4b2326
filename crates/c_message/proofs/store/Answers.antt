-- `store` meets its contract: the eighteen numbers, each stored in eight bytes, are the words of the state.
use mathlib.Core.Path.{◌≡◌, sym, ap, ◌∙◌}
use mathlib.Core.Bool.{Bool, cond}
use lib.ListN.{replicate}
use Rattle.little_endian.specs.Bytes.{has_room, written}
use Rattle.little_endian.specs.Tables.{packed}
use Rattle.c_message.specs.Numbers.{state_words, words_of, stored_of}
use Rattle.c_message.proofs.Words.{state_packed}
use Rattle.c_message.proofs.store.Goals as goal
use Rattle.c_message.proofs.store.Goals.{After-numbers_of}

-- The bytes that are stored, and what `put_numbers` says about them.
bytes_are : (c : After-numbers_of) →
    packed (replicate 18 8) c.numbers_of.result ≡ words_of (state_words c.args.state)
bytes_are c = ap (packed (replicate 18 8)) c.numbers_of.ensures ∙ state_packed c.args.state

pub returns-then-put_numbers : goal.returns-then-put_numbers
unfolding stored_of
returns-then-put_numbers c =
    let put = c.put_numbers in
    let bytes = bytes_are (goal.at.returns-then-put_numbers c).After-numbers_of in
    let out = c.args.out.now in
    let room = sym c.if-put_numbers.true ∙ put.ensures.room ∙ ap (has_room out) bytes in
    record { result = ap (λ (b : Bool). cond b 0 8) room; buffer = put.ensures.bytes ∙ ap (written out) bytes }

pub returns-else-put_numbers : goal.returns-else-put_numbers
unfolding stored_of
returns-else-put_numbers c =
    let put = c.put_numbers in
    let bytes = bytes_are (goal.at.returns-else-put_numbers c).After-numbers_of in
    let out = c.args.out.now in
    let room = sym c.if-put_numbers.false ∙ put.ensures.room ∙ ap (has_room out) bytes in
    record { result = ap (λ (b : Bool). cond b 0 8) room; buffer = put.ensures.bytes ∙ ap (written out) bytes }
