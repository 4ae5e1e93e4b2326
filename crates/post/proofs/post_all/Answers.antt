-- `post_all` meets its contract: each round posts at most one more record.
use Rattle.std.proofs.Common.{◌≡◌, ℕ, List, [], ◌∷◌, ◌++◌, take, Some, None, Ok, Err, sym, refl, ap, ◌∙◌, subst, rules}
use Rattle.board.specs.Board.{post_of}
use Rattle.board.specs.Posting.{post_all}
use Rattle.record_stream.specs.declared.Start.{Start}
use Rattle.record_stream.specs.declared.Start.TheVariants as start
use Rattle.record_stream.specs.Streams.{start_of}
use Rattle.post.specs.Posting.{Next, AfterRest, AfterStart, AfterNext, unread, begun, Postings}
use Rattle.post.proofs.WhatIsRead.{none_read, one_read, all_read}
use Rattle.post.proofs.post_all.Goals as goal

-- ---- one more record

post_last : (board : List ℕ) (ms : List (List ℕ)) (m : List ℕ) → post_all board (ms ++ (m ∷ [])) ≡ (post_of (post_all board ms) m).board
unfolding post_all
post_last board [] m = refl
post_last board (n ∷ ms) m = post_last (post_of board n).board ms m

module _ (first board buffer after : List ℕ) (place : ℕ) (so_far : Postings first board) where
  stays : after ≡ board → Postings first after
  stays is = subst (Postings first) (sym is) so_far

  posted : (m : List ℕ) → after ≡ (post_of board m).board → Postings first after
  posted m is =
      record {
        records = so_far.records ++ (m ∷ []);
        posts = is ∙ ap (λ (b : List ℕ). (post_of b m).board) so_far.posts ∙ sym (post_last first so_far.records m);
      }

  by_rest : (n rest : ℕ) (next : Next) → AfterRest n rest place board buffer after next → Postings first after
  by_rest n rest (Ok (Some next)) is = posted (take is.size buffer) is.posts
  by_rest n rest (Ok None) is = absurd is
  by_rest n rest (Err f) is = stays is

  by_start : (s : Start) (n : ℕ) (next : Next) → AfterStart s n place board buffer after next → Postings first after
  by_start start.End n next is = stays is.1
  by_start (start.Record rest) n next is = by_rest n rest next is
  by_start start.NoRecord n next is = stays is.1

  by_next : (next : Next) → AfterNext place board buffer after next → Postings first after
  by_next next (unread failed is) = stays is
  by_next next (begun n few is) = by_start (start_of (take n buffer)) n next is

-- ---- the loop

none_yet : (board : List ℕ) → Postings board board
unfolding post_all
none_yet board = record { records = []; posts = refl }

pub loop-init : goal.loop-init
loop-init g c = (none_yet c.args.board.now, none_read _ c.args.board.now)

pub loop-preserved : goal.loop-preserved
loop-preserved g c = (
  by_next _ c.loop.board c.post_next.new.bytes c.post_next.new.board c.loop.place c.loop.invariant.0
      c.post_next.result c.post_next.ensures.board,
  one_read c.args.board.now c.loop.board c.post_next.new.board (g.R.Read.remaining c.post_next.new.input) c.post_next.result
      (g.R.Read.remaining c.args.input.now) (g.R.Read.remaining c.loop.input) c.in-Some.next (search rules) c.loop.invariant.1
      c.post_next.ensures.input,
)

pub returns-in-None : goal.returns-in-None
returns-in-None g c = record {
  postings =
      by_next _ c.loop.board c.post_next.new.bytes c.post_next.new.board c.loop.place c.loop.invariant.0
      c.post_next.result c.post_next.ensures.board;
  input =
      all_read c.args.board.now c.loop.board c.post_next.new.board (g.R.Read.remaining c.post_next.new.input) c.post_next.result
      (g.R.Read.remaining c.args.input.now) (g.R.Read.remaining c.loop.input) (search rules) c.loop.invariant.1
      c.post_next.ensures.input;
}

pub returns-in_err-next-clause-postings : goal.returns-in_err-next-clause-postings
returns-in_err-next-clause-postings g c =
    by_next _ c.loop.board c.post_next.new.bytes c.post_next.new.board c.loop.place c.loop.invariant.0
    c.post_next.result c.post_next.ensures.board
