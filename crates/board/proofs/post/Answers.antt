-- `post` meets its contract. Each refusal that the code returns is the first one in the order of `post_of`, and the bytes
-- that are lent as an array of the size of a board are those of the slice.
use mathlib.Core.Path.{◌≡◌, refl, sym, ap, ◌∙◌}
use mathlib.Core.Bool.{true, false}
use mathlib.Core.List.{List}
use Prim.Native.Nat.{ℕ}
use borrow.Author.Tests.{eq-eqb, ne_eqb}
use lib.ListN.{length}
use Rattle.records.specs.Layout.{job_of}
use Rattle.outcomes.specs.Outcomes.{is_outcome}
use Rattle.board.specs.declared.PostError.TheVariants.{NotABoard, Malformed, JobZero}
use Rattle.board.specs.Board.{board_size, is_board, PostResult, board_refusal, placed_on, post_of}
use Rattle.board.proofs.post.Goals as goal

-- ---- the cases of `post_of`

wrong_size : (b : List ℕ) → (length b ≡ board_size → ⊥) → is_board b ≡ false
unfolding is_board
wrong_size b other = rw (ne_eqb (length b) board_size other) refl

module _ (b m : List ℕ) where
  not_board : is_board b ≡ false → board_refusal NotABoard b ≡ post_of b m
  unfolding post_of
  not_board e = rw e refl

  module _ (valid : is_board b ≡ true) where
    not_formed : is_outcome m ≡ false → board_refusal Malformed b ≡ post_of b m
    unfolding post_of
    not_formed e = rw (valid, e) refl

    module _ (formed : is_outcome m ≡ true) where
      no_job : job_of m ≡ 0 → board_refusal JobZero b ≡ post_of b m
      unfolding post_of
      no_job e = rw (valid, formed, eq-eqb (job_of m) 0 e) refl

      is_placed : (job_of m ≡ 0 → ⊥) → placed_on b m ≡ post_of b m
      unfolding post_of
      is_placed other = rw (valid, formed, ne_eqb (job_of m) 0 other) refl

-- ---- the returns

pub returns-in_default : goal.returns-in_default
returns-in_default c =
    let e = not_board c.args.board.now c.args.message.now (wrong_size c.args.board.now c.in_default.ensures.cases) in
    record { result = ap (λ (o : PostResult). o.posted) e; board = ap (λ (o : PostResult). o.board) e }

pub returns-then-not-is_board : goal.returns-then-not-is_board
returns-then-not-is_board c =
    let same = c.in-Some.ensures.cases.same in
    let e = not_board c.in-Some.board.now c.args.message.now (sym c.is_board.ensures ∙ c.if-not-is_board.true) in
    rw (← same) (record { result = ap (λ (o : PostResult). o.posted) e; board = ap (λ (o : PostResult). o.board) e })

pub returns-then-not-is_outcome : goal.returns-then-not-is_outcome
returns-then-not-is_outcome c =
    let same = c.in-Some.ensures.cases.same in
    let valid = sym c.is_board.ensures ∙ c.if-not-is_board.false in
    let e = not_formed c.in-Some.board.now c.args.message.now valid (sym c.is_outcome.ensures ∙ c.if-not-is_outcome.true) in
    rw (← same) (record { result = ap (λ (o : PostResult). o.posted) e; board = ap (λ (o : PostResult). o.board) e })

pub returns-then-job_of-eq0 : goal.returns-then-job_of-eq0
returns-then-job_of-eq0 c =
    let same = c.in-Some.ensures.cases.same in
    let valid = sym c.is_board.ensures ∙ c.if-not-is_board.false in
    let formed = sym c.is_outcome.ensures ∙ c.if-not-is_outcome.false in
    let e = no_job c.in-Some.board.now c.args.message.now valid formed (sym c.job_of.ensures ∙ c.if-job_of-eq0.true) in
    rw (← same) (record { result = ap (λ (o : PostResult). o.posted) e; board = ap (λ (o : PostResult). o.board) e })

pub returns : goal.returns
returns c =
    let same = c.in-Some.ensures.cases.same in
    let valid = sym c.is_board.ensures ∙ c.if-not-is_board.false in
    let formed = sym c.is_outcome.ensures ∙ c.if-not-is_outcome.false in
    let e = is_placed c.in-Some.board.now c.args.message.now valid formed (λ zero. c.if-job_of-eq0.false (c.job_of.ensures ∙ zero)) in
    rw (← same) (record {
      result = c.place.ensures.result ∙ ap (λ (o : PostResult). o.posted) e;
      board = c.place.ensures.board ∙ ap (λ (o : PostResult). o.board) e;
    })
