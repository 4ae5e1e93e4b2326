-- What is read of an input whose bytes are known: the rest of a record (`rest_read`), a whole record (`record_read`), and every record:
-- before the first (`none_read`), after one more (`one_read`), and at the end (`all_read`).
use Rattle.std.proofs.Common.{◌≡◌, ℕ, ◌+◌, ◌≤◌, true, List, ◌++◌, Option, Some, None, Ok, Err, IfSome, length, take, drop}
use Rattle.std.proofs.Common.{arith, refl, sym, ap, ◌∙◌, subst}
use borrow.Rule.Slice.PartMut.{put_mid}
use lib.Seq.{take-add, drop-drop}
use Rattle.records.specs.Layout.{LENGTH}
use Rattle.board.specs.Board.{post_of}
use Rattle.standard_input.specs.Reading.{Taken}
use Rattle.standard_input.proofs.Parts.{joined}
use Rattle.record_stream.specs.declared.Start.{Start}
use Rattle.record_stream.specs.declared.Start.TheVariants as start
use Rattle.record_stream.specs.Streams.{start_of, start_in, board_after, board_step}
use Rattle.record_stream.proofs.Streams.{board_by_steps}
use Rattle.post.specs.Posting.{Next, RestRead, HeadRead, RecordRead, InputRead}

-- ---- one record

-- The rest of a record was read into the buffer after its first n bytes: `more` bytes, to the end of the given part or of the input.
pub rest_read : (input left : Option (List ℕ)) (bytes part : List ℕ) (n rest more k next : ℕ) (board after : List ℕ)
    → n ≤ length bytes → more ≤ length part → length part ≡ rest → Taken input left part (Ok more)
    → after ≡ (post_of board (take (n + more) (put_mid n k bytes part))).board
    → IfSome input (λ xs. RestRead (take n bytes) xs rest left board after (Ok (Some next)))
rest_read None left bytes part n rest more k next board after fits within size taken posts = tt
rest_read (Some xs) left bytes part n rest more k next board after fits within size taken posts =
    let P : ℕ → Type 0 = λ s. (take more part ≡ take s xs) × (left ≡ Some (drop s xs)) in
    let first = subst P size taken.0 in
    let message = sym (joined n k more bytes part fits within) ∙ ap (λ l. take n bytes ++ l) first.0 in
    (first.1, posts ∙ ap (λ m. (post_of board m).board) message)

module _ (xs : List ℕ) (left : Option (List ℕ)) (board after : List ℕ) where
  by_start : (s : Start) → start_in xs ≡ s → (next : Next)
      → HeadRead s (take LENGTH.width xs) (drop LENGTH.width xs) left board after next → RecordRead xs left board after next
  by_start start.End e next h = subst (RecordRead xs left board after) (sym h.0) (e, h.1)
  by_start (start.Record rest) e (Ok (Some next)) h =
      let message = ap (λ m. (post_of board m).board) (sym (take-add LENGTH.width rest xs)) in
      (rest, e, h.0 ∙ ap Some (drop-drop rest LENGTH.width xs), h.1 ∙ message)
  by_start (start.Record rest) e (Ok None) h = absurd h
  by_start (start.Record rest) e (Err f) h = tt
  by_start start.NoRecord e (Ok next) h = absurd h
  by_start start.NoRecord e (Err f) h = tt

-- The first n bytes of a record were read to the start of the buffer, as many as a length field has or to the end of the input, and the
-- rest was read as they say.
pub record_read : (input mid left : Option (List ℕ)) (bytes part : List ℕ) (n k : ℕ) (next : Next) (board after : List ℕ)
    → n ≤ length part → length part ≡ LENGTH.width → Taken input mid part (Ok n)
    → IfSome mid (λ ys. let head = take n (put_mid 0 k bytes part) in HeadRead (start_of head) head ys left board after next)
    → IfSome input (λ xs. RecordRead xs left board after next)
record_read None mid left bytes part n k next board after within size taken read = tt
record_read (Some xs) mid left bytes part n k next board after within size taken read =
    let P : ℕ → Type 0 = λ s. (take n part ≡ take s xs) × (mid ≡ Some (drop s xs)) in
    let first = subst P size taken.0 in
    let head : take n (put_mid 0 k bytes part) ≡ take LENGTH.width xs =
    ap (λ i. take i (put_mid 0 k bytes part)) (omega arith) ∙ sym (joined 0 k n bytes part (omega arith) within) ∙ first.0 in
    let Q : Option (List ℕ) → List ℕ → Type 0 = λ m h. IfSome m (λ ys. HeadRead (start_of h) h ys left board after next) in
    let here : HeadRead (start_in xs) (take LENGTH.width xs) (drop LENGTH.width xs) left board after next =
    subst (λ h. Q (Some (drop LENGTH.width xs)) h) head (subst (λ m. Q m (take n (put_mid 0 k bytes part))) first.1 read) in
    by_start xs left board after (start_in xs) refl next here

-- ---- every record

-- The input began as xs and the board as `first`, and `left` is what is left of the input. To post that on the board comes to the same as
-- to post xs on the first board.
pub record SoFar (xs : List ℕ) (rest : Option (List ℕ)) (first board : List ℕ) : Type 0 where
  pub left : List ℕ
  pub rest_is : rest ≡ Some left
  pub same : board_after first xs ≡ board_after board left

pub none_read : (input : Option (List ℕ)) (board : List ℕ) → IfSome input (λ xs. SoFar xs input board board)
none_read None board = tt
none_read (Some xs) board = record { left = xs; rest_is = refl; same = refl }

module _ (first board after : List ℕ) (rest : Option (List ℕ)) (r : Next) where
  here : (xs : List ℕ) (mid : Option (List ℕ)) (next : Option ℕ) → r ≡ Ok next → (so : SoFar xs mid first board)
      → IfSome mid (λ ys. RecordRead ys rest board after r) → RecordRead so.left rest board after (Ok next)
  here xs mid next is so read =
      subst (RecordRead so.left rest board after) is (subst (λ m. IfSome m (λ ys. RecordRead ys rest board after r)) so.rest_is read)

  pub one_read : (input mid : Option (List ℕ)) (next : ℕ) → r ≡ Ok (Some next) → IfSome input (λ xs. SoFar xs mid first board)
      → IfSome mid (λ ys. RecordRead ys rest board after r) → IfSome input (λ xs. SoFar xs rest first after)
  one_read None mid next is so read = tt
  one_read (Some xs) mid next is so read =
      let h = here xs mid (Some next) is so read in
      let size = LENGTH.width + h.0 in
      record {
        left = drop size so.left;
        rest_is = h.2;
        same =
            so.same ∙ board_by_steps board so.left ∙ ap (λ s. board_step s board so.left) h.1
            ∙ ap (λ b. board_after b (drop size so.left)) (sym h.3);
      }

  pub all_read : (input mid : Option (List ℕ)) → r ≡ Ok None → IfSome input (λ xs. SoFar xs mid first board)
      → IfSome mid (λ ys. RecordRead ys rest board after r) → IfSome input (λ xs. InputRead xs first after (Ok true))
  all_read None mid is so read = tt
  all_read (Some xs) mid is so read =
      let h = here xs mid None is so read in
      h.1 ∙ sym (so.same ∙ board_by_steps board so.left ∙ ap (λ s. board_step s board so.left) h.0)
