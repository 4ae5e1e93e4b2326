-- What the board holds after some messages. For any number of jobs, each slot holds what the messages for its job
-- determine (`holds_always`). Over at most 64 different jobs, each job also has a slot (`stands`), even if the same
-- messages came in another order or with other repeats (`stands_for`). The proof carries the invariant `Keeps`, for the
-- messages seen so far, from message to message. Over at most 64 jobs, a full board holds every job (`each_few`, by
-- `few`).
use mathlib.Core.Path.{◌≡◌, refl}
use mathlib.Core.Bool.{true}
use mathlib.Core.List.Memᴰ.{head as here}
use mathlib.Core.List.Memᴰ.{tail as there}
use mathlib.Core.List.{List, [], ◌∷◌, Memᴰ}
use mathlib.Core.List.Memᴰ.{cases_cons as in-first}
use mathlib.Core.List.Memᴰ.{not-nil as in-none}
use mathlib.Core.Logic.{◌⊎◌, inl, inr, ⊎_elim}
use Prim.Native.Nat.{ℕ, ◌<◌}
use native.Mathlib.Omega.{arith}
use lib.ListN.{length}
use Rattle.records.specs.Layout.{job_of}
use Rattle.little_endian.specs.Bytes.{AreBytes}
use Rattle.board.specs.Board.{SLOTS, is_board, held_on, empty_board, PostResult, post_of, none}
use Rattle.arrival_laws.specs.Messages.{post_all, ◌∈◌, SameMessages, AllBytes, Postable}
use Rattle.arrival_laws.specs.Messages.{OverFewJobs, SomeOf, NoneOf, HeldFor, BoardAfter}
use Rattle.board.proofs.Boards.{board_held}
use Rattle.arrival_laws.proofs.Placing.{placing, grown}
use Rattle.arrival_laws.proofs.Posting.{Posting, no_board, malformed, unnamed, full, taken, posting}
use Rattle.arrival_laws.proofs.Posting.{no_room, taken_board, starts_board, always_board}
use Rattle.arrival_laws.proofs.Few.{few}
use Rattle.arrival_laws.proofs.Keeping.{never, some_came, Keeps, keeps_same, keeps_refused, keeps_more}

-- The bytes are a board, and `Keeps` holds for the messages seen and what this board holds.
record On (seen : List (List ℕ)) (b : List ℕ) : Type 0 where
  board : is_board b ≡ true
  keeps : Keeps seen (held_on b)

-- The messages in `all` are those to come and those seen.
record Split (all coming seen : List (List ℕ)) : Type 0 where
  which : (m : List ℕ) → m ∈ all → (m ∈ coming) ⊎ (m ∈ seen)
  to_come : (m : List ℕ) → m ∈ coming → m ∈ all
  came : (m : List ℕ) → m ∈ seen → m ∈ all

split_next : {all coming seen : List (List ℕ)} {m : List ℕ} → Split all (m ∷ coming) seen → Split all coming (m ∷ seen)
split_next s = record {
  which = λ n i. ⊎_elim (λ j. ⊎_elim (λ e. inr (here e)) inl (in-first j)) (λ j. inr (there j)) (s.which n i);
  to_come = λ n i. s.to_come n (there i);
  came = λ n i. ⊎_elim (λ e. s.to_come n (here e)) (s.came n) (in-first i);
}

module _ (all : List (List ℕ)) (bytes : AllBytes all) where
  step : {seen : List (List ℕ)} (b m : List ℕ) → ((n : List ℕ) → n ∈ m ∷ seen → n ∈ all) → On seen b → On (m ∷ seen) (post_of b m).board
  step {seen} b m came on = by (posting b m)
    where
      own : AreBytes m
      own = bytes m (came m (here refl))

      passed : (Postable m → (length (held_on b) ≡ SLOTS) × NoneOf (job_of m) (held_on b)) → On (m ∷ seen) b
      passed f = record { board = on.board; keeps = keeps_refused m on.keeps f }

      by : {o : PostResult} → Posting b m o → On (m ∷ seen) o.board
      by (no_board f) = never on.board f
      by (malformed f g) = passed (λ c. never c.formed g)
      by (unnamed f g e) = passed (λ c. absurd (omega (arith, c.named)))
      by (full f postable over) = passed (λ c. no_room b m f over)
      by (taken f postable fits) =
          let t = taken_board b m own f postable fits in
          record { board = t.0; keeps = rw t.1 (keeps_more m on.keeps (λ n i. bytes n (came n (there i))) own postable fits) }

  steps : {seen : List (List ℕ)} (b : List ℕ) (coming : List (List ℕ)) → Split all coming seen → On seen b → On all (post_all b coming)
  unfolding post_all
  steps b [] s on = record {
    board = on.board;
    keeps = keeps_same (λ m c. s.came m) (λ m c i. ⊎_elim (λ j. absurd (in-none j)) (λ j. j) (s.which m i)) on.keeps;
  }
  steps b (m ∷ coming) s on = let t = split_next s in steps (post_of b m).board coming t (step b m t.came on)

  starts : On [] empty_board
  starts = record {
    board = starts_board.0;
    keeps = rw starts_board.1 (record { rising = none; holds = λ c i. absurd (in-none i); each = λ room m i c. absurd (in-none i) });
  }

  -- The invariant holds after the same messages in any order, for any number of jobs.
  pub keeps_for : (ms : List (List ℕ)) → SameMessages all ms → Keeps all (held_on (post_all empty_board ms))
  keeps_for ms same =
      (steps empty_board ms (record { which = λ m i. inl (same.there m i); to_come = same.back; came = λ m i. absurd (in-none i) })
      starts).keeps

  pub keeps_always : Keeps all (held_on (post_all empty_board all))
  keeps_always = keeps_for all (record { there = λ m i. i; back = λ m i. i })

  pub holds_always : (held : List ℕ) → held ∈ held_on (post_all empty_board all) → HeldFor all (job_of held) held
  holds_always held i = keeps_always.holds held i

  -- Over at most 64 jobs: if a job has no slot, fewer than 64 jobs have one, so the board is not full.
  module _ (over : OverFewJobs all) where
    each_few : {held : List (List ℕ)} → Keeps all held → (m : List ℕ) → m ∈ all → Postable m → SomeOf (job_of m) held
    each_few {held} k m i postable = ⊎_elim (λ n. k.each (room n.0) m i postable) (λ s. s.0) (grown (placing held m) k.rising)
      where
        named : (c : List ℕ) → c ∈ held → Memᴰ (job_of c) over.jobs
        named c j = let n = some_came (k.holds c j) in rw n.1.for at (over.each n.0 n.1.among n.1.postable)

        room : NoneOf (job_of m) held → length held < SLOTS
        room apart = omega (arith, few k.rising over.jobs named (over.each m i postable) apart, over.few)

    pub stands_for : (ms : List (List ℕ)) → SameMessages all ms → BoardAfter all (post_all empty_board ms)
    stands_for ms same =
        let board = always_board ms (λ m i. bytes m (same.back m i)) in
        let keeps = keeps_for ms same in
        record {
          well_formed = board;
          slots = (board_held (post_all empty_board ms) board).1.1;
          holds = keeps.holds;
          each_job = each_few keeps;
        }

    pub stands : BoardAfter all (post_all empty_board all)
    stands = stands_for all (record { there = λ m i. i; back = λ m i. i })
