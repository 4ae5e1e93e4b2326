-- Every order of the same messages over at most 64 different jobs, with any repeats, ends in the same board
-- (`any_order`). `BoardAfter` determines the board (`one_board`), because the messages for a job determine what is held
-- for it (`one_held`), and two lists of records with rising job numbers and the same elements are equal (`one_list`).
use mathlib.Core.Path.{◌≡◌, refl, sym, ap, ◌∙◌}
use mathlib.Core.List.Memᴰ.{head as here}
use mathlib.Core.List.Memᴰ.{not-nil as in-none}
use mathlib.Core.List.Memᴰ.{tail as there}
use mathlib.Core.List.{List}
use mathlib.Core.List.Memᴰ.{cases_cons as in-first}
use mathlib.Core.List.Memᴰ.{cast as of-same}
use mathlib.Core.Logic.{inl, inr, ⊎_elim}
use Prim.Native.Nat.{ℕ}
use native.Mathlib.Omega.{arith}
use Rattle.records.specs.Layout.{job_of}
use Rattle.records.specs.Records.{conflict_bytes}
use Rattle.board.specs.Board.{held_on, board_of, empty_board, HeldRising, none, next}
use Rattle.arrival_laws.specs.Messages.{post_all, ◌∈◌, SameMessages, AllBytes, OverFewJobs, HeldFor, BoardAfter}
use Rattle.board.proofs.Boards.{board_held}
use Rattle.arrival_laws.proofs.Placing.{above_all}
use Rattle.arrival_laws.proofs.Keeping.{some_came, not_one}
use Rattle.arrival_laws.proofs.Standing.{stands, stands_for}

pub one_held : {ms : List (List ℕ)} {job : ℕ} {c d : List ℕ} → HeldFor ms job c → HeldFor ms job d → c ≡ d
one_held {c} {d} (inl o) (inl p) =
    ⊎_elim (λ e. e) (λ l. ⊎_elim sym (λ k. absurd (omega arith)) (o.highest d p.came)) (p.highest c o.came)
one_held (inl o) (inr p) = absurd (not_one p.two o)
one_held (inr o) (inl p) = absurd (not_one o.two p)
one_held {job} (inr o) (inr p) =
    let s = o.two in
    let t = p.two in
    let e : o.revision ≡ p.revision =
    omega (arith, s.highest t.one t.one_came, t.one_at, t.highest s.one s.one_came, s.one_at) in
    o.conflict ∙ ap (conflict_bytes job) e ∙ sym p.conflict

pub one_list : {a b : ℕ} {cs ds : List (List ℕ)} → HeldRising a cs → HeldRising b ds → ((c : List ℕ) → c ∈ cs → c ∈ ds)
    → ((c : List ℕ) → c ∈ ds → c ∈ cs) → cs ≡ ds
one_list none none forth back = refl
one_list none (next {c} l h r) forth back = absurd (in-none (back c (here refl)))
one_list (next {c} l h r) none forth back = absurd (in-none (forth c (here refl)))
one_list (next {c} l h r) (next {c = d} k i s) forth back =
    let e : c ≡ d =
    ⊎_elim (λ e. e) (λ m. ⊎_elim sym (λ n. absurd (omega (arith, above_all s m, above_all r n))) (in-first (back d (here refl))))
    (in-first (forth c (here refl))) in
    cc (
      e,
      one_list r s (λ x m. ⊎_elim (λ f. absurd (omega (arith, above_all r m, ap job_of f, ap job_of e))) (λ n. n)
          (in-first (forth x (there m))))
          (λ x m. ⊎_elim (λ f. absurd (omega (arith, above_all s m, ap job_of f, ap job_of e))) (λ n. n) (in-first (back x (there m)))),
    )

-- Everything that one of the boards holds, the other holds too.
also : {ms : List (List ℕ)} {b d : List ℕ} → BoardAfter ms b → BoardAfter ms d → (c : List ℕ) → c ∈ held_on b → c ∈ held_on d
also p q c i =
    let m = some_came (p.holds c i) in
    let there = q.each_job m.0 m.1.among m.1.postable in
    of-same (one_held (p.holds c i) (rw (there.1.1 ∙ m.1.for) at (q.holds there.0 there.1.0))) there.1.0

pub one_board : {ms : List (List ℕ)} {b d : List ℕ} → BoardAfter ms b → BoardAfter ms d → b ≡ d
one_board {b} {d} p q =
    p.slots ∙ ap board_of (one_list (board_held b p.well_formed).0 (board_held d q.well_formed).0 (also p q) (also q p))
    ∙ sym q.slots

pub any_order : (ms ns : List (List ℕ)) → AllBytes ms → OverFewJobs ms → SameMessages ms ns
    → post_all empty_board ms ≡ post_all empty_board ns
any_order ms ns bytes over same = one_board (stands ms bytes over) (stands_for ms bytes over ns same)
