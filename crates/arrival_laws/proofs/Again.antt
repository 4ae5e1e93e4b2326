-- A message that came before changes nothing when it comes again, whatever messages came in between and however many
-- jobs they had (`again_later`). The proof uses the invariant `Keeps`. If something is held for the message's job,
-- joining the message to it changes nothing (`holds_again`). If nothing is held for its job, the board is full, so
-- the message is refused.
use mathlib.Core.Path.{◌≡◌, refl, sym, ap, ◌∙◌}
use mathlib.Core.List.{List}
use mathlib.Core.Logic.{inl, inr, ⊎_elim}
use Prim.Native.Nat.{ℕ}
use native.Mathlib.Omega.{arith}
use Rattle.records.specs.Layout.{job_of}
use Rattle.records.specs.Records.{conflict_bytes}
use Rattle.board.specs.Board.{held_on, empty_board, PostResult, post_of}
use Rattle.arrival_laws.specs.Messages.{post_all, ◌∈◌, AllBytes, CameFor, HeldFor, SomeOf}
use Rattle.arrival_laws.proofs.Joining.{Joining, newer, older, again, clash, joining}
use Rattle.arrival_laws.proofs.Placing.{placing, grown}
use Rattle.arrival_laws.proofs.Posting.{Posting, no_board, malformed, unnamed, full, taken, posting, taken_same}
use Rattle.arrival_laws.proofs.Keeping.{conflict_at, none_higher, Keeps}
use Rattle.arrival_laws.proofs.Standing.{keeps_always}

module _ (ms : List (List ℕ)) (m : List ℕ) (bytes : AllBytes ms) where
  holds_again : {held c : List ℕ} → Joining held m c → HeldFor ms (job_of m) held → CameFor ms (job_of m) m → c ≡ held
  holds_again (newer l) h came = absurd (omega (arith, none_higher bytes h m came))
  holds_again (older l) h came = refl
  holds_again (again s) h came = refl
  holds_again (clash s d) (inl o) came = ⊎_elim (λ e. absurd (d (sym e))) (λ l. absurd (omega arith)) (o.highest m came)
  holds_again (clash s d) (inr o) came = ap (conflict_bytes (job_of m)) (sym s ∙ conflict_at bytes o) ∙ sym o.conflict

  pub again_later : m ∈ ms → (post_of (post_all empty_board ms) m).board ≡ post_all empty_board ms
  again_later i = by (posting b m) refl
    where
      b : List ℕ
      b = post_all empty_board ms

      k : Keeps ms (held_on b)
      k = keeps_always ms bytes

      by : {o : PostResult} → Posting b m o → post_of b m ≡ o → o.board ≡ b
      by (no_board f) e = refl
      by (malformed f g) e = refl
      by (unnamed f g h) e = refl
      by (full f postable over) e = refl
      by (taken f postable fits) e =
          let s : SomeOf (job_of m) (held_on b) =
          ⊎_elim (λ n. k.each (omega (arith, n.1)) m i postable) (λ s. s.0) (grown (placing (held_on b) m) k.rising) in
          let held = s.0 in
          let for = s.1.1 in
          let same =
          holds_again (joining held m) (rw for at (k.holds held s.1.0)) (record { among = i; postable = postable; for = refl }) in
          ap (λ (o : PostResult). o.board) (sym e ∙ taken_same b m held f postable s.1.0 for same)
