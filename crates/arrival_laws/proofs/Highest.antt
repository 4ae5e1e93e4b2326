-- After messages for any number of jobs, what the board holds for a job has the highest revision that came for this
-- job: no postable message for it has a higher one (`never_older`). `no_older_refusal` is the special case of a refusal
-- and a newer answer. The board holds a conflict for a job exactly if two different records of the highest revision
-- came for it (`conflict_exactly`). These theorems follow from what the board holds (`holds_always`).
use mathlib.Core.Path.{◌≡◌, sym, ap, ◌∙◌}
use mathlib.Core.Bool.{true}
use mathlib.Core.List.{List}
use mathlib.Core.Logic.{inl, inr, ◌↔◌}
use Prim.Native.Nat.{ℕ, ◌≤◌, ◌<◌}
use native.Mathlib.Omega.{arith}
use Rattle.records.specs.Layout.{job_of, revision_of}
use Rattle.outcomes.specs.Outcomes.{is_refusal, is_answer}
use Rattle.slots.specs.Slots.{is_conflict}
use Rattle.board.specs.Board.{held_on, empty_board}
use Rattle.arrival_laws.specs.Messages.{post_all, ◌∈◌, AllBytes, Postable, TwoDiffer, HeldFor}
use Rattle.slots.proofs.Conflicts.{conflict_is}
use Rattle.slots.proofs.Held.{outcome_no_conflict}
use Rattle.arrival_laws.proofs.Keeping.{never, not_one, none_higher}
use Rattle.arrival_laws.proofs.Standing.{holds_always}

module _ (ms : List (List ℕ)) (bytes : AllBytes ms) where
  pub never_older : (m : List ℕ) → m ∈ ms → Postable m → (held : List ℕ) → held ∈ held_on (post_all empty_board ms) → job_of held ≡ job_of m
      → revision_of m ≤ revision_of held
  never_older m i postable held j e =
      none_higher bytes (holds_always ms bytes held j) m (record { among = i; postable = postable; for = sym e })

  -- A refusal of an older revision is never on the board once a newer answer has come, whichever came first.
  pub no_older_refusal : (refusal answer : List ℕ) → answer ∈ ms → Postable answer → is_answer answer ≡ true → is_refusal refusal ≡ true
      → job_of refusal ≡ job_of answer → revision_of refusal < revision_of answer → refusal ∈ held_on (post_all empty_board ms) → ⊥
  no_older_refusal refusal answer i postable a r e older j = omega (arith, never_older answer i postable refusal j e)

  pub conflict_exactly : (held : List ℕ) → held ∈ held_on (post_all empty_board ms) → (is_conflict held ≡ true)
      ↔ ((revision : ℕ) × TwoDiffer ms (job_of held) revision)
  conflict_exactly held j = by (holds_always ms bytes held j)
    where
      by : HeldFor ms (job_of held) held → (is_conflict held ≡ true) ↔ ((revision : ℕ) × TwoDiffer ms (job_of held) revision)
      by (inl o) = (λ e. never e (outcome_no_conflict held o.came.postable.formed), λ t. absurd (not_one t.1 o))
      by (inr o) = (λ e. (o.revision, o.two), λ t. ap is_conflict o.conflict ∙ conflict_is (job_of held) o.revision)
