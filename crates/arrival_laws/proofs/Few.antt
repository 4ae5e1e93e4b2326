-- If a list contains the jobs of some records with rising job numbers, and also a job that none of them has, then there
-- are fewer records than list elements (`few`). The proof is by induction on the records: it removes the job of the
-- first record from the list, and every later record has another job.
use mathlib.Core.Path.{◌≡◌, refl, sym, ap, ◌∙◌}
use mathlib.Core.List.Memᴰ.{cases_cons as in-first}
use mathlib.Core.List.Memᴰ.{head as here}
use mathlib.Core.List.Memᴰ.{tail as there}
use mathlib.Core.List.{List, ◌∷◌, Memᴰ}
use mathlib.Core.Logic.{⊎_elim}
use Prim.Native.Nat.{ℕ, suc, ◌<◌}
use native.Mathlib.Omega.{arith}
use lib.ListN.{length}
use Rattle.records.specs.Layout.{job_of}
use Rattle.board.specs.Board.{HeldRising, none, next}
use Rattle.arrival_laws.specs.Messages.{◌∈◌, NoneOf}
use Rattle.arrival_laws.proofs.Placing.{above_all}

-- If a list contains j, then some list that is shorter by one still contains every number other than j.
without : {j : ℕ} {js : List ℕ} → Memᴰ j js
    → (ks : List ℕ) × ((length js ≡ suc (length ks)) × ((k : ℕ) → Memᴰ k js → (k ≡ j → ⊥) → Memᴰ k ks))
without (here {xs} e) = (xs, (refl, λ k m apart. ⊎_elim (λ f. absurd (apart (f ∙ sym e))) (λ n. n) (in-first m)))
without (there {x} m) =
    let less = without m in
    (x ∷ less.0, (ap suc less.1.0, λ k n apart. ⊎_elim here (λ o. there (less.1.1 k o apart)) (in-first n)))

pub few : {above : ℕ} {cs : List (List ℕ)} → HeldRising above cs → (js : List ℕ) → ((c : List ℕ) → c ∈ cs → Memᴰ (job_of c) js)
    → {j : ℕ} → Memᴰ j js → NoneOf j cs → length cs < length js
few none js named i apart = omega (arith, (without i).1.0)
few (next {c} l h r) js named {j} i apart =
    let less = without (named c (here refl)) in
    let rest =
    few r less.0 (λ d m. less.1.1 (job_of d) (named d (there m)) (λ e. omega (arith, above_all r m)))
    (less.1.1 j i (λ e. apart c (here refl) (sym e))) (λ d m. apart d (there m)) in
    omega (arith, less.1.0, rest)
