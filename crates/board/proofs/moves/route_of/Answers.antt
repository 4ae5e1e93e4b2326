-- `route_of` meets its contract. It makes the same tests as `route_of`.
use mathlib.Core.Path.{◌≡◌, refl, ap, ◌∙◌}
use mathlib.Core.Bool.{Bool, cond, ◌&&◌}
use mathlib.Core.List.{List}
use Prim.Native.Nat.{ℕ, ◌*◌}
use lib.Dec.{eqb, ltb}
use borrow.Author.Tests.{eq-eqb, ne_eqb}
use lib.ListN.{drop}
use Rattle.records.specs.Layout.{answer_room, job_of}
use Rattle.board.specs.declared.moves.Route.TheVariants.{Joins, Enters, NoneFree}
use Rattle.board.specs.Board.{SLOTS}
use Rattle.board.specs.Internals.{slots_before_free, slots_below, route_of}
use Rattle.board.proofs.moves.route_of.Goals as goal
use Rattle.board.proofs.moves.route_of.Goals.{After-job_of}

-- The route follows from what the calls find: the number n of slots before the first free one, the number i of slots
-- below the job, the job of slot i, and the results of the two tests.
by_tests : (b : List ℕ) (job : ℕ) {n i held : ℕ} {known full : Bool} →
    n ≡ slots_before_free SLOTS b → i ≡ slots_below n job b → held ≡ job_of (drop (i * answer_room) b) →
    (ltb i n && eqb held job) ≡ known → eqb n SLOTS ≡ full →
    cond known (Joins (i * answer_room)) (cond full NoneFree (Enters (i * answer_room) (n * answer_room))) ≡ route_of b job
unfolding route_of
by_tests b job e f g h k = rw (← e, ← f, ← g, h, k) refl

-- The arguments, and what the calls found.
abbrev board_at : After-job_of → List ℕ
board_at c = c.args.board.now

abbrev job_at : After-job_of → ℕ
job_at c = c.args.job

abbrev filled_at : After-job_of → ℕ
filled_at c = c.filled_slots-filled.result

abbrev below_at : After-job_of → ℕ
below_at c = c.slots_below-i.result

route : (c : After-job_of) {known full : Bool} →
    (ltb (below_at c) (filled_at c) && eqb c.job_of.result (job_at c)) ≡ known → eqb (filled_at c) SLOTS ≡ full →
    let from = below_at c * answer_room in
    cond known (Joins from) (cond full NoneFree (Enters from (filled_at c * answer_room))) ≡ route_of (board_at c) (job_at c)
route c known full =
    by_tests (board_at c) (job_at c) c.filled_slots-filled.ensures.result c.slots_below-i.ensures.result
    (c.job_of.ensures ∙ ap job_of c.slots_from.ensures) known full

pub returns-then-i-filled : goal.returns-then-i-filled
returns-then-i-filled c = route (goal.at.returns-then-i-filled c).After-job_of c.if-i-filled.true refl

pub returns-then-filled-eq-SLOTS : goal.returns-then-filled-eq-SLOTS
returns-then-filled-eq-SLOTS c =
    route (goal.at.returns-then-filled-eq-SLOTS c).After-job_of c.if-i-filled.false (eq-eqb (filled_at
    (goal.at.returns-then-filled-eq-SLOTS c).After-job_of) SLOTS c.if-filled-eq-SLOTS.true)

pub returns : goal.returns
returns c =
    route (goal.at.returns c).After-job_of c.if-i-filled.false (ne_eqb (filled_at
    (goal.at.returns c).After-job_of) SLOTS c.if-filled-eq-SLOTS.false)
