-- `are_filled` meets its contract. The loop invariant: `filled_rising` of the remaining slots is `filled_rising` of all n
-- slots.
use mathlib.Core.Path.{◌≡◌, refl, sym, ap, ◌∙◌}
use mathlib.Core.Bool.{Bool, false, ◌&&◌, and-false}
use mathlib.Core.List.{List}
use mathlib.Core.Logic.{inl, inr}
use Prim.Native.Nat.{ℕ, ◌+◌, ◌-◌, ◌*◌}
use native.Mathlib.Omega.{arith}
use borrow.Author.Tests.{lt-ltb, le-ltb}
use lib.Dec.{ltb}
use lib.ListN.{length, take, drop, length-drop}
use lib.Seq.{length-take-le}
use Rattle.records.specs.Layout.{answer_room, job_of}
use Rattle.slots.specs.Slots.{is_filled}
use Rattle.board.specs.Internals.{filled_rising}
use Rattle.board.proofs.Checked.{rising_next}
use Rattle.board.proofs.checks.are_filled.Goals as goal
use Rattle.board.proofs.checks.are_filled.Goals.{After-slots_from, After-is_filled}

pub loop-i-init : goal.loop-i-init
loop-i-init c =
    let whole : c.args.n - 0 ≡ c.args.n = omega arith in
    rw whole refl

pub slice_bounds-slot-end : goal.slice_bounds-slot-end
slice_bounds-slot-end c =
    let from = c.loop-i.i * answer_room in
    let long = ap length c.slots_from.ensures in
    sym (length-take-le answer_room c.slots_from.result.now (omega (arith, long, length-drop from c.args.board.now)))

-- The slot that is tested, and what the calls find there.
abbrev slot_at : After-is_filled → List ℕ
slot_at c = take answer_room (drop (c.loop-i.i * answer_room) c.args.board.now)

job_is : (c : After-is_filled) → c.job_of-job.result ≡ job_of (slot_at c)
job_is c = c.job_of-job.ensures ∙ ap (λ (l : List ℕ). job_of (take answer_room l)) c.slots_from.ensures

filled_is : (c : After-is_filled) → c.is_filled.result ≡ is_filled (slot_at c)
filled_is c = c.is_filled.ensures ∙ ap (λ (l : List ℕ). is_filled (take answer_room l)) c.slots_from.ensures

-- If the slot fails the tests, so do all slots.
stops : (c : After-is_filled) → is_filled (slot_at c) && ltb c.loop-i.above (job_of (slot_at c)) ≡ false
    → false ≡ filled_rising c.args.n 0 c.args.board.now
stops c e =
    let i = c.loop-i.i in
    let b = c.args.board.now in
    let rest : Bool = filled_rising (c.args.n - (i + 1)) (job_of (slot_at c)) (drop ((i + 1) * answer_room) b) in
    let next = rising_next c.args.n i b (omega arith) c.loop-i.above in
    sym (next ∙ ap (λ (t : Bool). t && rest) e) ∙ c.loop-i.invariant

pub returns-then-not-is_filled : goal.returns-then-not-is_filled
returns-then-not-is_filled c =
    let found = (goal.at.returns-then-not-is_filled c).After-is_filled in
    let job = job_of (slot_at found) in
    elim c.then-not-is_filled.either [
      | inl f ↦ stops found (rw (sym (filled_is found) ∙ f))
      | inr g ↦ stops found (rw (le-ltb c.loop-i.above job (omega (arith, job_is found, g.1))) (and-false (is_filled (slot_at found))))
    ]

pub loop-i-preserved : goal.loop-i-preserved
loop-i-preserved c =
    let found = (goal.at.loop-i-preserved c).After-is_filled in
    let job = job_of (slot_at found) in
    let filled = sym (filled_is found) ∙ c.if-not-is_filled.false in
    let rises = lt-ltb c.loop-i.above job (omega (arith, job_is found, c.if-job-above.false)) in
    let next = rising_next c.args.n c.loop-i.i c.args.board.now (omega arith) c.loop-i.above in
    rw (job_is found) (sym (rw (filled, rises) at next) ∙ c.loop-i.invariant)

pub returns : goal.returns
unfolding filled_rising
returns c =
    let all : c.args.n - c.loop-i.i ≡ 0 = omega arith in
    rw all at c.loop-i.invariant
