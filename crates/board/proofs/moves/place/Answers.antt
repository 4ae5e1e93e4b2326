-- `place` meets its contract. Each route that `route_of` finds leads to what `placed_on` gives (`goes`).
use mathlib.Core.Path.{◌≡◌, sym, ap, ◌∙◌, subst}
use mathlib.Core.List.{List}
use Prim.Native.Nat.{ℕ, ◌+◌, ◌-◌}
use native.Mathlib.Omega.{arith}
use borrow.Rule.Slice.PartMut.{put_mid}
use lib.ListN.{length, take, drop, length-drop}
use lib.Seq.{length-take-le}
use Rattle.records.specs.Layout.{answer_room}
use Rattle.slots.specs.Slots.{padded, slot_of, content_of}
use Rattle.board.specs.declared.moves.Route.{Route}
use Rattle.board.specs.declared.moves.Route.TheVariants.{Joins, Enters, NoneFree}
use Rattle.board.specs.Board.{joined}
use Rattle.board.specs.Internals.{route_of, moved_up}
use Rattle.board.proofs.Moved.{move_length}
use Rattle.board.proofs.Entered.{Goes, goes}
use Rattle.board.proofs.moves.place.Goals as goal
use Rattle.board.proofs.moves.place.Goals.{After-route_of}

-- The facts that `goes` gives for the route that was found.
leads : (c : After-route_of) (w : Route) → c.route_of.result ≡ w → Goes c.args.board.now c.args.message.now w
leads c w e =
    let b = c.args.board.now in
    let m = c.args.message.now in
    let route = ap (route_of b) (sym c.job_of.ensures) ∙ sym c.route_of.ensures ∙ e in
    subst (Goes b m) route (goes b m c.requires)

part : (from : ℕ) → from + answer_room - from ≡ answer_room
part from = omega arith

pub overflow_add-to : goal.overflow_add-to
overflow_add-to c =
    let joins = leads (goal.at.overflow_add-to c).After-route_of (Joins c.in-Joins.from) c.in-Joins.is in
    omega (arith, joins.fits)

pub slice_bounds-join-end : goal.slice_bounds-join-end
slice_bounds-join-end c =
    let found = (goal.at.slice_bounds-join-end c).After-route_of in
    let joins = leads found (Joins c.in-Joins.from) c.in-Joins.is in
    omega (arith, joins.fits, c.told-board)

pub join-requires : goal.join-requires
join-requires c =
    let joins = leads (goal.at.join-requires c).After-route_of (Joins c.in-Joins.from) c.in-Joins.is in
    rw (part c.in-Joins.from) joins.ready

pub overflow_add-to-in-Enters : goal.overflow_add-to-in-Enters
overflow_add-to-in-Enters c =
    let found = (goal.at.overflow_add-to-in-Enters c).After-route_of in
    let enters = leads found (Enters c.in-Enters.from c.in-Enters.end) c.in-Enters.is in
    omega (arith, enters.rising, enters.fits)

pub move_up-requires : goal.move_up-requires
move_up-requires c =
    let found = (goal.at.move_up-requires c).After-route_of in
    let enters = leads found (Enters c.in-Enters.from c.in-Enters.end) c.in-Enters.is in
    (enters.rising, omega (arith, enters.fits, c.told-board))

pub slice_bounds-fill-end : goal.slice_bounds-fill-end
slice_bounds-fill-end c =
    let found = (goal.at.slice_bounds-fill-end c).After-route_of in
    let enters = leads found (Enters c.in-Enters.from c.in-Enters.end) c.in-Enters.is in
    omega (arith, enters.rising, enters.fits, c.told-board)

pub returns-in-Joins : goal.returns-in-Joins
returns-in-Joins c =
    let found = (goal.at.returns-in-Joins c).After-route_of in
    let from = c.in-Joins.from in
    let b = c.args.board.now in
    let s = c.join.new.slot in
    let joins = leads found (Joins from) c.in-Joins.is in
    let slot = ap (λ (n : ℕ). slot_of (joined (content_of (take n (drop from b))) c.args.message.now)) (part from) in
    let done = joins.done s (c.join.ensures ∙ slot) in
    record { result = done.0; board = ap (λ (n : ℕ). put_mid from n b s) (part from) ∙ done.1 }

pub returns-in-Enters : goal.returns-in-Enters
returns-in-Enters c =
    let found = (goal.at.returns-in-Enters c).After-route_of in
    let from = c.in-Enters.from in
    let end = c.in-Enters.end in
    let b = c.args.board.now in
    let m = c.args.message.now in
    let l = c.move_up.new.board in
    let s = c.fill.new.slot in
    let enters = leads found (Enters from end) c.in-Enters.is in
    let moved : l ≡ moved_up from end b = c.move_up.ensures in
    let sized = ap length moved ∙ move_length from end b enters.rising (omega (arith, enters.fits, c.told-board)) ∙ c.told-board in
    let whole = length-take-le answer_room (drop from l) (omega (arith, length-drop from l, sized, enters.rising, enters.fits)) in
    let long : length (take (from + answer_room - from) (drop from l)) ≡ answer_room =
    ap (λ (n : ℕ). length (take n (drop from l))) (part from) ∙ whole in
    let filled : s ≡ slot_of m = c.fill.ensures ∙ ap (λ (n : ℕ). padded n m) long in
    record {
      result = enters.done.0;
      board = ap (λ (n : ℕ). put_mid from n l s) (part from)
          ∙ ap (λ (x : List ℕ). put_mid from answer_room x s) moved
          ∙ ap (put_mid from answer_room (moved_up from end b)) filled
          ∙ enters.done.1;
    }

pub returns-in-NoneFree : goal.returns-in-NoneFree
returns-in-NoneFree c =
    let both = leads (goal.at.returns-in-NoneFree c).After-route_of NoneFree c.in-NoneFree.is in
    record { result = both.0; board = both.1 }
