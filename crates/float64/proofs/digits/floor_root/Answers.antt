-- `digits::floor_root` meets its contract. The loop invariant is `Kept`: the root of a * 2 ^ 54 is known down to a digit of
-- some weight. The code holds this part of the root in `trial`, the next trial, and a multiple of its remainder in `rest`.
-- The measure is the number of rounds left. The invariant bounds this number by 27, so there are at most 27 rounds.
use Rattle.std.proofs.Common.{◌*◌, ◌^◌, arith, lit≤, rules}
use Rattle.float64.proofs.Trials.{Found, said, small, left_le}
use Rattle.float64.proofs.Rounds.{Begun, begun, ones_small, fewer, first, second, start, ended}
use Rattle.float64.proofs.digits.floor_root.Goals as goal
use Rattle.float64.proofs.digits.floor_root.Goals.{In-loop-ones, After-chosen-second}

pub loop-ones-init : goal.loop-ones-init
loop-ones-init c = start c.args.a c.requires

-- The facts at the start of a round (`head`), and between its two binary digits (`middle`).
head : (c : In-loop-ones)
    → Begun (c.args.a * 2 ^ 54) c.loop-ones.ones c.loop-ones.trial c.loop-ones.rest
head c =
    let l = c.loop-ones in
    begun (c.args.a * 2 ^ 54) l.ones l.trial l.rest (omega (arith, c.loop-ones-test.true)) l.invariant

middle : (c : After-chosen-second)
    → let round = c.before.before in
    let a = round.args.a in
    Found (a * 2 ^ 54) (2 * (head round).w) 8 c.chosen-second.result (4 * c.left_of-left.result)
middle c =
    let round = c.before.before in
    let l = round.loop-ones in
    let a = round.args.a in
    first (a * 2 ^ 54) l.ones l.trial l.rest
    (said c.left_of-left.ensures (omega arith) (omega arith) (omega arith) (omega arith))
    (said c.chosen-second.ensures (omega arith) (omega arith) (omega arith) (omega arith)) (head round)

pub overflow_mul-lower : goal.overflow_mul-lower
overflow_mul-lower c = let s = ones_small (head c) in search rules

pub overflow_mul-upper : goal.overflow_mul-upper
overflow_mul-upper c = let s = ones_small (head c) in search rules

pub overflow_add-upper : goal.overflow_add-upper
overflow_add-upper c =
    let s = ones_small (head c) in
    let t = small (lit≤ tt) (head c).found in
    search rules

pub left_of-left-requires : goal.left_of-left-requires
left_of-left-requires c =
    let t = small (lit≤ tt) (head c).found in
    (omega arith, omega arith)

pub overflow_mul-left : goal.overflow_mul-left
overflow_mul-left c =
    let t = small (lit≤ tt) (head (goal.at.overflow_mul-left c).In-loop-ones).found in
    let l = left_le c.left_of-left.ensures in
    search rules

pub overflow_add-after_1 : goal.overflow_add-after_1
overflow_add-after_1 c =
    let s = ones_small (head (goal.at.overflow_add-after_1 c).In-loop-ones) in
    let t = small (lit≤ tt) (middle c) in
    search rules

pub overflow_mul-second : goal.overflow_mul-second
overflow_mul-second c =
    let t = small (lit≤ tt) (middle c) in
    search rules

pub overflow_mul-second-in-loop-ones : goal.overflow_mul-second-in-loop-ones
overflow_mul-second-in-loop-ones c =
    let t = small (lit≤ tt) (middle (goal.at.overflow_mul-second-in-loop-ones c).After-chosen-second) in
    search rules

pub left_of-rest-requires : goal.left_of-rest-requires
left_of-rest-requires c =
    let t = small (lit≤ tt) (middle (goal.at.left_of-rest-requires c).After-chosen-second) in
    (omega arith, omega arith)

pub loop-ones-smaller : goal.loop-ones-smaller
loop-ones-smaller c = fewer (head (goal.at.loop-ones-smaller c).In-loop-ones)

pub loop-ones-preserved : goal.loop-ones-preserved
loop-ones-preserved c =
    let l = c.loop-ones in
    let a = c.args.a in
    second (a * 2 ^ 54) l.ones c.chosen-second.result (4 * c.left_of-left.result)
    (said c.left_of-rest.ensures (omega arith) (omega arith) (omega arith) (omega arith))
    (said c.chosen-trial.ensures (omega arith) (omega arith) (omega arith) (omega arith)) (head
    (goal.at.loop-ones-preserved c).In-loop-ones) (middle (goal.at.loop-ones-preserved c).After-chosen-second)

pub returns : goal.returns
returns c =
    let l = c.loop-ones in
    ended (c.args.a * 2 ^ 54) l.ones l.trial l.rest (omega (arith, c.loop-ones-test.false)) l.invariant
