-- `round` meets its contract: its two results are cases of `proofs/Values.antt`.
use mathlib.Core.Path.{sym, subst}
use lib.Dec.{T}
use lib.Ieee.{binary64, fits}
use Rattle.decimal.proofs.Values.{number_returned, refusal_returned}
use Rattle.decimal.proofs.round.Goals as goal
use Rattle.decimal.proofs.round.Goals.{Start}

-- An f64 that a function owns fits binary64.
held : (c : Start) → T (fits binary64 c.args.x)
held c = subst T (sym c.well_formed.0.1) tt

pub returns-then-size-lt4711630319722168320 : goal.returns-then-size-lt4711630319722168320
returns-then-size-lt4711630319722168320 c =
    let pattern = c.to_bits-b in
    let count = c.count_of-count in
    let fits = held (goal.at.returns-then-size-lt4711630319722168320 c).Start in
    let small = c.if-size-lt4711630319722168320.true in
    number_returned c.args.x fits pattern.result count.result pattern.ensures small count.ensures

pub returns-else-size-lt4711630319722168320 : goal.returns-else-size-lt4711630319722168320
returns-else-size-lt4711630319722168320 c =
    let pattern = c.to_bits-b in
    let fits = held (goal.at.returns-else-size-lt4711630319722168320 c).Start in
    refusal_returned c.args.x fits pattern.result pattern.ensures c.if-size-lt4711630319722168320.false
