-- `start_of` meets its contract. Its tests are those of `start_of`.
use mathlib.Core.Path.{◌≡◌, sym, ap, ◌∙◌}
use borrow.Author.Tests.{eqb-true, eqb-false}
use Prim.Native.Nat.{◌≤◌, ◌<◌}
use native.Mathlib.Omega.{arith}
use lib.ListN.{length}
use Rattle.records.specs.Layout.{LENGTH, value_of}
use Rattle.record_stream.specs.declared.Start.TheVariants.{Record}
use Rattle.record_stream.specs.Streams.{longest_rest}
use Rattle.record_stream.proofs.Starts.{ended, cut_short, too_long, followed}
use Rattle.record_stream.proofs.start_of.Goals as goal
use Rattle.record_stream.proofs.start_of.Goals.{Else-is_empty}

pub returns-then-is_empty : goal.returns-then-is_empty
returns-then-is_empty c =
    let head = c.args.head.now in
    ended head (eqb-true (length head) 0 (sym c.is_empty.ensures ∙ c.if-is_empty.true))

-- The input has not ended.
some : (c : Else-is_empty) → length c.args.head.now ≡ 0 → ⊥
some c = eqb-false (length c.args.head.now) 0 (sym c.is_empty.ensures ∙ c.if-is_empty.false)

pub returns-then-head-lt-LENGTH_SIZE : goal.returns-then-head-lt-LENGTH_SIZE
returns-then-head-lt-LENGTH_SIZE c =
    let head = c.args.head.now in
    let short : length head < LENGTH.width = omega (arith, c.if-head-lt-LENGTH_SIZE.true) in
    cut_short head (some (goal.at.returns-then-head-lt-LENGTH_SIZE c).Else-is_empty) short

pub returns-then-rest-gt-LONGEST_REST : goal.returns-then-rest-gt-LONGEST_REST
returns-then-rest-gt-LONGEST_REST c =
    let head = c.args.head.now in
    let long : LENGTH.width ≤ length head = omega (arith, c.if-head-lt-LENGTH_SIZE.false) in
    let far : longest_rest < value_of LENGTH head = omega (arith, c.if-rest-gt-LONGEST_REST.true, c.length_of-rest.ensures) in
    too_long head (some (goal.at.returns-then-rest-gt-LONGEST_REST c).Else-is_empty) long far

pub returns : goal.returns
returns c =
    let head = c.args.head.now in
    let long : LENGTH.width ≤ length head = omega (arith, c.if-head-lt-LENGTH_SIZE.false) in
    let near : value_of LENGTH head ≤ longest_rest = omega (arith, c.if-rest-gt-LONGEST_REST.false, c.length_of-rest.ensures) in
    ap Record c.length_of-rest.ensures ∙ followed head (some (goal.at.returns c).Else-is_empty) long near
