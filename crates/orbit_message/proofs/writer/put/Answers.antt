-- `put` meets its contract: the buffer is too short, or it holds the message and after it what it held before.
use mathlib.Core.Path.{◌≡◌, sym, ap, ◌∙◌}
use mathlib.Core.List.{List, ◌++◌}
use Prim.Native.Nat.{ℕ, ◌≤◌}
use native.Mathlib.Omega.{arith}
use borrow.Author.Rules.{rules}
use lib.ListN.{length, drop}
use Rattle.orbit_message.specs.Writing.{WriteResult}
use Rattle.orbit_message.proofs.PutCases.{too_short, message_fits}
use Rattle.orbit_message.proofs.writer.put.Goals as goal
use Rattle.orbit_message.proofs.writer.put.Goals.{Start}

-- The array has room for the message.
held : (c : Start) → c.args.message.length ≤ length c.args.message.bytes
held c =
    let sized : length c.args.message.bytes ≡ 1100 = search (rules, c.well_formed) in
    omega (arith, sized, c.requires)

pub returns-then-out-n : goal.returns-then-out-n
returns-then-out-n c =
    let args = c.args in
    let fits = held (goal.at.returns-then-out-n c).Start in
    let refused = too_short args.message.bytes args.out.now args.message.length fits c.if-out-n.true in
    record { result = ap (λ (r : WriteResult). r.result) (sym refused); buffer = ap (λ (r : WriteResult). r.buffer) (sym refused) }

pub returns : goal.returns
returns c =
    let message = c.args.message in
    let out = c.args.out.now in
    let done = message_fits message.bytes out message.length (held (goal.at.returns c).Start) c.if-out-n.false in
    let copied = ap (λ (l : List ℕ). l ++ drop message.length out) c.copy_from_slice.ensures.after in
    record {
      result = ap (λ (r : WriteResult). r.result) (sym done);
      buffer = copied ∙ ap (λ (r : WriteResult). r.buffer) (sym done);
    }
