-- `is_legal` meets its contract: each return is a case of proofs/TextTests.antt.
use mathlib.Core.Path.{ap, ◌∙◌}
use mathlib.Core.Bool.{Bool, not, ◌&&◌}
use Prim.Native.Nat.{◌-◌, ◌≤◌}
use lib.Dec.{eqb}
use lib.ListN.{length, get_or}
use Rattle.orbit_message.proofs.TextTests.{out_of_bounds, in_bounds, legal_if}
use Rattle.orbit_message.proofs.texts.is_legal.Goals as goal
use Rattle.orbit_message.proofs.texts.is_legal.Goals.{Else-n}

pub returns-then-n : goal.returns-then-n
returns-then-n c = out_of_bounds c.args.s.now c.if-n.true

-- The length is 1 to 60.
sized : (c : Else-n) → (1 ≤ length c.args.s.now) × (length c.args.s.now ≤ 60)
sized c = in_bounds c.args.s.now c.if-n.false

pub returns : goal.returns
returns c =
    let s = c.args.s.now in
    let ends : Bool → Bool = λ all. all && not (eqb (get_or s 0 0) 0x20) && not (eqb (get_or s (length s - 1) 0) 0x20) in
    ap ends c.is_printable.ensures ∙ legal_if s (sized (goal.at.returns c).Else-n)
