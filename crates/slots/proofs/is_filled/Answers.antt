-- `is_filled` meets its contract. The definition splits the slot at the size that its length field gives. The code
-- splits it there too, or at the slot's end if that comes first, which gives the same two parts.
use Prim.Native.Nat.{◌-◌}
use mathlib.Core.Path.{sym, ap, ◌∙◌}
use native.Mathlib.Nat.{min-le_right}
use native.Mathlib.Omega.{arith}
use lib.ListN.{length, drop, length-drop}
use lib.Seq.{length-take-le, take_all}
use Rattle.records.specs.Layout.{size_of}
use Rattle.slots.specs.Slots.{content_of, is_zero, is_filled}
use Rattle.little_endian.proofs.Cuts.{take_cut, drop_cut}
use Rattle.slots.proofs.is_filled.Goals as goal

pub slice_bounds-is_held-end : goal.slice_bounds-is_held-end
slice_bounds-is_held-end c =
    let s = c.args.slot.now in
    sym (length-take-le c.content_size-size.result s
    (omega (arith, c.content_size-size.ensures, min-le_right (size_of s) (length s))))

pub returns-then-is_held : goal.returns-then-is_held
unfolding is_filled content_of
returns-then-is_held c =
    let size = c.content_size-size in
    let s = c.args.slot.now in
    rw (← take_cut (size_of s) s, ← drop_cut (size_of s) s, ← size.ensures, ← c.is_held.ensures, c.if-is_held.true)
    (c.is_zero.ensures ∙ ap is_zero (take_all (length s - size.result) (drop size.result s) (simp length-drop (omega arith))))

pub returns-else-is_held : goal.returns-else-is_held
unfolding is_filled content_of
returns-else-is_held c =
    let s = c.args.slot.now in
    rw (← take_cut (size_of s) s, ← c.content_size-size.ensures, ← c.is_held.ensures, c.if-is_held.false)
