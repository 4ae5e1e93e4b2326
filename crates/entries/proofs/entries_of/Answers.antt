-- `entries_of` meets its contract: the invariant is that the first i elements hold their entries and the others are unused. The measure
-- is the number of entries left.
use mathlib.Core.Path.{◌≡◌, refl, ap, ◌∙◌}
use mathlib.Core.List.{List, map}
use Prim.Native.Nat.{ℕ, ◌<◌, min}
use native.Mathlib.Omega.{arith}
use borrow.Author.Rules.{rules}
use lib.ListN.{length, take}
use Rattle.bisection.specs.declared.Bracket.{Bracket}
use Rattle.records.specs.Layout.{most_entries}
use Rattle.entries.specs.Entries.{entry_for, places}
use Rattle.entries.proofs.Lists.{entries_up_to, places_next, take_cut_count, taken_again}
use Rattle.entries.proofs.entries_of.Goals as goal
use Rattle.entries.proofs.entries_of.Goals.{After-cut_count-few, In-loop-i}

pub loop-i-init : goal.loop-i-init
loop-i-init c = (omega arith, refl)

-- The list has `most_entries` elements, and in an iteration i is the index of one of them.
list_length : (c : After-cut_count-few) → length c.args.list ≡ most_entries
list_length c = search (rules, c.well_formed)

in_list : (c : In-loop-i) → c.loop-i.i < most_entries
in_list c = omega (arith, c.loop-i-test.true, c.cut_count-few.ensures.most)

pub offset_bounds-list-i : goal.offset_bounds-list-i
offset_bounds-list-i c = omega (arith, in_list c)

pub bounds-list-i : goal.bounds-list-i
bounds-list-i c = in_list c

pub offset_bounds-entries-i : goal.offset_bounds-entries-i
offset_bounds-entries-i c = omega (arith, in_list (goal.at.offset_bounds-entries-i c).In-loop-i)

pub bounds-entries-i : goal.bounds-entries-i
bounds-entries-i c = in_list (goal.at.bounds-entries-i c).In-loop-i

pub loop-i-smaller : goal.loop-i-smaller
loop-i-smaller c = omega (arith, c.loop-i-test.true)

pub loop-i-preserved : goal.loop-i-preserved
loop-i-preserved c =
    let a = c.args in
    let i = c.loop-i.i in
    let listed : i < length a.list = omega (
      arith,
      list_length (goal.at.loop-i-preserved c).After-cut_count-few,
      in_list (goal.at.loop-i-preserved c).In-loop-i,
    ) in (
      omega (arith, c.loop-i-test.true),
      rw (c.loop-i.invariant.1, c.entry_for.ensures) (places_next a.p a.list i _ listed (in_list (goal.at.loop-i-preserved c).In-loop-i)),
    )

pub returns : goal.returns
returns c =
    let a = c.args in
    let last : c.loop-i.i ≡ min a.count most_entries = omega (
      arith,
      c.loop-i-test.false,
      c.loop-i.invariant.0,
      c.cut_count-few.ensures.cut,
    ) in
    let long = list_length (goal.at.returns c).After-cut_count-few in
    let whole : c.loop-i.entries ≡ places (entries_up_to a.p a.list a.count) =
    c.loop-i.invariant.1
    ∙ ap (λ (bs : List Bracket). places (map (entry_for a.p) bs))
    (ap (λ (n : ℕ). take n a.list) last ∙ take_cut_count a.list a.count long) in
    record { places = whole; taken = ap (take a.count) whole ∙ taken_again a.p a.list a.count long }
