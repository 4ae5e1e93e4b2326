-- `all_finite` meets its contract. The definition makes the same test of each entry.
use Rattle.std.proofs.Common.{◌≡◌, refl, ap, ◌∙◌, rules, tests, ℕ, List, [], ◌∷◌, length, take, ◌&&◌, Bool}
use Rattle.std.specs.List.{list_all}
use Rattle.std.proofs.lemmas.Iterator.{YieldsList-from_slice}
use Rattle.std.proofs.lemmas.Iterator.Search.{all_from_yields_List}
use Rattle.records.specs.Layout.{most_entries}
use Rattle.records.specs.declared.Entry.{Entry}
use Rattle.entries.proofs.Lists.{take_cut_count}
use Rattle.entries.specs.Entries.{entry_finite, every}
use Rattle.entries.proofs.all_finite.Goals as goal

every_is : (es : List Entry) → list_all entry_finite es ≡ every entry_finite es
unfolding every
every_is [] = refl
every_is (e ∷ es) = ap (λ (b : Bool). entry_finite e && b) (every_is es)

pub returns : goal.returns
returns c =
    let a = c.args in
    let few = c.cut_count-few.result in
    let tested = all_from_yields_List entry_finite _ _ _ c.all.ensures.ran (YieldsList-from_slice (take few a.entries) (cc))
    (λ x b q k. search (rules, tests)) in
    let long : length a.entries ≡ most_entries = search (rules, c.well_formed) in
    let same : take few a.entries ≡ take a.count a.entries =
    ap (λ (n : ℕ). take n a.entries) c.cut_count-few.ensures.cut ∙ take_cut_count a.entries a.count long in
    tested ∙ every_is _ ∙ ap (every entry_finite) same
