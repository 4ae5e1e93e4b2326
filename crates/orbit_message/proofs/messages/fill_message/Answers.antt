-- `fill_message` meets its contract: the values found are the fourteen lines, and they fill the template.
use mathlib.Core.Path.{◌≡◌, ap, ◌∙◌}
use lib.Dec.{lit≤}
use Rattle.orbit_message.specs.Ascii.{ascii}
use Rattle.orbit_message.specs.Templates.{filled, placeholders_in}
use Rattle.orbit_message.specs.Texts.{lines_template}
use Rattle.orbit_message.specs.Messages.{keys, version, line, lines, template}
use Rattle.orbit_message.specs.Matches.{IsMatch, matched_values}
use Rattle.orbit_message.specs.Fillings.{filled_bytes}
use Rattle.orbit_message.proofs.ValueLines.{lines_found, lines_follow, lines_fit}
use Rattle.orbit_message.proofs.messages.fill_message.Goals as goal
use Rattle.orbit_message.proofs.messages.fill_message.Goals.{In-Some, After-fill}

pub find_values-requires : goal.find_values-requires
unfolding placeholders_in
find_values-requires c = lit≤ tt

-- The code's two templates are those of the definitions.
is_match : (c : In-Some) → IsMatch (lines_template 14) c.args.s.now c.in-Some.values
unfolding lines_template
is_match c = c.in-Some.ensures

pub fill-requires : goal.fill-requires
unfolding placeholders_in lines_template
fill-requires c =
    let is = is_match (goal.at.fill-requires c).In-Some in
    (lines_fit c.args.s.now c.in-Some.values is c.requires.0 c.requires.1, is.count_is, lit≤ tt)

filled_template : (c : After-fill) →
    let s = c.args.s.now in
    filled_bytes c.fill.result ≡ filled template (matched_values s c.in-Some.values)
unfolding template keys lines line version ascii
filled_template c = c.fill.ensures.0

-- The fourteen lines follow their template.
pub unreachable-requires : goal.unreachable-requires
unfolding lines_template
unreachable-requires c = lines_follow c.args.s.now c.requires.0 c.requires.1 c.in-None.ensures

pub returns-clause-bytes : goal.returns-clause-bytes
returns-clause-bytes c =
    let s = c.args.s.now in
    let values = lines_found 14 s c.in-Some.values (is_match (goal.at.returns-clause-bytes c).In-Some) in
    let same = filled_template (goal.at.returns-clause-bytes c).After-fill in
    λ vs l. same ∙ ap (filled template) (values vs l.many l.one_line l.same)
