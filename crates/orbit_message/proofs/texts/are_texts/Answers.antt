-- `are_texts` meets its contract: the texts are the values found in eight lines (proofs/TextTests.antt).
use mathlib.Core.Path.{◌∙◌}
use native.Mathlib.Omega.{arith}
use lib.Dec.{lit≤}
use Rattle.orbit_message.specs.Templates.{placeholders_in}
use Rattle.orbit_message.specs.Texts.{lines_template}
use Rattle.orbit_message.specs.Matches.{IsMatch}
use Rattle.orbit_message.proofs.TextTests.{eight_placeholders, not_eight_lines, eight_lines}
use Rattle.orbit_message.proofs.texts.are_texts.Goals as goal
use Rattle.orbit_message.proofs.texts.are_texts.Goals.{In-Some}

pub find_values-requires : goal.find_values-requires
unfolding placeholders_in
find_values-requires c = lit≤ tt

-- The code's template is the one of eight lines.
is_match : (c : In-Some) → IsMatch (lines_template 8) c.args.s.now c.in-Some.found
unfolding lines_template
is_match c = c.in-Some.ensures

pub are_legal-requires : goal.are_legal-requires
are_legal-requires c =
    let is = is_match (goal.at.are_legal-requires c).In-Some in
    (is.inside, omega (arith, is.count_is ∙ eight_placeholders))

pub returns-in-Some : goal.returns-in-Some
returns-in-Some c =
    c.are_legal.ensures ∙ eight_lines c.args.s.now c.in-Some.found (is_match (goal.at.returns-in-Some c).In-Some)

pub returns-in-None : goal.returns-in-None
unfolding lines_template
returns-in-None c = not_eight_lines c.args.s.now c.in-None.ensures
