-- `read` meets its contract: each return is a case of proofs/ReadCases.antt.
use mathlib.Core.Path.{◌≡◌, sym, ◌∙◌}
use native.Mathlib.Omega.{arith}
use borrow.Author.Rules.{rules}
use lib.Dec.{lit≤}
use Rattle.std.specs.Prelude.{Some, None, Err}
use Rattle.std.proofs.lemmas.Option.{MatchOption-at_some, MatchOption-at_none}
use Rattle.std.proofs.lemmas.Result.{err_from_is_err_and}
use Rattle.orbit_message.specs.Ascii.{ascii}
use Rattle.orbit_message.specs.Templates.{placeholders_in}
use Rattle.orbit_message.specs.Messages.{keys, version, line, lines, template}
use Rattle.orbit_message.specs.Matches.{IsMatch}
use Rattle.orbit_message.specs.declared.refusals.Refusal.TheVariants.{NotAMessage}
use Rattle.orbit_message.proofs.MessageTemplate.{fourteen_placeholders}
use Rattle.orbit_message.proofs.ReadCases.{not_template, not_legal, not_position, not_velocity, is_message}
use Rattle.orbit_message.proofs.reader.read.Goals as goal
use Rattle.orbit_message.proofs.reader.read.Goals.{In_ok-found}

pub find_values-requires : goal.find_values-requires
unfolding placeholders_in
find_values-requires c = lit≤ tt

-- The code's template is the one of the definitions.
is_match : (c : In_ok-found) → IsMatch template c.args.s.now c.in_ok-found.found
unfolding template keys lines line version ascii
is_match c =
    let found : c.find_values.result ≡ Some c.in_ok-found.found = grind arith in
    MatchOption-at_some _ _ c.in_ok-found.found found c.find_values.ensures

pub returns-in_err-found : goal.returns-in_err-found
unfolding template keys lines line version ascii
returns-in_err-found c =
    let none : c.find_values.result ≡ None = grind arith in
    let left = err_from_is_err_and c.from_residual.result c.from_residual.ensures.1 in
    let same : c.from_residual.result ≡ Err NotAMessage = grind arith in
    same ∙ not_template c.args.s.now (MatchOption-at_none _ _ none c.find_values.ensures)

pub are_legal-requires : goal.are_legal-requires
are_legal-requires c =
    let is = is_match (goal.at.are_legal-requires c).In_ok-found in
    (is.inside, omega (arith, is.count_is ∙ fourteen_placeholders))

pub returns-then-not-are_legal : goal.returns-then-not-are_legal
returns-then-not-are_legal c =
    let is = is_match (goal.at.returns-then-not-are_legal c).In_ok-found in
    let found = c.in_ok-found.found in
    let illegal = sym c.are_legal.ensures ∙ c.if-not-are_legal.true in
    not_legal c.args.s.now found is illegal

pub vector_at-requires : goal.vector_at-requires
vector_at-requires c =
    let is = is_match (goal.at.vector_at-requires c).In_ok-found in
    (is.inside, is.count_is ∙ fourteen_placeholders, search rules)

pub returns-in_err-position : goal.returns-in_err-position
returns-in_err-position c =
    let is = is_match (goal.at.returns-in_err-position c).In_ok-found in
    let found = c.in_ok-found.found in
    let p = c.vector_at in
    let none : p.result ≡ None = grind arith in
    let left = err_from_is_err_and c.from_residual-in_err-position.result c.from_residual-in_err-position.ensures.1 in
    let same : c.from_residual-in_err-position.result ≡ Err NotAMessage = grind arith in
    same ∙ not_position c.args.s.now found is p.result p.ensures none

pub vector_at-requires-2 : goal.vector_at-requires-2
vector_at-requires-2 c =
    let is = is_match (goal.at.vector_at-requires-2 c).In_ok-found in
    (is.inside, is.count_is ∙ fourteen_placeholders, search rules)

pub returns-in_err-velocity : goal.returns-in_err-velocity
returns-in_err-velocity c =
    let is = is_match (goal.at.returns-in_err-velocity c).In_ok-found in
    let found = c.in_ok-found.found in
    let q = c.vector_at-2 in
    let none : q.result ≡ None = grind arith in
    let left = err_from_is_err_and c.from_residual-in_err-velocity.result c.from_residual-in_err-velocity.ensures.1 in
    let same : c.from_residual-in_err-velocity.result ≡ Err NotAMessage = grind arith in
    same ∙ not_velocity c.args.s.now found is q.result q.ensures none

pub returns : goal.returns
returns c =
    let is = is_match (goal.at.returns c).In_ok-found in
    let found = c.in_ok-found.found in
    let p = c.vector_at in
    let q = c.vector_at-2 in
    let x = c.in_ok-position.position in
    let y = c.in_ok-velocity.velocity in
    let has_x : p.result ≡ Some x = grind arith in
    let has_y : q.result ≡ Some y = grind arith in
    let all_legal = sym c.are_legal.ensures ∙ c.if-not-are_legal.false in
    is_message c.args.s.now found is all_legal p.result q.result x y p.ensures has_x q.ensures has_y
