-- `parsing::parse` meets its contract: each result is a case of `proofs/ParseCases.antt`.
use Rattle.decimal.proofs.ParseCases.{inside, length_refused, number_parsed, refusal_parsed}
use Rattle.decimal.proofs.parsing.parse.Goals as goal

pub returns-then-n : goal.returns-then-n
returns-then-n c = length_refused c.args.s.now c.if-n.true

pub decimal_in-d-requires : goal.decimal_in-d-requires
decimal_in-d-requires c = inside c.args.s.now c.if-n.false

pub returns-then-is_well_formed-matches : goal.returns-then-is_well_formed-matches
returns-then-is_well_formed-matches c =
    let s = c.args.s.now in
    let shown = c.decimal_in-d in
    let formed = c.is_well_formed in
    let match = c.matches in
    number_parsed s shown.result formed.result match.result shown.ensures formed.ensures match.ensures c.if-is_well_formed-matches.true

pub returns-else-is_well_formed-matches : goal.returns-else-is_well_formed-matches
returns-else-is_well_formed-matches c =
    let s = c.args.s.now in
    let shown = c.decimal_in-d in
    let formed = c.is_well_formed in
    let match = c.matches in
    refusal_parsed s shown.result formed.result match.result shown.ensures formed.ensures match.ensures c.if-is_well_formed-matches.false
