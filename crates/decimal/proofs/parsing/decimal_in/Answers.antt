-- `parsing::decimal_in` meets its contract: its parts are those of the definition.
use Rattle.decimal.proofs.ParseCases.{shown_by}
use Rattle.decimal.proofs.parsing.decimal_in.Goals as goal

pub returns : goal.returns
returns c =
    let whole = c.value_at in
    let billionths = c.value_at-2 in
    shown_by c.args.s.now c.from-sign.result whole.result billionths.result c.from-sign.ensures whole.ensures billionths.ensures
