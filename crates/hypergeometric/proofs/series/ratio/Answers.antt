-- `series::ratio` meets its contract. This follows from the rule of the table (`ratio_rule`).
use Rattle.hypergeometric.proofs.Ratios.{ratio_rule}
use Rattle.hypergeometric.proofs.series.ratio.Goals as goal

pub returns : goal.returns
returns c = ratio_rule c.args.n c.requires
