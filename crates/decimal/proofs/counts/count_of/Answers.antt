-- `counts::count_of` meets its contract: a subnormal pattern and a normal one.
use mathlib.Core.Path.{◌∙◌}
use Rattle.decimal.proofs.Products.{count_subnormal, count_normal}
use Rattle.decimal.proofs.counts.count_of.Goals as goal

pub returns-then-field-eq0 : goal.returns-then-field-eq0
returns-then-field-eq0 c = c.scaled.ensures ∙ count_subnormal c.args.b c.if-field-eq0.true

pub returns-else-field-eq0 : goal.returns-else-field-eq0
returns-else-field-eq0 c =
    c.scaled-else-field-eq0.ensures ∙ count_normal c.args.b c.requires c.if-field-eq0.false
