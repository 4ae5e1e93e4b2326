-- `parsing::is_well_formed` meets its contract: its test is that of `is_well_formed`.
use mathlib.Core.Path.{refl}
use Rattle.decimal.specs.Texts.{is_well_formed}
use Rattle.decimal.proofs.parsing.is_well_formed.Goals as goal

pub returns : goal.returns
unfolding is_well_formed
returns c = refl
