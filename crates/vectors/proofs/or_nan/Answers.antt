-- `vectors::or_nan` meets its contract. The quotient 0 / 0 is the NaN that the definition names, and the two cases of the root agree.
use Rattle.std.specs.Prelude.{Option, Some, None, unwrap_or}
use mathlib.Core.Path.{◌≡◌, refl, ◌∙◌}
use lib.Ieee.{Float, nan, div, of_bits}
use Rattle.vectors.specs.Vectors.{or_nan}
use Rattle.vectors.proofs.or_nan.Goals as goal

by_root : (root : Option Float) → unwrap_or root nan ≡ or_nan root
unfolding or_nan
by_root (Some r) = refl
by_root None = refl

pub returns : goal.returns
unfolding div of_bits
returns c = c.unwrap_or.ensures ∙ by_root _
