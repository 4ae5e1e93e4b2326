-- `value::is_finite` meets its contract: the definition and the library's word agree in each case.
use Rattle.std.proofs.Common.{◌≡◌, refl, ◌∙◌}
use lib.Ieee.{Float, nan, inf, fin}
use Rattle.std.specs.Float.{float_is_finite}
use Rattle.float64.specs.Value.{finite_of}
use Rattle.float64.proofs.value.is_finite.Goals as goal

same : (x : Float) → float_is_finite x ≡ finite_of x
unfolding float_is_finite finite_of
same nan = refl
same (inf s) = refl
same (fin s m e) = refl

pub returns : goal.returns
returns c = c.is_finite.ensures.value ∙ same c.args.x
