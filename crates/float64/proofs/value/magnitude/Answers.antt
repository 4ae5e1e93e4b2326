-- `value::magnitude` meets its contract: the definition and the library's word agree in each case.
use Rattle.std.proofs.Common.{◌≡◌, false, refl, ◌∙◌}
use lib.Ieee.{Float, nan, inf, fin}
use Rattle.std.specs.Float.{float_with_sign}
use Rattle.float64.specs.Value.{magnitude_of}
use Rattle.float64.proofs.value.magnitude.Goals as goal

same : (x : Float) → float_with_sign false x ≡ magnitude_of x
unfolding float_with_sign magnitude_of
same nan = refl
same (inf s) = refl
same (fin s m e) = refl

pub returns : goal.returns
returns c = c.abs.ensures.value ∙ same c.args.x
