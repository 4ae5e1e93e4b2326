-- `numbers_of` meets its contract: three numbers for each decimal, in the order of the definition.
use mathlib.Core.Bool.{Bool, true, false}
use mathlib.Core.Path.{◌≡◌, refl}
use mir.Val.{bool_byte}
use Rattle.c_message.specs.Numbers.{sign_number, state_words}
use Rattle.c_message.proofs.numbers_of.Goals as goal

-- The number of a bool is 1 for true and 0 for false.
sign_is : (b : Bool) → bool_byte b ≡ sign_number b
sign_is true = refl
sign_is false = refl

pub returns : goal.returns
unfolding state_words
returns c =
    simp (
      c.from-6.ensures,
      c.from-5.ensures,
      c.from-4.ensures,
      c.from-3.ensures,
      c.from-2.ensures,
      c.from.ensures,
      sign_is,
    )
