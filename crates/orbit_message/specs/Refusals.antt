-- The numbers of the refusals (02, A10). Definitions only.
use Rattle.std.specs.Prelude.{ℕ}
use Rattle.orbit_message.specs.declared.refusals.Refusal.{Refusal}
use Rattle.orbit_message.specs.declared.refusals.Refusal.TheVariants.{NotAnAnswer, IllegalTexts, NoSuchEntry}
use Rattle.orbit_message.specs.declared.refusals.Refusal.TheVariants.{OutOfRange, SmallBuffer, NotAMessage}

-- The number of a refusal: k for the case Bk.
abbrev pub refusal_number : Refusal → ℕ
refusal_number NotAnAnswer = 1
refusal_number IllegalTexts = 5
refusal_number NoSuchEntry = 6
refusal_number OutOfRange = 7
refusal_number SmallBuffer = 8
refusal_number NotAMessage = 10
