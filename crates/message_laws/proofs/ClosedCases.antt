-- Closed cases of the definitions, computed by the prover: one whole message, read back and damaged, texts at the limits of what is legal,
-- and the velocity of the second entry of an answer.
use mathlib.Core.Path.{◌≡◌, refl}
use mathlib.Core.Bool.{true, false}
use mathlib.Core.List.{List, [], ◌∷◌, ◌++◌}
use Prim.Native.Nat.{ℕ, ◌+◌}
use lib.ListN.{replicate}
use Rattle.std.specs.Prelude.{Ok, Err}
use Rattle.float64.specs.Notation.{bits}
use Rattle.little_endian.specs.Bytes.{bytes_of, number_at}
use Rattle.records.specs.Layout.{head_size, entry_size, V1X}
use Rattle.records.specs.Records.{entry_of}
use Rattle.decimal.specs.Texts.{text_of, is_decimal_text}
use Rattle.decimal.specs.declared.Decimal.{Decimal}
use Rattle.orbit_message.specs.Ascii.{ascii}
use Rattle.orbit_message.specs.Texts.{every, is_printable, is_legal}
use Rattle.orbit_message.specs.Templates.{values_in}
use Rattle.orbit_message.specs.Messages.{keys, version, line, lines, message_of, template}
use Rattle.orbit_message.specs.Reading.{vector_in, state_in, are_values, result_for, read_of}
use Rattle.orbit_message.specs.Writing.{departure_velocity}
use Rattle.orbit_message.specs.declared.states.State.{State}
use Rattle.orbit_message.specs.declared.refusals.Refusal.TheVariants.{NotAMessage}

abbrev decimal : ℕ → ℕ → Decimal
decimal w b = record { negative = false; whole = w; billionths = b }

abbrev minus : ℕ → ℕ → Decimal
minus w b = record { negative = true; whole = w; billionths = b }

-- ---- a message

unfoldable pub texts : List (List ℕ)
texts =
    ascii "2026-11-17T16:00:00"
    ∷ ascii "TUG CO-OP"
    ∷ ascii "TUG 8"
    ∷ ascii "2025-012C"
    ∷ ascii "EARTH"
    ∷ ascii "EME2000"
    ∷ ascii "UTC"
    ∷ ascii "2026-11-18T09:15:00"
    ∷ []

-- The message of these texts and of six numbers, in parts that fit on a line.
unfoldable pub sample : List ℕ
sample =
    ascii "CCSDS_OPM_VERS = 2.0\nCREATION_DATE = 2026-11-17T16:00:00\nORIGINATOR = TUG CO-OP\nOBJECT_NAME = TUG 8\n"
    ++ (ascii "OBJECT_ID = 2025-012C\nCENTER_NAME = EARTH\nREF_FRAME = EME2000\nTIME_SYSTEM = UTC\n"
    ++ (ascii "EPOCH = 2026-11-18T09:15:00\nX = 7000.000000000\nY = 0.000000000\nZ = 0.000976562\n"
    ++ ascii "X_DOT = -0.418738387\nY_DOT = 7.868158575\nZ_DOT = 0.327839941\n"))

unfoldable pub numbers : State
numbers =
    record {
      position = record { x = decimal 7000 0; y = decimal 0 0; z = decimal 0 976562 };
      velocity = record { x = minus 0 418738387; y = decimal 7 868158575; z = decimal 0 327839941 };
    }

pub sample_message : message_of texts (decimal 7000 0 ∷ decimal 0 0 ∷ decimal 0 976562
    ∷ minus 0 418738387 ∷ decimal 7 868158575 ∷ decimal 0 327839941 ∷ []) ≡ sample
unfolding texts sample message_of keys version lines line ascii text_of
sample_message = refl

pub sample_read : read_of sample ≡ Ok numbers
unfolding numbers sample read_of template keys version lines line ascii values_in result_for are_values state_in vector_in every
    is_legal is_printable is_decimal_text
sample_read = refl

-- One more LF at the end.
pub further_line_refused : read_of (sample ++ (10 ∷ [])) ≡ Err NotAMessage
unfolding sample read_of template keys version lines line ascii values_in result_for
further_line_refused = refl

-- ---- texts

pub one_byte : is_legal (ascii "x") ≡ true
unfolding is_legal every is_printable ascii
one_byte = refl

pub sixty_bytes : is_legal (replicate 60 120) ≡ true
unfolding is_legal every is_printable
sixty_bytes = refl

pub sixty_one_bytes : is_legal (replicate 61 120) ≡ false
unfolding is_legal
sixty_one_bytes = refl

pub no_byte : is_legal [] ≡ false
unfolding is_legal
no_byte = refl

-- The last printable byte, and the one after it.
pub byte_7_e : is_legal (0x7E ∷ []) ≡ true
unfolding is_legal every is_printable
byte_7_e = refl

pub byte_7_f : is_legal (0x7F ∷ []) ≡ false
unfolding is_legal every is_printable
byte_7_f = refl

pub byte_1_f : is_legal (ascii "a" ++ (0x1F ∷ ascii "b")) ≡ false
unfolding is_legal every is_printable ascii
byte_1_f = refl

pub equals_inside : is_legal (ascii "A = B") ≡ true
unfolding is_legal every is_printable ascii
equals_inside = refl

pub blank_first : is_legal (ascii " A") ≡ false
unfolding is_legal every is_printable ascii
blank_first = refl

pub blank_last : is_legal (ascii "A ") ≡ false
unfolding is_legal every is_printable ascii
blank_last = refl

-- ---- the velocity of an entry

-- Bytes with the f64 1 as the first component of v1 in the second entry, and zeros elsewhere.
unfoldable pub two_entries : List ℕ
two_entries = replicate (head_size + entry_size + V1X.offset) 0 ++ (bytes_of 8 0x3FF0_0000_0000_0000 ++ replicate 40 0)

pub second_entry : departure_velocity two_entries 2 ≡ (record { x = bits 0x3FF0_0000_0000_0000; y = bits 0; z = bits 0 })
unfolding two_entries departure_velocity entry_of bytes_of number_at
second_entry = refl
