-- The promises of the reading functions. Definitions only.
use Rattle.std.specs.Prelude.{ℕ, ◌≡◌, ◌<◌, ◌≤◌, List, [], length, take, drop, Option, Some, None, IfSome, Result, Ok, Err}
use Rattle.std.specs.Io.KnownBytes.{IsAtEnd}
use Rattle.std.specs.declared.io.Error.{Error}

-- What reads until the buffer is full did to the bytes that the input has left, where those are known. The reported bytes are as many of
-- them as the buffer has room for, or all of them, and the rest is left. If the bytes do not fill the buffer, the input has ended. After
-- a failed read nothing is promised.
abbrev pub Taken : Option (List ℕ) → Option (List ℕ) → List ℕ → Result ℕ Error → Type 0
Taken old new buffer (Ok n) =
    IfSome old (λ xs. (take n buffer ≡ take (length buffer) xs) × (new ≡ Some (drop (length buffer) xs)))
    × (n < length buffer → IsAtEnd new)
Taken old new buffer (Err e) = Unit {0}

-- What was read of the input xs as its next frame of n bytes. The frame is the first n bytes of xs, and the rest is left; or xs has
-- fewer, and nothing is left. After a failed read nothing is promised.
abbrev pub FrameTaken : (n : ℕ) (xs : List ℕ) → Option (List ℕ) → Result (Option (List ℕ)) Error → Type 0
FrameTaken n xs left (Ok (Some frame)) = (n ≤ length xs) × (frame ≡ take n xs) × (left ≡ Some (drop n xs))
FrameTaken n xs left (Ok None) = (length xs < n) × (left ≡ Some [])
FrameTaken n xs left (Err e) = Unit {0}
