-- The verdict on bytes that begin a question, stated as facts and not as an order of tests. The theorems about streams use these facts.
-- Definitions only.
use Rattle.std.specs.Prelude.{ℕ, ◌≤◌, ◌<◌, ◌≡◌, true, false, List, length, Some, None, Ok, Err}
use Rattle.records.specs.Layout.{LENGTH, value_of, size_of}
use Rattle.link_reader.specs.declared.Refusal.TheVariants.{BadLength}
use Rattle.link_reader.specs.Reading.{Came, is_question_length}

-- The verdict on the bytes s. `few`: fewer bytes than a length field has, so nothing yet. `bad`: the length field is complete, and the
-- length is not in force. `part`: the length is in force, and there are fewer bytes than the size that it gives, so nothing yet.
-- `whole`: the length is in force and the question is whole, with the size that its length gives.
pub data Verdict (s : List ℕ) : Came → Type 0 where
  few : length s < LENGTH.width → Verdict s (Ok None)
  bad : LENGTH.width ≤ length s → is_question_length (value_of LENGTH s) ≡ false → Verdict s (Err BadLength)
  part : LENGTH.width ≤ length s → is_question_length (value_of LENGTH s) ≡ true → length s < size_of s → Verdict s (Ok None)
  whole : {size : ℕ} → LENGTH.width ≤ length s → is_question_length (value_of LENGTH s) ≡ true → size_of s ≤ length s → size_of s ≡ size
      → Verdict s (Ok (Some size))
