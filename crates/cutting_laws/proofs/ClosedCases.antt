-- Streams fed in pieces, computed by the prover: 01's worked question cut in two, with an empty piece between, and the start of another
-- question after it (`question_cut`); that question followed by a refused length, which is cut in two (`length_cut`); a question with
-- other faults (`fault_given_out`); a bad length of which three of four bytes have arrived (`not_judged_early`), and one of which all
-- four have (`judged_at_once`).
use mathlib.Core.Path.{◌≡◌, refl}
use mathlib.Core.List.{List, [], ◌∷◌, ◌++◌}
use Prim.Native.Nat.{ℕ, ◌+◌}
use lib.ListN.{take, drop}
use Rattle.little_endian.specs.Bytes.{bytes_of, number_at, has_room, written}
use Rattle.records.specs.Layout.{LENGTH, question_lengths, question_fields, encode}
use Rattle.link_reader.specs.Reading.{number, kept_of, as_new, after_refusal, is_among, judged, came_of, step_by, read_of}
use Rattle.cutting_laws.specs.Feeding.{question, refusal, given_by, feed_for, feed, feed_all}

abbrev ONE : ℕ
ONE = 0x3FF0_0000_0000_0000

-- 01's worked question: job 7, revision 2, M = 1, the short way, r1 = (1, 0, 0), r2 = (0, 1, 0), mu 1, time 1.
unfoldable pub worked : List ℕ
worked = encode question_fields (78 ∷ 1 ∷ 7 ∷ 2 ∷ 1 ∷ 0 ∷ 0 ∷ ONE ∷ 0 ∷ 0 ∷ 0 ∷ ONE ∷ 0 ∷ ONE ∷ ONE ∷ [])

-- The same question with another kind and with job 0. The solver judges these faults.
unfoldable pub faulty : List ℕ
faulty = encode question_fields (78 ∷ 2 ∷ 0 ∷ 2 ∷ 1 ∷ 0 ∷ 0 ∷ ONE ∷ 0 ∷ 0 ∷ 0 ∷ ONE ∷ 0 ∷ ONE ∷ ONE ∷ [])

-- A length one above the length in force.
unfoldable pub over : List ℕ
over = bytes_of LENGTH.width 79

-- The length in force with another second byte.
unfoldable pub high : List ℕ
high = bytes_of LENGTH.width (78 + 256)

abbrev pub cut : List (List ℕ)
cut = take 3 worked ∷ [] ∷ (drop 3 worked ++ take 5 worked) ∷ []

abbrev pub cut_over : List (List ℕ)
cut_over = (worked ++ take 2 over) ∷ drop 2 over ∷ []

pub question_cut : ((feed_all as_new cut).given ≡ question worked ∷ []) × (kept_of (feed_all as_new cut).reader ≡ take 5 worked)
unfolding worked question_fields encode bytes_of number_at has_room written question_lengths is_among judged came_of step_by read_of
    given_by feed_for
    feed feed_all
question_cut = (refl, refl)

pub length_cut : ((feed_all as_new cut_over).given ≡ question worked ∷ refusal (number 1) ∷ [])
    × ((feed_all as_new cut_over).reader ≡ after_refusal)
unfolding worked over question_fields encode bytes_of number_at has_room written question_lengths is_among judged came_of step_by read_of
    given_by
    feed_for feed feed_all
length_cut = (refl, refl)

pub fault_given_out : (feed_all as_new (faulty ∷ [])).given ≡ question faulty ∷ []
unfolding faulty question_fields encode bytes_of number_at has_room written question_lengths is_among judged came_of step_by read_of
    given_by feed_for
    feed feed_all
fault_given_out = refl

pub not_judged_early : ((feed_all as_new (take 3 over ∷ [])).given ≡ []) × (kept_of (feed_all as_new (take 3 over ∷ [])).reader
    ≡ take 3 over)
unfolding over question_fields encode bytes_of number_at has_room written question_lengths is_among judged came_of step_by read_of
    given_by feed_for
    feed feed_all
not_judged_early = (refl, refl)

pub judged_at_once : (feed_all as_new (high ∷ [])).given ≡ refusal (number 1) ∷ []
unfolding high question_fields encode bytes_of number_at has_room written question_lengths is_among judged came_of step_by read_of
    given_by feed_for
    feed feed_all
judged_at_once = refl
