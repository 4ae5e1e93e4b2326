-- The bytes of a stream determine its output and the final state (`holds_one`, by induction on `StreamHolds`). So from any state that a
-- reader can reach, the output and the final state are the same however the stream is cut into pieces (`any_cutting`).
use mathlib.Core.Path.{◌≡◌, refl}
use mathlib.Core.List.{List, ◌++◌}
use Prim.Native.Nat.{ℕ}
use Rattle.link_reader.specs.declared.Reader.{Reader}
use Rattle.link_reader.proofs.Verdicts.{judged_by}
use Rattle.cutting_laws.specs.Feeding.{Given, feed_all, concatenation, StreamHolds, unfinished}
use Rattle.cutting_laws.specs.Feeding.{refused_length, next_question, Reached}
use Rattle.cutting_laws.proofs.Holding.{feed_all_holds}
use Rattle.cutting_laws.proofs.Parts.{Ends, kept, refused_rest, ends_hold, reached}

pub holds_one : {s : List ℕ} {gs hs : List Given} {r t : Reader} → StreamHolds s gs r → StreamHolds s hs t → (gs ≡ hs) × (r ≡ t)
holds_one (unfinished d) (unfinished e) = (refl, refl)
holds_one (unfinished d) (refused_length e) = absurd (cc (judged_by d, judged_by e))
holds_one (unfinished d) (next_question e k) = absurd (cc (judged_by d, judged_by e))
holds_one (refused_length d) (unfinished e) = absurd (cc (judged_by d, judged_by e))
holds_one (refused_length d) (refused_length e) = (refl, refl)
holds_one (refused_length d) (next_question e k) = absurd (cc (judged_by d, judged_by e))
holds_one (next_question d h) (unfinished e) = absurd (cc (judged_by d, judged_by e))
holds_one (next_question d h) (refused_length e) = absurd (cc (judged_by d, judged_by e))
holds_one (next_question {stream} {size = size} d h) (next_question {size = other} e k) =
    let same : other ≡ size = cc (judged_by d, judged_by e) in
    let rest = holds_one h (rw same at k) in
    (rw (same, rest.0), rest.1)

-- If two outputs are equal and begin with the same earlier part, they are equal after that part.
same_after : {rest : List ℕ} {last gs hs : List Given} {r : Reader} → Ends rest last r → last ++ gs ≡ last ++ hs → gs ≡ hs
same_after (kept j) e = e
same_after (refused_rest j) e = cc

pub any_cutting : (r : Reader) → Reached r → (ps qs : List (List ℕ)) → concatenation ps ≡ concatenation qs
    → ((feed_all r ps).given ≡ (feed_all r qs).given) × ((feed_all r ps).reader ≡ (feed_all r qs).reader)
any_cutting r h ps qs e =
    let from = reached h in
    let stands = ends_hold from.ends in
    let one = holds_one (rw e at (feed_all_holds ps stands)) (feed_all_holds qs stands) in
    (same_after from.ends one.0, one.1)
