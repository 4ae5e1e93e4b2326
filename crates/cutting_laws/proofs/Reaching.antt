-- For every state that a reader can reach: a call takes at least one byte of a piece that is not empty, unless it gives B4 (`progress`).
-- Feeding leaves no byte of a piece if no length was refused (`feeding_ends`), and more calls change nothing (`more_calls`). If a length
-- was refused, the state is `after_refusal` (`reached_refused`). Each proof splits on the two cases of `Ends`: the reader keeps
-- unfinished bytes, or it has refused a length.
use mathlib.Core.Path.{◌≡◌, refl, sym, ◌∙◌}
use mathlib.Core.Bool.{true, false}
use mathlib.Core.List.{List, [], ◌∷◌}
use Prim.Native.Nat.{ℕ, suc, ◌<◌}
use native.Mathlib.Omega.{arith}
use lib.ListN.{length}
use Rattle.link_reader.specs.declared.Reader.{Reader}
use Rattle.link_reader.specs.declared.Step.{Step}
use Rattle.link_reader.specs.Reading.{number_b, after_refusal, refusal_of, read_of}
use Rattle.cutting_laws.specs.Feeding.{Given, Fed, feed_for, feed, Reached}
use Rattle.cutting_laws.proofs.Calls.{Call, nothing, bad, finished, call}
use Rattle.cutting_laws.proofs.Pieces.{Comes, feed_kept}
use Rattle.cutting_laws.proofs.Refusals.{needs_reset_lem, refused_feed}
use Rattle.cutting_laws.proofs.Cuttings.{holds_one}
use Rattle.cutting_laws.proofs.Parts.{Ends, kept, refused_rest, refused_ends, reached}
use Rattle.cutting_laws.proofs.Taking.{kept_left}

pub reached_refused : (r : Reader) → Reached r → r.refused ≡ true → r ≡ after_refusal
reached_refused r h e = (refused_ends (reached h).ends e).2

call_takes : {s p : List ℕ} {c : Step} → Call s p c → 0 < length p → 0 < c.taken
call_takes (nothing k) l = l
call_takes (bad k) l = l
call_takes (finished k m same) l = omega arith

pub progress : (r : Reader) → Reached r → (piece : List ℕ) → 0 < length piece → (refusal_of (read_of r piece).came ≡ number_b 4 ∷ [] → ⊥)
    → 0 < (read_of r piece).taken
progress r h piece l f = by (reached h).ends f
  where
    by : {rest : List ℕ} {last : List Given} {t : Reader} → Ends rest last t → (refusal_of (read_of t piece).came ≡ number_b 4 ∷ [] → ⊥)
        → 0 < (read_of t piece).taken
    by {rest} (kept j) g = call_takes (call rest piece j) l
    by (refused_rest j) g = absurd (g (needs_reset_lem after_refusal piece refl).0)

pub feeding_ends : (r : Reader) → Reached r → r.refused ≡ false → (piece : List ℕ) → (feed r piece).left ≡ []
feeding_ends r h e piece = by (reached h).ends e
  where
    by : {rest : List ℕ} {last : List Given} {t : Reader} → Ends rest last t → t.refused ≡ false → (feed t piece).left ≡ []
    by (kept j) f = kept_left piece j
    by (refused_rest j) f = absurd cc

-- If two results of feeding are both what the same stream holds, they are equal.
same_fed : {s : List ℕ} {f g : Fed} → Comes s f → Comes s g → f ≡ g
same_fed c d =
    let one = holds_one c.holds d.holds in
    let left = c.nothing_left ∙ sym d.nothing_left in
    λ i. record { given = one.0 i; reader = one.1 i; left = left i }

pub more_calls : (r : Reader) → Reached r → (piece : List ℕ) (calls : ℕ) → length piece < calls → feed_for calls r piece ≡ feed r piece
unfolding feed
more_calls r h piece calls l = by (reached h).ends
  where
    by : {rest : List ℕ} {last : List Given} {t : Reader} → Ends rest last t
        → feed_for calls t piece ≡ feed_for (suc (length piece)) t piece
    by {rest} (kept j) = same_fed (feed_kept calls rest piece j l) (feed_kept (suc (length piece)) rest piece j (omega arith))
    by (refused_rest j) = refused_feed calls piece ∙ sym (refused_feed (suc (length piece)) piece)
