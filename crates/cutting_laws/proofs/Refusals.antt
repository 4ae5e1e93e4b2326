-- What follows a refusal. If a reset is needed, a call gives B4, takes nothing and changes nothing (`needs_reset`). A call that refuses a
-- length takes the whole piece and leaves `after_refusal` (`refused_after`). From then on, feeding gives out nothing, changes nothing and
-- takes no byte (`refused_feed`, by induction on the calls; `refused_piece`; `refused_all`, by induction on the pieces).
use mathlib.Core.Path.{◌≡◌, refl}
use mathlib.Core.Bool.{true}
use mathlib.Core.List.{List, [], ◌∷◌}
use Prim.Native.Nat.{ℕ, zero, suc}
use lib.Dec.{eqb-suc-zero}
use lib.ListN.{length}
use Rattle.link_reader.specs.declared.Reader.{Reader}
use Rattle.std.specs.Prelude.{Some, None, Ok, Err}
use Rattle.link_reader.specs.declared.Refusal.TheVariants.{BadLength, NeedsReset}
use Rattle.link_reader.specs.Reading.{Came, number, number_b, after_refusal, refusal_of, came_of, step_by, read_of}
use Rattle.cutting_laws.specs.Feeding.{given_by, fed, feed_for, feed, feed_all, concatenation}

pub needs_reset_lem : (r : Reader) (piece : List ℕ) → r.refused ≡ true
    → (refusal_of (read_of r piece).came ≡ number_b 4 ∷ []) × ((read_of r piece).taken ≡ 0) × ((read_of r piece).next ≡ r)
unfolding read_of came_of step_by
needs_reset_lem r piece e = rw e (refl, refl, refl)

pub refused_after : (r : Reader) (piece : List ℕ) → refusal_of (read_of r piece).came ≡ number 1 ∷ []
    → ((read_of r piece).taken ≡ length piece) × ((read_of r piece).next ≡ after_refusal)
unfolding read_of step_by
refused_after r piece = by (came_of r piece)
  where
    by : (c : Came) → refusal_of (step_by c r piece).came ≡ number 1 ∷ []
        → ((step_by c r piece).taken ≡ length piece) × ((step_by c r piece).next ≡ after_refusal)
    by (Ok (Some size)) e = absurd cc
    by (Ok None) e = absurd cc
    by (Err BadLength) e = (refl, refl)
    by (Err NeedsReset) e = absurd cc

pub refused_feed : (calls : ℕ) (p : List ℕ) → feed_for calls after_refusal p ≡ fed [] after_refusal p
unfolding feed_for read_of came_of step_by given_by
refused_feed zero p = refl
refused_feed (suc calls) [] = refl
refused_feed (suc calls) (b ∷ p) = rw (eqb-suc-zero (length p)) (refused_feed calls (b ∷ p))

pub refused_piece : (p : List ℕ) → feed after_refusal p ≡ fed [] after_refusal p
unfolding feed
refused_piece p = refused_feed _ p

pub refused_all : (ps : List (List ℕ)) → feed_all after_refusal ps ≡ fed [] after_refusal (concatenation ps)
unfolding feed_all concatenation
refused_all [] = refl
refused_all (p ∷ ps) = rw (refused_piece p, refused_all ps)
