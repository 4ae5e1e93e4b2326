-- The four cases of `joined`, for what is held and a new record (`joining`). The later lemmas split on these cases. If
-- both are of one job, the result is of that job (`joined_job`). If a slot may hold both, a slot may hold the result
-- (`joined_held`). Joining the record again changes nothing (`joined_again`), and joining a record of a lower revision
-- or the bytes that are already held changes nothing (`joined_kept`).
use mathlib.Core.Path.{◌≡◌, refl, ap, ◌∙◌}
use mathlib.Core.Bool.{Bool, true, false, cond}
use mathlib.Core.List.{List}
use mathlib.Core.Logic.{◌⊎◌, inl, inr}
use Prim.Native.Nat.{ℕ, ◌^◌, ◌<◌}
use native.Mathlib.Omega.{arith}
use borrow.Author.Tests.{ltb-true, ltb-false, le-ltb}
use lib.Dec.{ltb}
use Rattle.records.proofs.SingleFields.{conflict_job, conflict_revision}
use Rattle.records.specs.Records.{conflict_bytes}
use Rattle.records.specs.Layout.{JOB, REVISION, job_of, revision_of}
use Rattle.little_endian.specs.Bytes.{AreBytes}
use Rattle.slots.specs.Slots.{is_held, same_bytes}
use Rattle.board.specs.Board.{joined}
use Rattle.slots.proofs.Zeros.{same_is, same_self, differ_is}
use Rattle.little_endian.proofs.Numbers.{number_lt}
use Rattle.slots.proofs.Conflicts.{conflict_held}

-- The job and the revision of a record are numbers of four bytes, so they are below 2^32.
pub small_job : (m : List ℕ) → AreBytes m → job_of m < 2 ^ 32
small_job m bytes = number_lt JOB.width JOB.offset m bytes

pub small_revision : (m : List ℕ) → AreBytes m → revision_of m < 2 ^ 32
small_revision m bytes = number_lt REVISION.width REVISION.offset m bytes

pub data Joining (held new : List ℕ) : List ℕ → Type 0 where
  newer : revision_of held < revision_of new → Joining held new new
  older : revision_of new < revision_of held → Joining held new held
  again : held ≡ new → Joining held new held
  clash : revision_of held ≡ revision_of new → (held ≡ new → ⊥) → Joining held new (conflict_bytes (job_of new) (revision_of new))

pub joining : (held new : List ℕ) → Joining held new (joined held new)
unfolding joined
joining held new =
    by (ltb (revision_of held) (revision_of new)) refl (ltb (revision_of new) (revision_of held)) refl (same_bytes held new) refl
  where
    by : (low : Bool) → ltb (revision_of held) (revision_of new) ≡ low → (high : Bool) → ltb (revision_of new) (revision_of held) ≡ high
        → (same : Bool) → same_bytes held new ≡ same →
        Joining held new (cond low new (cond high held (cond same held (conflict_bytes (job_of new) (revision_of new)))))
    by true e high f same g = newer (omega (arith, ltb-true))
    by false e true f same g = older (omega (arith, ltb-true))
    by false e false f true g = again (same_is held new g)
    by false e false f false g = clash (omega (arith, ltb-false)) (differ_is held new g)

pub joined_job : {held new c : List ℕ} → Joining held new c → AreBytes new → job_of held ≡ job_of new → job_of c ≡ job_of new
joined_job (newer l) bytes e = refl
joined_job (older l) bytes e = e
joined_job (again s) bytes e = e
joined_job {new} (clash s d) bytes e = conflict_job (job_of new) (revision_of new) (small_job new bytes)

pub joined_held : {held new c : List ℕ} → Joining held new c → is_held held ≡ true → is_held new ≡ true → is_held c ≡ true
joined_held (newer l) f g = g
joined_held (older l) f g = f
joined_held (again s) f g = f
joined_held {new} (clash s d) f g = conflict_held (job_of new) (revision_of new)

-- A record of a lower revision, or with the bytes that are already held, changes nothing.
pub joined_kept : {held new c : List ℕ} → Joining held new c → (revision_of new < revision_of held) ⊎ (held ≡ new) → c ≡ held
joined_kept (newer l) (inl k) = absurd (omega arith)
joined_kept (newer l) (inr e) = absurd (omega (arith, ap revision_of e))
joined_kept (older l) how = refl
joined_kept (again s) how = refl
joined_kept (clash s d) (inl k) = absurd (omega arith)
joined_kept (clash s d) (inr e) = absurd (d e)

-- If the revisions are equal, the result is the held bytes if they are the same as the new ones, and otherwise a
-- conflict.
level : (held new : List ℕ) → revision_of held ≡ revision_of new
    → joined held new ≡ cond (same_bytes held new) held (conflict_bytes (job_of new) (revision_of new))
unfolding joined
level held new e = rw (e, le-ltb (revision_of new) (revision_of new) (omega arith))

pub joined_self : (new : List ℕ) → joined new new ≡ new
joined_self new = level new new refl ∙ rw (same_self new)

either : (t : Bool) (c : List ℕ) → cond t c c ≡ c
either true c = refl
either false c = refl

pub joined_again : (held new : List ℕ) → AreBytes new → joined (joined held new) new ≡ joined held new
joined_again held new bytes = by (joining held new) refl
  where
    by : {c : List ℕ} → Joining held new c → joined held new ≡ c → joined c new ≡ c
    by (newer l) e = joined_self new
    by (older l) e = e
    by (again s) e = e
    by (clash s d) e =
        let c = conflict_bytes (job_of new) (revision_of new) in
        level c new (conflict_revision (job_of new) (revision_of new) (small_revision new bytes)) ∙ either (same_bytes c new) c
