-- What a board holds after some messages, stated without reference to their order (02, A1). Definitions only.
use Rattle.std.specs.Prelude.{ℕ, ◌≤◌, ◌<◌, ◌≡◌, true, ◌⊎◌, length}
use mathlib.Core.List.{List, Memᴰ}
use Rattle.records.specs.Records.{conflict_bytes}
use Rattle.records.specs.Layout.{job_of, revision_of}
use Rattle.little_endian.specs.Bytes.{AreBytes}
use Rattle.outcomes.specs.Outcomes.{is_outcome}
use Rattle.board.specs.Board.{SLOTS, is_board, held_on, board_of}
unfoldable pub use Rattle.board.specs.Posting.{post_all}

-- The bytes m are an element of the list ms.
infix 20 ◌∈◌
abbrev pub ◌∈◌ : List ℕ → List (List ℕ) → Type 0
m ∈ ms = Memᴰ m ms

-- Some element of the list has the given job.
abbrev pub SomeOf : ℕ → List (List ℕ) → Type 0
SomeOf job cs = (c : List ℕ) × ((c ∈ cs) × (job_of c ≡ job))

-- No element of the list has the given job.
abbrev pub NoneOf : ℕ → List (List ℕ) → Type 0
NoneOf job cs = (c : List ℕ) → c ∈ cs → job_of c ≡ job → ⊥

-- Both lists have the same messages, in any order and with any repeats.
pub record SameMessages (ms ns : List (List ℕ)) : Type 0 where
  pub there : (m : List ℕ) → m ∈ ms → m ∈ ns
  pub back : (m : List ℕ) → m ∈ ns → m ∈ ms

-- Every message consists of bytes, which are numbers below 256.
abbrev pub AllBytes : List (List ℕ) → Type 0
AllBytes ms = (m : List ℕ) → m ∈ ms → AreBytes m

-- A message that a board can refuse only because no slot is free (B3): a well-formed outcome whose job is not 0.
pub record Postable (m : List ℕ) : Type 0 where
  pub formed : is_outcome m ≡ true
  pub named : 0 < job_of m

-- A postable message in the list for the given job.
pub record CameFor (ms : List (List ℕ)) (job : ℕ) (m : List ℕ) : Type 0 where
  pub among : m ∈ ms
  pub postable : Postable m
  pub for : job_of m ≡ job

-- The postable messages have at most 64 different jobs: a list of at most 64 jobs contains the job of each of them.
pub record OverFewJobs (ms : List (List ℕ)) : Type 0 where
  pub jobs : List ℕ
  pub few : length jobs ≤ SLOTS
  pub each : (m : List ℕ) → m ∈ ms → Postable m → Memᴰ (job_of m) jobs

-- `held` is the only postable message of the highest revision for a job: every other postable message for this job
-- has a lower revision.
pub record OneRecord (ms : List (List ℕ)) (job : ℕ) (held : List ℕ) : Type 0 where
  pub came : CameFor ms job held
  pub highest : (m : List ℕ) → CameFor ms job m → (m ≡ held) ⊎ (revision_of m < revision_of held)

-- The list has two different postable messages of the given revision for a job, and none of a higher revision.
pub record TwoDiffer (ms : List (List ℕ)) (job revision : ℕ) : Type 0 where
  pub one : List ℕ
  pub other : List ℕ
  pub one_came : CameFor ms job one
  pub other_came : CameFor ms job other
  pub one_at : revision_of one ≡ revision
  pub other_at : revision_of other ≡ revision
  pub differ : one ≡ other → ⊥
  pub highest : (m : List ℕ) → CameFor ms job m → revision_of m ≤ revision

-- The list has two different postable messages of the highest revision for the job, and `held` is the conflict at
-- that revision.
pub record InConflict (ms : List (List ℕ)) (job : ℕ) (held : List ℕ) : Type 0 where
  pub revision : ℕ
  pub two : TwoDiffer ms job revision
  pub conflict : held ≡ conflict_bytes job revision

-- What a board holds for a job: the only message of the highest revision, or a conflict.
abbrev pub HeldFor : List (List ℕ) → ℕ → List ℕ → Type 0
HeldFor ms job held = OneRecord ms job held ⊎ InConflict ms job held

-- A board after some messages: it is a board, so its job numbers rise and each job has one slot. Its bytes are those
-- that `board_of` makes from what it holds. Each slot holds what the messages for its job determine, and the job of
-- every postable message has a slot.
pub record BoardAfter (ms : List (List ℕ)) (b : List ℕ) : Type 0 where
  pub well_formed : is_board b ≡ true
  pub slots : b ≡ board_of (held_on b)
  pub holds : (held : List ℕ) → held ∈ held_on b → HeldFor ms (job_of held) held
  pub each_job : (m : List ℕ) → m ∈ ms → Postable m → SomeOf (job_of m) (held_on b)
