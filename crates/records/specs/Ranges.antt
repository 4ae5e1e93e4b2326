-- The values that each record can hold: integers that fit the width of their
-- field, and floats that are f64s. Definitions only.
use Rattle.std.specs.Prelude.{◌≡◌, ◌^◌, ◌<◌, T, pos}
use Rattle.std.specs.Float.{binary64}
use Rattle.std.specs.Float.Ieee.{fits}
use Rattle.std.specs.Int.{w32, w64}
use Rattle.std.proofs.Common.{SFits}
use Rattle.float64.specs.declared.Vector.{Vector}
use Rattle.records.specs.Layout.{void_number}
use Rattle.records.specs.declared.Question.{Question}
use Rattle.records.specs.declared.Head.{Head}
use Rattle.records.specs.declared.Refusal.{Refusal}
use Rattle.records.specs.declared.Entry.{Entry}

pub record VectorHeld (v : Vector) : Type 0 where
  pub x : T (fits binary64 v.x)
  pub y : T (fits binary64 v.y)
  pub z : T (fits binary64 v.z)

pub record QuestionHeld (q : Question) : Type 0 where
  pub length : q.length < 2 ^ 32
  pub kind : q.kind < 2 ^ 16
  pub job : q.job < 2 ^ 32
  pub revision : q.revision < 2 ^ 32
  pub revolutions : q.revolutions < 2 ^ 16
  pub way : q.way < 2 ^ 8
  pub spare : q.spare < 2 ^ 8
  pub r1 : VectorHeld q.r1
  pub r2 : VectorHeld q.r2
  pub mu : T (fits binary64 q.mu)
  pub time : T (fits binary64 q.time)

pub record HeadHeld (h : Head) : Type 0 where
  pub length : h.length < 2 ^ 32
  pub kind : h.kind < 2 ^ 16
  pub job : h.job < 2 ^ 32
  pub revision : h.revision < 2 ^ 32
  pub number : h.number < 2 ^ 16

-- A refusal with a number other than 12 has no field for station and reason, so both are 0.
pub record RefusalHeld (r : Refusal) : Type 0 where
  pub job : r.job < 2 ^ 32
  pub revision : r.revision < 2 ^ 32
  pub number : r.number < 2 ^ 16
  pub station : SFits w32 r.station
  pub reason : r.reason < 2 ^ 16
  pub absent : (r.number ≡ void_number → ⊥) → (r.station ≡ pos 0) × (r.reason ≡ 0)

pub record EntryHeld (e : Entry) : Type 0 where
  pub lower : SFits w64 e.lower
  pub halvings : e.halvings < 2 ^ 32
  pub chosen : e.chosen < 2 ^ 32
  pub v1 : VectorHeld e.v1
  pub v2 : VectorHeld e.v2
