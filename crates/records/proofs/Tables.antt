-- Shows that the tables of specs/Layout.antt have no gap and no overlap: each field starts where the one before it
-- ends, and each table ends at the size of its record.
use mathlib.Core.Path.{◌≡◌, refl}
use mathlib.Core.Bool.{true}
use mathlib.Core.List.{[], ◌∷◌}
use Prim.Native.Nat.{◌-◌}
use Rattle.records.specs.Layout.{LENGTH, question_fields, head_fields, void_refusal_fields, entry_fields, conflict_fields, question_lengths}
use Rattle.records.specs.Layout.{question_size, head_size, void_refusal_size, entry_size, conflict_size, tiles}

pub question_tiles : tiles 0 question_fields question_size ≡ true
unfolding tiles question_fields
question_tiles = refl

pub head_tiles : tiles 0 head_fields head_size ≡ true
unfolding tiles head_fields
head_tiles = refl

pub void_refusal_tiles : tiles 0 void_refusal_fields void_refusal_size ≡ true
unfolding tiles void_refusal_fields
void_refusal_tiles = refl

pub entry_tiles : tiles 0 entry_fields entry_size ≡ true
unfolding tiles entry_fields
entry_tiles = refl

pub conflict_tiles : tiles 0 conflict_fields conflict_size ≡ true
unfolding tiles conflict_fields
conflict_tiles = refl

-- The only length in force for a question is the size of a question without its length field.
pub question_lengths_lem : question_lengths ≡ (question_size - LENGTH.width) ∷ []
unfolding question_lengths
question_lengths_lem = refl
