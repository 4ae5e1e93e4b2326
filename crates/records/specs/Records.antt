-- The record that the given bytes hold, and the bytes of each record (01, Records on the wire; 02, A1 and A4). Definitions only.
use Rattle.std.specs.Prelude.{ℕ, cond, List, [], ◌∷◌, ◌++◌, eqb, pos, length}
use Rattle.float64.specs.Notation.{bits, bits_of}
use Rattle.float64.specs.declared.Vector.{Vector}
use Rattle.little_endian.specs.Bytes.{signed_bits, signed_of, signed32_bits, signed32_of}
use Rattle.records.specs.Layout.{Field, LENGTH, KIND, JOB, REVISION, REVOLUTIONS, WAY, SPARE, R1X, R1Y, R1Z, R2X, R2Y, R2Z, MU}
use Rattle.records.specs.Layout.{TIME, NUMBER, STATION, REASON, LOWER, HALVINGS, CHOSEN, V1X, V1Y, V1Z, V2X, V2Y, V2Z}
use Rattle.records.specs.Layout.{question_fields, head_fields, refusal_fields, entry_fields, conflict_fields}
use Rattle.records.specs.Layout.{answer_kind, refusal_kind, conflict_kind, void_number, refusal_size, answer_size, conflict_size}
use Rattle.records.specs.Layout.{length_for, value_of, encode}
use Rattle.records.specs.declared.Question.{Question}
use Rattle.records.specs.declared.Head.{Head}
use Rattle.records.specs.declared.Refusal.{Refusal}
use Rattle.records.specs.declared.Entry.{Entry}

-- The vector in three f64 fields.
abbrev pub vector_of : Field → Field → Field → List ℕ → Vector
vector_of fx fy fz s = record { x = bits (value_of fx s); y = bits (value_of fy s); z = bits (value_of fz s) }

-- The question that the bytes hold.
unfoldable pub question_of : List ℕ → Question
question_of s = record {
  length = value_of LENGTH s;
  kind = value_of KIND s;
  job = value_of JOB s;
  revision = value_of REVISION s;
  revolutions = value_of REVOLUTIONS s;
  way = value_of WAY s;
  spare = value_of SPARE s;
  r1 = vector_of R1X R1Y R1Z s;
  r2 = vector_of R2X R2Y R2Z s;
  mu = bits (value_of MU s);
  time = bits (value_of TIME s);
}

-- The values of a question's fields, in their order.
abbrev pub question_numbers : Question → List ℕ
question_numbers q =
    q.length
    ∷ q.kind
    ∷ q.job
    ∷ q.revision
    ∷ q.revolutions
    ∷ q.way
    ∷ q.spare
    ∷ bits_of q.r1.x
    ∷ bits_of q.r1.y
    ∷ bits_of q.r1.z
    ∷ bits_of q.r2.x
    ∷ bits_of q.r2.y
    ∷ bits_of q.r2.z
    ∷ bits_of q.mu
    ∷ bits_of q.time
    ∷ []

-- The bytes of a question.
unfoldable pub question_bytes : Question → List ℕ
question_bytes q = encode question_fields (question_numbers q)

-- The head that the bytes hold: the first 16 bytes of a refusal or of an answer.
unfoldable pub head_of : List ℕ → Head
head_of s = record {
  length = value_of LENGTH s;
  kind = value_of KIND s;
  job = value_of JOB s;
  revision = value_of REVISION s;
  number = value_of NUMBER s;
}

-- The values of a head's fields, in their order.
abbrev pub head_numbers : Head → List ℕ
head_numbers h = h.length ∷ h.kind ∷ h.job ∷ h.revision ∷ h.number ∷ []

-- The bytes of a head.
unfoldable pub head_bytes : Head → List ℕ
head_bytes h = encode head_fields (head_numbers h)

-- The head of an answer with n entries.
unfoldable pub answer_head_of : ℕ → ℕ → ℕ → Head
answer_head_of job revision n = record {
  length = length_for (answer_size n);
  kind = answer_kind;
  job = job;
  revision = revision;
  number = n;
}

-- The refusal with 0 as station and reason.
abbrev pub refusal_with : ℕ → ℕ → ℕ → Refusal
refusal_with job revision number = record { job = job; revision = revision; number = number; station = pos 0; reason = 0 }

-- The refusal that the bytes hold, if they are well formed. Station and reason are read if the number is 12, and are 0 otherwise.
unfoldable pub refusal_of : List ℕ → Refusal
refusal_of s =
    let number = value_of NUMBER s in
    cond (eqb number void_number)
    (record {
      job = value_of JOB s;
      revision = value_of REVISION s;
      number = number;
      station = signed32_of (value_of STATION s);
      reason = value_of REASON s;
    })
    (refusal_with (value_of JOB s) (value_of REVISION s) number)

-- The values of a refusal's fields, in their order. Only a refusal with number 12 has fields for the last two.
abbrev pub refusal_numbers : Refusal → List ℕ
refusal_numbers r =
    length_for (refusal_size r.number)
    ∷ refusal_kind
    ∷ r.job
    ∷ r.revision
    ∷ r.number
    ∷ signed32_bits r.station
    ∷ r.reason
    ∷ []

-- The bytes of a refusal.
unfoldable pub refusal_bytes : Refusal → List ℕ
refusal_bytes r = encode (refusal_fields r.number) (refusal_numbers r)

-- The head with which the bytes of a refusal begin.
unfoldable pub refusal_head_of : Refusal → Head
refusal_head_of r = record {
  length = length_for (refusal_size r.number);
  kind = refusal_kind;
  job = r.job;
  revision = r.revision;
  number = r.number;
}

-- The values of a conflict's fields, for a job at a revision.
abbrev pub conflict_numbers : ℕ → ℕ → List ℕ
conflict_numbers job revision = length_for conflict_size ∷ conflict_kind ∷ job ∷ revision ∷ []

-- The bytes of a conflict.
unfoldable pub conflict_bytes : ℕ → ℕ → List ℕ
conflict_bytes job revision = encode conflict_fields (conflict_numbers job revision)

-- The entry that the bytes hold.
unfoldable pub entry_of : List ℕ → Entry
entry_of s = record {
  lower = signed_of (value_of LOWER s);
  halvings = value_of HALVINGS s;
  chosen = value_of CHOSEN s;
  v1 = vector_of V1X V1Y V1Z s;
  v2 = vector_of V2X V2Y V2Z s;
}

-- The values of an entry's fields, in their order.
abbrev pub entry_numbers : Entry → List ℕ
entry_numbers e =
    signed_bits e.lower
    ∷ e.halvings
    ∷ e.chosen
    ∷ bits_of e.v1.x
    ∷ bits_of e.v1.y
    ∷ bits_of e.v1.z
    ∷ bits_of e.v2.x
    ∷ bits_of e.v2.y
    ∷ bits_of e.v2.z
    ∷ []

-- The bytes of an entry.
unfoldable pub entry_bytes : Entry → List ℕ
entry_bytes e = encode entry_fields (entry_numbers e)

-- The bytes of entries, one after another.
unfoldable pub entries_bytes : List Entry → List ℕ
entries_bytes [] = []
entries_bytes (e ∷ es) = entry_bytes e ++ entries_bytes es

-- The bytes of a whole answer: the head with the number of entries, and then the entries.
unfoldable pub answer_bytes : ℕ → ℕ → List Entry → List ℕ
answer_bytes job revision es = head_bytes (answer_head_of job revision (length es)) ++ entries_bytes es
