-- The layout of the question, the answer's head and its entries, the refusal, and the conflict of a board's slot (01, Records
-- on the wire; 02, A1 and A4). This file alone defines the offset and width of each field in bytes, and every size, length and kind
-- by name. Definitions only. The contracts of the code tie its tables of widths and its constants to these definitions.
-- `tiles` tests that a table has no gap and no overlap.
use Rattle.std.specs.Prelude.{ℕ, ◌+◌, ◌-◌, ◌*◌, Bool, ◌&&◌, cond, List, [], ◌∷◌, ◌++◌, eqb}
use Rattle.little_endian.specs.Bytes.{bytes_of, number_at}

-- A field of a record: its offset and its width in bytes.
pub record Field : Type 0 where
  pub offset : ℕ
  pub width : ℕ

abbrev pub field : ℕ → ℕ → Field
field o w = record { offset = o; width = w }

-- The fields with which every record begins: the length, which counts the bytes after it, the kind, the job and the revision.
abbrev pub LENGTH : Field
LENGTH = field 0 4

abbrev pub KIND : Field
KIND = field 4 2

abbrev pub JOB : Field
JOB = field 6 4

abbrev pub REVISION : Field
REVISION = field 10 4

-- The other fields of a question, kind 1: whole revolutions M, way (0 short,
-- 1 long), spare, the positions r1 and r2, mu, and time.
abbrev pub REVOLUTIONS : Field
REVOLUTIONS = field 14 2

abbrev pub WAY : Field
WAY = field 16 1

abbrev pub SPARE : Field
SPARE = field 17 1

abbrev pub R1X : Field
R1X = field 18 8

abbrev pub R1Y : Field
R1Y = field 26 8

abbrev pub R1Z : Field
R1Z = field 34 8

abbrev pub R2X : Field
R2X = field 42 8

abbrev pub R2Y : Field
R2Y = field 50 8

abbrev pub R2Z : Field
R2Z = field 58 8

abbrev pub MU : Field
MU = field 66 8

abbrev pub TIME : Field
TIME = field 74 8

-- The number of entries of an answer, kind 2, or the number of a refusal, kind 3.
abbrev pub NUMBER : Field
NUMBER = field 14 2

-- The fields at the end of a refusal with number 12, and of no other: j of the first void station, and the reason why it is void.
abbrev pub STATION : Field
STATION = field 16 4

abbrev pub REASON : Field
REASON = field 20 2

-- The fields of an entry of an answer: the lower end of the bracket, the halvings, the chosen end
-- (0 lower, 1 upper), and the velocities v1 and v2.
abbrev pub LOWER : Field
LOWER = field 0 8

abbrev pub HALVINGS : Field
HALVINGS = field 8 4

abbrev pub CHOSEN : Field
CHOSEN = field 12 4

abbrev pub V1X : Field
V1X = field 16 8

abbrev pub V1Y : Field
V1Y = field 24 8

abbrev pub V1Z : Field
V1Z = field 32 8

abbrev pub V2X : Field
V2X = field 40 8

abbrev pub V2Y : Field
V2Y = field 48 8

abbrev pub V2Z : Field
V2Z = field 56 8

-- The tables: the fields of each record in their order.
unfoldable pub question_fields : List Field
question_fields =
    LENGTH ∷ KIND ∷ JOB ∷ REVISION ∷ REVOLUTIONS ∷ WAY ∷ SPARE ∷ R1X ∷ R1Y ∷ R1Z ∷ R2X ∷ R2Y ∷ R2Z ∷ MU ∷ TIME ∷ []

unfoldable pub head_fields : List Field
head_fields = LENGTH ∷ KIND ∷ JOB ∷ REVISION ∷ NUMBER ∷ []

unfoldable pub void_refusal_fields : List Field
void_refusal_fields = LENGTH ∷ KIND ∷ JOB ∷ REVISION ∷ NUMBER ∷ STATION ∷ REASON ∷ []

unfoldable pub entry_fields : List Field
entry_fields = LOWER ∷ HALVINGS ∷ CHOSEN ∷ V1X ∷ V1Y ∷ V1Z ∷ V2X ∷ V2Y ∷ V2Z ∷ []

unfoldable pub conflict_fields : List Field
conflict_fields = LENGTH ∷ KIND ∷ JOB ∷ REVISION ∷ []

-- The kinds of records. A conflict occurs only in the slots of a board.
abbrev pub question_kind : ℕ
question_kind = 1

abbrev pub answer_kind : ℕ
answer_kind = 2

abbrev pub refusal_kind : ℕ
refusal_kind = 3

abbrev pub conflict_kind : ℕ
conflict_kind = 4

-- The sizes in bytes of a question, an answer's head, a refusal with number 12, an entry and a conflict. Each table of
-- fields ends at this size (proofs/Tables.antt).
abbrev pub question_size : ℕ
question_size = 82

abbrev pub head_size : ℕ
head_size = 16

abbrev pub void_refusal_size : ℕ
void_refusal_size = 22

abbrev pub entry_size : ℕ
entry_size = 64

abbrev pub conflict_size : ℕ
conflict_size = 14

-- The number of the refusal "no crossing, at least one station void". It alone names a station and a reason.
abbrev pub void_number : ℕ
void_number = 12

-- The fields and the size of a refusal with the given number. Every refusal but number 12 consists of the head alone.
abbrev pub refusal_fields : ℕ → List Field
refusal_fields number = cond (eqb number void_number) void_refusal_fields head_fields

abbrev pub refusal_size : ℕ → ℕ
refusal_size number = cond (eqb number void_number) void_refusal_size head_size

-- The size of an answer with n entries. This is also the offset of the entry of index n.
abbrev pub answer_size : ℕ → ℕ
answer_size n = head_size + entry_size * n

-- The greatest number of entries of an answer.
abbrev pub most_entries : ℕ
most_entries = 8

-- The size of the longest answer.
abbrev pub answer_room : ℕ
answer_room = answer_size most_entries

-- The length of a record of the given size. It counts the bytes after the length field.
abbrev pub length_for : ℕ → ℕ
length_for size = size - LENGTH.width

abbrev pub question_length : ℕ
question_length = length_for question_size

-- The lengths in force for a question.
unfoldable pub question_lengths : List ℕ
question_lengths = question_length ∷ []

-- The size of the longest question.
abbrev pub question_room : ℕ
question_room = question_size

-- The first and the last refusal number in force, as in 01's table.
abbrev pub first_number : ℕ
first_number = 1

abbrev pub last_number : ℕ
last_number = 14

-- The number stored in a field of the given bytes.
abbrev pub value_of : Field → List ℕ → ℕ
value_of f s = number_at f.width s f.offset

-- The bytes of a record whose fields have the given values. Values that have no field are left out.
unfoldable pub encode : List Field → List ℕ → List ℕ
encode [] vs = []
encode (f ∷ fs) [] = []
encode (f ∷ fs) (v ∷ vs) = bytes_of f.width v ++ encode fs vs

-- The kind, the job and the revision in a record's bytes, and the number of a refusal or the number of entries of an answer.
abbrev pub kind_of : List ℕ → ℕ
kind_of s = value_of KIND s

abbrev pub job_of : List ℕ → ℕ
job_of s = value_of JOB s

abbrev pub revision_of : List ℕ → ℕ
revision_of s = value_of REVISION s

abbrev pub number_of : List ℕ → ℕ
number_of s = value_of NUMBER s

-- The size of the record at the start of the bytes, according to its length field.
abbrev pub size_of : List ℕ → ℕ
size_of s = value_of LENGTH s + LENGTH.width

-- The chosen end in the entry of index i of an answer.
abbrev pub chosen_at : ℕ → List ℕ → ℕ
chosen_at i s = number_at CHOSEN.width s (answer_size i + CHOSEN.offset)

-- Whether the fields follow one another from `at` to `end`, without gap or overlap.
unfoldable pub tiles : ℕ → List Field → ℕ → Bool
tiles at [] end = eqb at end
tiles at (f ∷ fs) end = eqb f.offset at && tiles (at + f.width) fs end
