-- Shows that reading a single field of a written record returns its value, if that fits the field and whatever the other
-- fields hold: for a head and everything that begins with one, a refusal, an answer, the chosen end of an entry, and a
-- conflict. The size and the kind of a conflict follow by computation. All other proofs apply `number_back` to the field,
-- with the fields before and after it as the surrounding bytes.
use mathlib.Core.Path.{◌≡◌, refl, sym, ap, ◌∙◌}
use mathlib.Core.List.{List, [], ◌++◌, append_assoc}
use Prim.Native.Nat.{ℕ, ◌+◌, ◌^◌, ◌≤◌, ◌<◌}
use native.Mathlib.Omega.{arith}
use lib.ListN.{length, drop, length-append}
use Rattle.little_endian.specs.Bytes.{bytes_of, number_at, signed_bits}
use Rattle.little_endian.proofs.RoundTrip.{number_back}
use Rattle.little_endian.proofs.Same.{number_front}
use Rattle.records.specs.Layout.{Field, CHOSEN, encode, head_fields, entry_fields, conflict_fields}
use Rattle.records.specs.Layout.{answer_kind, refusal_kind, conflict_kind, head_size, refusal_size, answer_size, conflict_size}
use Rattle.records.specs.Layout.{most_entries, length_for}
use Rattle.records.specs.Layout.{value_of, kind_of, job_of, revision_of, number_of, size_of}
use Rattle.records.specs.Records.{head_bytes, refusal_head_of, refusal_bytes, answer_head_of, entries_bytes, answer_bytes}
use Rattle.records.specs.Records.{entry_numbers, entry_bytes, conflict_bytes}
use Rattle.records.specs.declared.Head.{Head}
use Rattle.records.specs.declared.Refusal.{Refusal}
use Rattle.records.specs.declared.Entry.{Entry}
use Rattle.records.proofs.Sizes.{refusal_length, refusal_between}
use Rattle.records.proofs.RefusalParts.{after_head, refusal_parts}

-- ---- a head, with any bytes after it

module _ (h : Head) (rest : List ℕ) where
  abbrev from_job : List ℕ
  from_job = bytes_of 4 h.job ++ (bytes_of 4 h.revision ++ (bytes_of 2 h.number ++ rest))

  head_size_lem : h.length < 2 ^ 32 → size_of (head_bytes h ++ rest) ≡ h.length + 4
  unfolding head_bytes encode head_fields bytes_of
  head_size_lem l = ap (λ (n : ℕ). n + 4) (number_back 4 h.length [] (bytes_of 2 h.kind ++ from_job) l)

  head_kind : h.kind < 2 ^ 16 → kind_of (head_bytes h ++ rest) ≡ h.kind
  unfolding head_bytes encode head_fields bytes_of
  head_kind l = number_back 2 h.kind (bytes_of 4 h.length) from_job l

  head_job : h.job < 2 ^ 32 → job_of (head_bytes h ++ rest) ≡ h.job
  unfolding head_bytes encode head_fields bytes_of
  head_job l =
      number_back 4 h.job (bytes_of 4 h.length ++ bytes_of 2 h.kind) (bytes_of 4 h.revision ++ (bytes_of 2 h.number ++ rest)) l

  head_revision : h.revision < 2 ^ 32 → revision_of (head_bytes h ++ rest) ≡ h.revision
  unfolding head_bytes encode head_fields bytes_of
  head_revision l =
      let before = bytes_of 4 h.length ++ (bytes_of 2 h.kind ++ bytes_of 4 h.job) in
      number_back 4 h.revision before (bytes_of 2 h.number ++ rest) l

  head_number : h.number < 2 ^ 16 → number_of (head_bytes h ++ rest) ≡ h.number
  unfolding head_bytes encode head_fields bytes_of
  head_number l =
      let before = bytes_of 4 h.length ++ (bytes_of 2 h.kind ++ (bytes_of 4 h.job ++ bytes_of 4 h.revision)) in
      number_back 2 h.number before rest l

-- ---- a refusal

module _ (r : Refusal) where
  abbrev refusal_head : Head
  refusal_head = refusal_head_of r

  pub refusal_size_lem : size_of (refusal_bytes r) ≡ refusal_size r.number
  unfolding refusal_head_of
  refusal_size_lem =
      let between = refusal_between r.number in
      ap size_of (refusal_parts r) ∙ head_size_lem refusal_head (after_head r) (omega arith) ∙ omega arith

  pub refusal_kind_lem : kind_of (refusal_bytes r) ≡ refusal_kind
  unfolding refusal_head_of
  refusal_kind_lem = ap kind_of (refusal_parts r) ∙ head_kind refusal_head (after_head r) (omega arith)

  pub refusal_job : r.job < 2 ^ 32 → job_of (refusal_bytes r) ≡ r.job
  unfolding refusal_head_of
  refusal_job l = ap job_of (refusal_parts r) ∙ head_job refusal_head (after_head r) l

  pub refusal_revision : r.revision < 2 ^ 32 → revision_of (refusal_bytes r) ≡ r.revision
  unfolding refusal_head_of
  refusal_revision l = ap revision_of (refusal_parts r) ∙ head_revision refusal_head (after_head r) l

  pub refusal_number : r.number < 2 ^ 16 → number_of (refusal_bytes r) ≡ r.number
  unfolding refusal_head_of
  refusal_number l = ap number_of (refusal_parts r) ∙ head_number refusal_head (after_head r) l

  -- A field of the head has the same value if more bytes follow the refusal.
  pub refusal_front : (f : Field) (rest : List ℕ) → f.offset + f.width ≤ head_size →
      value_of f (refusal_bytes r ++ rest) ≡ value_of f (refusal_bytes r)
  refusal_front f rest within =
      number_front f.width f.offset (refusal_bytes r) rest (omega (arith, refusal_length r, refusal_between r.number))

-- ---- an answer

module _ (job revision : ℕ) (es : List Entry) (few : length es ≤ most_entries) where
  abbrev head_of : Head
  head_of = answer_head_of job revision (length es)

  pub answer_size_lem : size_of (answer_bytes job revision es) ≡ answer_size (length es)
  unfolding answer_bytes answer_head_of
  answer_size_lem = head_size_lem head_of (entries_bytes es) (omega arith) ∙ omega arith

  pub answer_kind_lem : kind_of (answer_bytes job revision es) ≡ answer_kind
  unfolding answer_bytes answer_head_of
  answer_kind_lem = head_kind head_of (entries_bytes es) (omega arith)

  pub answer_number : number_of (answer_bytes job revision es) ≡ length es
  unfolding answer_bytes answer_head_of
  answer_number = head_number head_of (entries_bytes es) (omega arith)

-- The chosen end of an entry, with any bytes before and after the entry.
pub chosen_back : (before : List ℕ) (e : Entry) (after : List ℕ) → e.chosen < 2 ^ 32 →
    number_at CHOSEN.width (before ++ (entry_bytes e ++ after)) (length before + CHOSEN.offset) ≡ e.chosen
unfolding entry_bytes encode entry_fields bytes_of
chosen_back before e after h =
    let start = bytes_of 8 (signed_bits e.lower) ++ bytes_of 4 e.halvings in
    let rest = encode (drop 3 entry_fields) (drop 3 (entry_numbers e)) ++ after in
    let whole = start ++ (bytes_of 4 e.chosen ++ rest) in
    ap (λ (n : ℕ). number_at 4 (before ++ whole) n) (sym (length-append before start))
    ∙ ap (λ (l : List ℕ). number_at 4 l (length (before ++ start))) (sym (append_assoc before start (bytes_of 4 e.chosen ++ rest)))
    ∙ number_back 4 e.chosen (before ++ start) rest h

-- ---- a conflict

module _ (job revision : ℕ) where
  abbrev conflict_start : List ℕ
  conflict_start = bytes_of 4 (length_for conflict_size) ++ bytes_of 2 conflict_kind

  pub conflict_size_lem : size_of (conflict_bytes job revision) ≡ conflict_size
  unfolding conflict_bytes conflict_fields encode bytes_of number_at
  conflict_size_lem = refl

  pub conflict_kind_lem : kind_of (conflict_bytes job revision) ≡ conflict_kind
  unfolding conflict_bytes conflict_fields encode bytes_of number_at
  conflict_kind_lem = refl

  pub conflict_job : job < 2 ^ 32 → job_of (conflict_bytes job revision) ≡ job
  unfolding conflict_bytes conflict_fields encode bytes_of
  conflict_job h = number_back 4 job conflict_start (bytes_of 4 revision ++ []) h

  pub conflict_revision : revision < 2 ^ 32 → revision_of (conflict_bytes job revision) ≡ revision
  unfolding conflict_bytes conflict_fields encode bytes_of
  conflict_revision h = number_back 4 revision (conflict_start ++ bytes_of 4 job) [] h
