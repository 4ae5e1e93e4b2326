-- `write_answer` meets its contract: the invariant is `so_far`, the buffer with the head and the first i entries written. The measure is
-- the number of entries left.
use mathlib.Core.Path.{◌≡◌, refl, sym, ap, ◌∙◌}
use Prim.Native.Nat.{ℕ, ◌+◌, ◌-◌, ◌≤◌, ◌<◌}
use native.Mathlib.Omega.{arith}
use native.Mathlib.Nat.{le_refl}
use borrow.Author.Rules.{rules}
use mathlib.Core.List.{List}
use borrow.Rule.Slice.PartMut.{put_mid}
use lib.ListN.{length, take}
use Rattle.little_endian.specs.Bytes.{written}
use Rattle.little_endian.proofs.Laid.{laid_length, not_laid}
use Rattle.records.specs.Layout.{most_entries, answer_size}
use Rattle.records.specs.Records.{head_bytes, answer_head_of, answer_bytes}
use Rattle.records.specs.declared.Head.{Head}
use Rattle.records.specs.declared.Entry.{Entry}
use Rattle.records.proofs.Sizes.{head_length}
use Rattle.entries.proofs.Lists.{take_cut_count}
use Rattle.entries.proofs.Written.{so_far, starts, size_at, goes_on, taken_size, ends}
use Rattle.entries.proofs.answers.write_answer.Goals as goal
use Rattle.entries.proofs.answers.write_answer.Goals.{After-cut_count-few, After-write_head, In-loop-i}

-- The cut count is at most the length of the list, and it takes the same entries from the list as the count does.
cut : (c : After-cut_count-few) →
    let a = c.args in
    (c.cut_count-few.result ≤ length a.entries) × (take c.cut_count-few.result a.entries ≡ take a.count a.entries)
cut c =
    let a = c.args in
    let long : length a.entries ≡ most_entries = search (rules, c.well_formed) in (
      omega (arith, long, c.cut_count-few.ensures.most),
      ap (λ (n : ℕ). take n a.entries) c.cut_count-few.ensures.cut ∙ take_cut_count a.entries a.count long,
    )

pub returns-then-out-answer_size : goal.returns-then-out-answer_size
returns-then-out-answer_size c =
    let a = c.args in
    let n = c.cut_count-few.result in
    let few = cut (goal.at.returns-then-out-answer_size c).After-cut_count-few in
    let long = taken_size a.entries a.job a.revision n few.0 in
    sym
    (ap (λ (es : List Entry). written a.out.now (answer_bytes a.job a.revision es)) (sym few.1)
    ∙ not_laid a.out.now (answer_bytes a.job a.revision (take n a.entries))
    (omega (arith, long, c.if-out-answer_size.true, c.answer_size.ensures)))

-- The buffer has room for the answer.
enough : (c : After-write_head) → answer_size c.cut_count-few.result ≤ length c.args.out.now
enough c = omega (arith, c.if-out-answer_size.false, c.answer_size.ensures)

-- What the buffer holds once the head is written.
first_is : (c : After-write_head) →
    let a = c.args in
    c.write_head.new.out ≡ written a.out.now (head_bytes (answer_head_of a.job a.revision c.cut_count-few.result))
first_is c =
    let a = c.args in
    c.write_head.ensures.bytes ∙ ap (λ (h : Head). written a.out.now (head_bytes h)) c.answer_head.ensures

-- Writing the head does not change the size of the buffer.
first_size : (c : After-write_head) → length c.write_head.new.out ≡ length c.args.out.now
first_size c =
    let a = c.args in
    let head = answer_head_of a.job a.revision c.cut_count-few.result in
    ap length (first_is c) ∙ laid_length a.out.now (head_bytes head) (omega (arith, head_length head, enough c))

pub loop-i-init : goal.loop-i-init
loop-i-init c = (omega arith, starts c.args.entries c.write_head.new.out)

-- At the start of an iteration the buffer still has the size that it began with.
still : (few : After-cut_count-few) (head : After-write_head) (i : ℕ) (out : List ℕ) →
    few.args.entries ≡ head.args.entries → few.cut_count-few.result ≡ head.cut_count-few.result → i ≤ head.cut_count-few.result →
    out ≡ so_far head.args.entries i head.write_head.new.out → length out ≡ length head.args.out.now
still few head i out same count here is =
    let es = head.args.entries in
    let fits : head.cut_count-few.result ≤ length es =
    rw (ap length same, count) at (cut few).0 in
    ap length is
    ∙ size_at es head.write_head.new.out i (omega (arith, here, fits)) (omega (arith, here, enough head, first_size head))
    ∙ first_size head

-- In an iteration, i is the index of an element of the list.
in_list : (c : In-loop-i) → c.loop-i.i < most_entries
in_list c = omega (arith, c.loop-i-test.true, c.cut_count-few.ensures.most)

-- In an iteration, the entry's offset is within the buffer.
pub slice_bounds-write_entry-count : goal.slice_bounds-write_entry-count
slice_bounds-write_entry-count c =
    let at = goal.at.slice_bounds-write_entry-count c in
    let kept = still at.After-cut_count-few at.After-write_head c.loop-i.i c.loop-i.out refl refl c.loop-i.invariant.0
    c.loop-i.invariant.1 in
    omega (arith, c.answer_size-at.ensures, kept, c.loop-i-test.true, enough at.After-write_head)

pub slice_bounds-write_entry-start : goal.slice_bounds-write_entry-start
slice_bounds-write_entry-start c = slice_bounds-write_entry-count c

pub slice_bounds-write_entry-end : goal.slice_bounds-write_entry-end
slice_bounds-write_entry-end c = le_refl _

pub offset_bounds-entries-i : goal.offset_bounds-entries-i
offset_bounds-entries-i c = omega (arith, in_list (goal.at.offset_bounds-entries-i c).In-loop-i)

pub bounds-entries-i : goal.bounds-entries-i
bounds-entries-i c = in_list (goal.at.bounds-entries-i c).In-loop-i

pub loop-i-smaller : goal.loop-i-smaller
loop-i-smaller c = omega (arith, c.loop-i-test.true)

pub loop-i-preserved : goal.loop-i-preserved
loop-i-preserved c =
    let at = goal.at.loop-i-preserved c in
    let es = c.args.entries in
    let i = c.loop-i.i in
    let now = c.loop-i.out in
    let first = c.write_head.new.out in
    let start = c.answer_size-at.result in
    let listed : i < length es = omega (arith, c.loop-i-test.true, (cut at.After-cut_count-few).0) in
    let room : answer_size (i + 1) ≤ length first =
    omega (arith, c.loop-i-test.true, enough at.After-write_head, first_size at.After-write_head) in (
      omega (arith, c.loop-i-test.true),
      ap (λ (l : List ℕ). put_mid start (length now - start) now l) c.write_entry.ensures.bytes
          ∙ goes_on es first i listed room _ now start c.answer_size-at.ensures c.loop-i.invariant.1,
    )

pub shape_of-out : goal.shape_of-out
shape_of-out c =
    let at = goal.at.shape_of-out c in
    still at.After-cut_count-few at.After-write_head c.loop-i.i c.loop-i.out refl refl c.loop-i.invariant.0 c.loop-i.invariant.1

pub returns : goal.returns
returns c =
    let at = goal.at.returns c in
    let a = c.args in
    let n = c.cut_count-few.result in
    let first = c.write_head.new.out in
    let few = cut at.After-cut_count-few in
    let last : c.loop-i.i ≡ n = omega (arith, c.loop-i-test.false, c.loop-i.invariant.0) in
    c.loop-i.invariant.1
    ∙ ap (λ (k : ℕ). so_far a.entries k first) last
    ∙ ends a.entries a.job a.revision n a.out.now first few.0 (enough at.After-write_head) (first_is at.After-write_head)
    ∙ ap (λ (es : List Entry). written a.out.now (answer_bytes a.job a.revision es)) few.1
