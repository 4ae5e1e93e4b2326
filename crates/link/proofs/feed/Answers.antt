-- `feed` is safe, and unless reading stops, the reader that it leaves is the one after the whole piece.
use mathlib.Core.Path.{◌≡◌, refl, sym, ap, ◌∙◌}
use mathlib.Core.Bool.{cond}
use mathlib.Core.List.{List}
use Prim.Native.Nat.{ℕ, zero, suc, ◌+◌, ◌-◌, ◌≤◌, ◌<◌}
use native.Mathlib.Omega.{arith}
use Rattle.std.proofs.Common.{rules}
use native.Mathlib.Numerals.{unary_clauses}
use borrow.Author.Tests.{eq-eqb, ne_eqb}
use lib.Dec.{eqb}
use lib.ListN.{length, take, drop, length-drop}
use lib.Seq.{take_all}
use Rattle.link_reader.specs.declared.Reader.{Reader}
use Rattle.link_reader.specs.declared.Step.{Step}
use Rattle.link_reader.specs.Reading.{read_of}
use Rattle.link_reader.proofs.Laws.{taken_within, question_fits}
use Rattle.link.specs.Pieces.{reader_for, reader_after}
use Rattle.link.proofs.feed.Goals as goal

-- ---- One call

-- The reader after a call and the calls that follow it: s is the step of the call, and `rest` the bytes that it did not take.
abbrev onward : ℕ → Step → List ℕ → Reader
onward calls s rest = cond (eqb (length rest) 0) s.next (reader_for (calls - 1) s.next rest)

by_call : (calls : ℕ) → 0 < calls → (r : Reader) (piece : List ℕ) (s : Step) → s ≡ read_of r piece →
    reader_for calls r piece ≡ onward calls s (drop s.taken piece)
unfolding reader_for
by_call zero some r piece s is = absurd (omega arith)
by_call (suc calls) some r piece s is = rw is (simp unary_clauses refl)

module _ (r : Reader) (rest : List ℕ) (calls : ℕ) (s : Step) (is : s ≡ read_of r rest) where
  left_is : take (length rest - s.taken) (drop s.taken rest) ≡ drop s.taken rest
  left_is = take_all (length rest - s.taken) (drop s.taken rest) (omega (arith, length-drop s.taken rest))

  last_call : 0 < calls → length (take (length rest - s.taken) (drop s.taken rest)) ≡ 0 → reader_for calls r rest ≡ s.next
  last_call some none =
      by_call calls some r rest s is
      ∙ rw (eq-eqb (length (drop s.taken rest)) 0 (ap length (sym left_is) ∙ none)) refl

  next_call : 0 < calls → (length (take (length rest - s.taken) (drop s.taken rest)) ≡ 0 → ⊥)
      → reader_for calls r rest ≡ reader_for (calls - 1) s.next (take (length rest - s.taken) (drop s.taken rest))
  next_call some more =
      let first : reader_for calls r rest ≡ reader_for (calls - 1) s.next (drop s.taken rest) =
      by_call calls some r rest s is
      ∙ rw (ne_eqb (length (drop s.taken rest)) 0 (λ z. more (ap length left_is ∙ z))) refl in
      first ∙ ap (reader_for (calls - 1) s.next) (sym left_is)

started : (r : Reader) (piece : List ℕ) → reader_for (length piece - 0 + 1) r piece ≡ reader_after r piece
unfolding reader_after
started r piece = ap (λ (n : ℕ). reader_for n r piece) (omega arith)

no_calls : (calls : ℕ) → calls ≤ 0 → (r : Reader) (rest : List ℕ) → reader_for calls r rest ≡ r
unfolding reader_for
no_calls zero none r rest = refl
no_calls (suc calls) none r rest = absurd (omega arith)

-- ---- The loop

pub loop-init : goal.loop-init
loop-init g c = started _ c.args.piece.now

pub slice_bounds-rest-count : goal.slice_bounds-rest-count
slice_bounds-rest-count g c = taken_within _ _ _ c.read-step.ensures.step

pub slice_bounds-rest-start : goal.slice_bounds-rest-start
slice_bounds-rest-start g c = taken_within _ _ _ c.read-step.ensures.step

pub answer_step-requires : goal.answer_step-requires
answer_step-requires g c = question_fits _ _ _ c.read-step.ensures.step

pub returns-then-is_empty : goal.returns-then-is_empty
returns-then-is_empty g c =
    let calls = length c.args.piece.now - c.loop.counter + 1 in
    let is = last_call c.loop.reader c.loop.rest.now calls c.read-step.result c.read-step.ensures.step (omega arith) (search rules) in
    sym is ∙ c.loop.invariant

pub loop-preserved : goal.loop-preserved
loop-preserved g c =
    let calls = length c.args.piece.now - c.loop.counter + 1 in
    let is = next_call c.loop.reader c.loop.rest.now calls c.read-step.result c.read-step.ensures.step (omega arith) (search rules) in
    let left = take (length c.loop.rest.now - c.read-step.result.taken) (drop c.read-step.result.taken c.loop.rest.now) in
    let one_less : calls - 1 ≡ length c.args.piece.now - (c.loop.counter + 1) + 1 = omega arith in
    sym (is ∙ ap (λ n. reader_for n c.read-step.result.next left) one_less) ∙ c.loop.invariant

pub returns-else-is_empty : goal.returns-else-is_empty
returns-else-is_empty g c =
    let calls = length c.args.piece.now - c.loop.counter + 1 in
    let is = next_call c.loop.reader c.loop.rest.now calls c.read-step.result c.read-step.ensures.step (omega arith) (search rules) in
    sym (is ∙ no_calls (calls - 1) (omega arith) _ _) ∙ c.loop.invariant
