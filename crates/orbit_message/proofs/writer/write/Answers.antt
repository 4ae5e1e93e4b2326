-- `write` meets its contract: each return is a case of proofs/WriteCases.antt.
use mathlib.Core.Path.{◌≡◌, sym, ap, ◌∙◌}
use mathlib.Core.Bool.{Bool, true, false, not, ◌||◌}
use mathlib.Core.List.{List, map}
use Prim.Native.Nat.{ℕ}
use native.Mathlib.Omega.{arith}
use borrow.Author.Tests.{not-true, not-false}
use lib.Dec.{eqb, ltb}
use Rattle.std.specs.Prelude.{Some, None, Err}
use Rattle.std.proofs.lemmas.Result.{err_from_is_err_and}
use Rattle.decimal.specs.Decimals.{is_in_range, decimal_of}
use Rattle.records.specs.Layout.{refusal_kind, kind_of, number_of}
use Rattle.outcomes.specs.Outcomes.{is_between, is_outcome}
use Rattle.orbit_message.specs.Texts.{every, texts_in, are_texts}
use Rattle.orbit_message.specs.Messages.{message_of}
use Rattle.orbit_message.specs.Writing.{departure_velocity, WriteResult, put_of}
use Rattle.orbit_message.specs.States.{state_numbers, state_of, rounded_vector}
use Rattle.orbit_message.specs.declared.states.State.{State}
use Rattle.orbit_message.specs.declared.refusals.Refusal.TheVariants.{OutOfRange}
use Rattle.orbit_message.proofs.StateCases.{test_failed, test_passed}
use Rattle.orbit_message.proofs.WriteCases.{outside, has_no_answer, entry_inside, numbers, b1, b5, b6, b7, message_put}
use Rattle.orbit_message.proofs.writer.write.Goals as goal
use Rattle.orbit_message.proofs.writer.write.Goals.{Else-is_outcome-kind_of, Else-not-are_texts, Else-entry-number_of, After-state_of}

-- The tests of the code are those of the definition.
answer_tested : (answer : List ℕ) (is : Bool) (kind : ℕ) → is ≡ is_outcome answer → kind ≡ kind_of answer
    → not is || eqb kind refusal_kind ≡ has_no_answer answer
answer_tested answer is kind e f =
    ap (λ (b : Bool). not b || eqb kind refusal_kind) e
    ∙ ap (λ (k : ℕ). not (is_outcome answer) || eqb k refusal_kind) f

entry_tested : (answer : List ℕ) (entry number : ℕ) → number ≡ number_of answer
    → ltb entry 1 || ltb number entry ≡ not (is_between 1 (number_of answer) entry)
entry_tested answer entry number e =
    ap (λ (n : ℕ). ltb entry 1 || ltb n entry) e ∙ outside 1 (number_of answer) entry

-- What holds in each branch: the answer is good, the texts are legal, and the entry is there.
good : (c : Else-is_outcome-kind_of) → has_no_answer c.args.answer.now ≡ false
good c =
    let tested = answer_tested c.args.answer.now c.is_outcome.result c.kind_of.result c.is_outcome.ensures c.kind_of.ensures in
    sym tested ∙ c.if-is_outcome-kind_of.false

legal : (c : Else-not-are_texts) → are_texts (texts_in c.args.texts.now) ≡ true
legal c = sym c.are_texts.ensures ∙ c.if-not-are_texts.false

there : (c : Else-entry-number_of) → is_between 1 (number_of c.args.answer.now) c.args.entry ≡ true
there c =
    let answer = c.args.answer.now in
    let entry = c.args.entry in
    let tested = entry_tested answer entry c.number_of.result c.number_of.ensures in
    not-false (is_between 1 (number_of answer) entry) (sym tested ∙ c.if-entry-number_of.false)

pub returns-then-is_outcome-kind_of : goal.returns-then-is_outcome-kind_of
returns-then-is_outcome-kind_of c =
    let a = c.args in
    let tested = answer_tested a.answer.now c.is_outcome.result c.kind_of.result c.is_outcome.ensures c.kind_of.ensures in
    let refused = b1 a.answer.now a.entry a.r1 a.texts.now a.out.now (sym tested ∙ c.if-is_outcome-kind_of.true) in
    record { result = ap (λ (r : WriteResult). r.result) refused; buffer = ap (λ (r : WriteResult). r.buffer) refused }

pub returns-then-not-are_texts : goal.returns-then-not-are_texts
returns-then-not-are_texts c =
    let a = c.args in
    let at = goal.at.returns-then-not-are_texts c in
    let illegal = sym c.are_texts.ensures ∙ c.if-not-are_texts.true in
    let refused = b5 a.answer.now a.entry a.r1 a.texts.now a.out.now (good at.Else-is_outcome-kind_of) illegal in
    record { result = ap (λ (r : WriteResult). r.result) refused; buffer = ap (λ (r : WriteResult). r.buffer) refused }

pub returns-then-entry-number_of : goal.returns-then-entry-number_of
returns-then-entry-number_of c =
    let a = c.args in
    let at = goal.at.returns-then-entry-number_of c in
    let tested = entry_tested a.answer.now a.entry c.number_of.result c.number_of.ensures in
    let missing = not-true (is_between 1 (number_of a.answer.now) a.entry) (sym tested ∙ c.if-entry-number_of.true) in
    let case_b6 = b6 a.answer.now a.entry a.r1 a.texts.now a.out.now in
    let refused = case_b6 (good at.Else-is_outcome-kind_of) (legal at.Else-not-are_texts) missing in
    record { result = ap (λ (r : WriteResult). r.result) refused; buffer = ap (λ (r : WriteResult). r.buffer) refused }

pub departure_velocity-requires : goal.departure_velocity-requires
departure_velocity-requires c =
    entry_inside c.args.answer.now c.args.entry (good (goal.at.departure_velocity-requires c).Else-is_outcome-kind_of) (there c)

-- What the rounded state says about the six numbers of the state.
state_is : (c : After-state_of) → c.state_of.result ≡ state_of c.args.r1 (departure_velocity c.args.answer.now c.args.entry)
state_is c = c.state_of.ensures ∙ ap (state_of c.args.r1) c.departure_velocity.ensures

out_of_range : (c : After-state_of) → c.state_of.result ≡ None →
    every is_in_range (numbers c.args.answer.now c.args.entry c.args.r1 c.args.texts.now c.args.out.now) ≡ false
unfolding state_of
out_of_range c e = test_failed _ _ c.state_of.result (state_is c) e

all_in_range : (c : After-state_of) (s : State) → c.state_of.result ≡ Some s →
    let six = numbers c.args.answer.now c.args.entry c.args.r1 c.args.texts.now c.args.out.now in
    (every is_in_range six ≡ true) × (state_numbers s ≡ map decimal_of six)
unfolding state_of rounded_vector
all_in_range c s e =
    let facts = test_passed _ _ s c.state_of.result (state_is c) e in
    (facts.0, ap state_numbers facts.1)

pub returns-in_err-state : goal.returns-in_err-state
returns-in_err-state c =
    let a = c.args in
    let at = goal.at.returns-in_err-state c in
    let none : c.state_of.result ≡ None = grind arith in
    let left = err_from_is_err_and c.from_residual.result c.from_residual.ensures.1 in
    let same : c.from_residual.result ≡ Err OutOfRange = grind arith in
    let outside_range = out_of_range at.After-state_of none in
    let case_b7 = b7 a.answer.now a.entry a.r1 a.texts.now a.out.now in
    let refused = case_b7 (good at.Else-is_outcome-kind_of) (legal at.Else-not-are_texts) (there at.Else-entry-number_of) outside_range in
    record { result = same ∙ ap (λ (r : WriteResult). r.result) refused; buffer = ap (λ (r : WriteResult). r.buffer) refused }

pub message_of-requires : goal.message_of-requires
message_of-requires c = legal (goal.at.message_of-requires c).Else-not-are_texts

pub returns : goal.returns
returns c =
    let a = c.args in
    let at = goal.at.returns c in
    let rounded : c.state_of.result ≡ Some c.in_ok-state.state = grind arith in
    let state = all_in_range at.After-state_of c.in_ok-state.state rounded in
    let message = c.message_of.ensures.bytes ∙ ap (message_of (texts_in a.texts.now)) state.1 in
    let put_message = ap (λ (m : List ℕ). put_of m a.out.now) message in
    let case_message = message_put a.answer.now a.entry a.r1 a.texts.now a.out.now in
    let fits = case_message (good at.Else-is_outcome-kind_of) (legal at.Else-not-are_texts) (there at.Else-entry-number_of) state.0 in
    let whole = put_message ∙ fits in
    record {
      result = c.put.ensures.result ∙ ap (λ (r : WriteResult). r.result) whole;
      buffer = c.put.ensures.buffer ∙ ap (λ (r : WriteResult). r.buffer) whole;
    }
