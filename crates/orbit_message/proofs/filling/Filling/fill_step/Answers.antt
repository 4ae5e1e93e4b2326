-- `fill_step` meets its contract. The two returns are the cases of `proofs/FillSteps.antt`: a 0 of the template, and another byte.
use mathlib.Core.Path.{◌≡◌, ap, ◌∙◌}
use mathlib.Core.List.{List, ◌++◌}
use native.Mathlib.Omega.{arith}
use Prim.Native.Nat.{ℕ, ◌+◌, ◌-◌, ◌<◌}
use lib.ListN.{length}
use Rattle.orbit_message.specs.Matches.{span_at}
use Rattle.orbit_message.specs.Fillings.{filled_bytes}
use Rattle.orbit_message.proofs.FillSteps.{part_size, value_fill_step, byte_fill_step, zero_is_placeholder}
use Rattle.orbit_message.proofs.filling.Filling.fill_step.Goals as goal
use Rattle.orbit_message.proofs.filling.Filling.fill_step.Goals.{Then-byte-eq0, After-value}

-- A value of the match is left.
left : (c : Then-byte-eq0) → c.args.self.now.count < c.args.values.count
left c = omega (arith, c.requires.1, zero_is_placeholder c.args.byte c.if-byte-eq0.true)

pub value-requires : goal.value-requires
value-requires c =
    let fits = c.requires.0 in
    let k = left (goal.at.value-requires c).Then-byte-eq0 in
    (fits.inside, k, omega (arith, fits.few, k))

-- The length of the value.
size : (c : After-value) → c.args.self.now.count < c.args.values.count →
    let span = span_at c.args.values.spans c.args.self.now.count in
    length c.value.result.now ≡ span.end - span.start
size c k =
    let ends = c.requires.0.inside c.args.self.now.count k in
    ap length c.value.ensures ∙ part_size c.args.s.now _ _ ends.0 ends.1

pub append-requires : goal.append-requires
append-requires c =
    let at = goal.at.append-requires c in
    let one = zero_is_placeholder c.args.byte c.if-byte-eq0.true in
    let k = left at.Then-byte-eq0 in
    let fits = c.requires.0 in
    (omega (arith, fits.short c.args.self.now.count k, c.requires.2, one, size at.After-value k), omega (arith, fits.few, k))

pub returns-then-byte-eq0 : goal.returns-then-byte-eq0
returns-then-byte-eq0 c =
    let at = goal.at.returns-then-byte-eq0 c in
    let a = c.args in
    let k = left at.Then-byte-eq0 in
    let e = c.append.ensures in
    let bytes = e.0 ∙ ap (λ (v : List ℕ). filled_bytes a.self.now ++ v) c.value.ensures in
    let length_is = e.1 ∙ ap (λ (n : ℕ). a.self.now.length + n) (size at.After-value k) in
    rw c.if-byte-eq0.true (value_fill_step a.s.now a.values a.self.now c.append.new.self c.requires.0 k bytes length_is e.2)

pub returns-else-byte-eq0 : goal.returns-else-byte-eq0
returns-else-byte-eq0 c =
    let a = c.args in
    let e = c.push.ensures in
    byte_fill_step a.s.now a.values a.byte a.self.now c.push.new.self c.if-byte-eq0.false e.0 e.1 e.2
