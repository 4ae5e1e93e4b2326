-- `bisect` meets its contract: each branch of the code is a step of the definition, and each recursive call has fewer halvings left.
use Prim.Native.Nat.{◌-◌, ◌^◌}
use mathlib.Core.Path.{◌≡◌, sym, ap, ◌∙◌}
use native.Mathlib.Omega.{arith}
use mir.Facts.{to_z-of_z}
use Rattle.stations.specs.Sides.{side_at}
use Rattle.bisection.proofs.Intervals.{renamed, width_bits, left, mid_read}
use Rattle.bisection.proofs.Intervals.{lower_next, upper_next, at_void, in_lower, in_upper}
use Rattle.bisection.proofs.+bisect.Goals as goal

pub returns-then-is_unknown : goal.returns-then-is_unknown
returns-then-is_unknown t c =
    let more : 2 ^ (20 - c.args.h) ≡ 1 → ⊥ = λ e. omega (arith, width_bits c.requires c.ranges.a c.ranges.b) in
    let here = c.side_at-side.ensures ∙ ap (side_at c.args.search) (mid_read c.requires more c.ranges.a c.ranges.b) in
    let void = sym c.is_unknown.ensures ∙ c.if-is_unknown.true in
    rw (to_z-of_z c.ranges.a, to_z-of_z c.ranges.b) (at_void c.requires more _ _ here void)

pub bisect-requires : goal.bisect-requires
bisect-requires t c =
    let more : 2 ^ (20 - c.args.h) ≡ 1 → ⊥ = λ e. omega (arith, width_bits c.requires c.ranges.a c.ranges.b) in
    let below = left c.requires more in (
      omega (arith, below),
      renamed (to_z-of_z c.ranges.a) (mid_read c.requires more c.ranges.a c.ranges.b) (lower_next c.requires more),
    )

pub bisect-requires-else-are_opposite : goal.bisect-requires-else-are_opposite
bisect-requires-else-are_opposite t c =
    let more : 2 ^ (20 - c.args.h) ≡ 1 → ⊥ = λ e. omega (arith, width_bits c.requires c.ranges.a c.ranges.b) in
    let below = left c.requires more in (
      omega (arith, below),
      renamed (mid_read c.requires more c.ranges.a c.ranges.b) (to_z-of_z c.ranges.b) (upper_next c.requires more),
    )

pub returns-then-are_opposite : goal.returns-then-are_opposite
returns-then-are_opposite t c =
    let more : 2 ^ (20 - c.args.h) ≡ 1 → ⊥ = λ e. omega (arith, width_bits c.requires c.ranges.a c.ranges.b) in
    let middle_read = mid_read c.requires more c.ranges.a c.ranges.b in
    let here = c.side_at-side.ensures ∙ ap (side_at c.args.search) middle_read in
    let known = sym c.is_unknown.ensures ∙ c.if-is_unknown.false in
    let apart = sym c.are_opposite.ensures ∙ c.if-are_opposite.true in
    rw (c.bisect.ensures, middle_read, to_z-of_z c.ranges.a) (in_lower c.requires more _ _ here known apart)

pub returns-else-are_opposite : goal.returns-else-are_opposite
returns-else-are_opposite t c =
    let more : 2 ^ (20 - c.args.h) ≡ 1 → ⊥ = λ e. omega (arith, width_bits c.requires c.ranges.a c.ranges.b) in
    let middle_read = mid_read c.requires more c.ranges.a c.ranges.b in
    let here = c.side_at-side.ensures ∙ ap (side_at c.args.search) middle_read in
    let known = sym c.is_unknown.ensures ∙ c.if-is_unknown.false in
    let alike = sym c.are_opposite.ensures ∙ c.if-are_opposite.false in
    rw (c.bisect-else-are_opposite.ensures, middle_read, to_z-of_z c.ranges.b) (in_upper c.requires more _ _ here known alike)
