-- The square roots of four numbers (01, Root). Definitions only.
use Rattle.std.specs.Prelude.{Float, Option, Some, None}
use Rattle.float64.specs.Root.{root_of}
use Rattle.float64.specs.declared.side_by_side.Four.{Four}

-- `next r` for a root r, and `None` for a refused root.
abbrev pub if_root : Option Float → (Float → Option Four) → Option Four
if_root (Some r) next = next r
if_root None next = None

-- The roots of the four numbers of x, if each of them has a root. If one of them has none, the result does not have the other roots
-- either. This is our own choice.
unfoldable pub four_roots_of : Four → Option Four
four_roots_of x =
    if_root (root_of x.a) (λ a.
    if_root (root_of x.b) (λ b.
    if_root (root_of x.c) (λ c.
    if_root (root_of x.d) (λ d.
    Some (record { a = a; b = b; c = c; d = d })))))
