-- Steps 1, 6 and 7 of the time at one place, and x and u (01, Time at one place). Steps 2 to 5, apart from u, are in
-- the crate `hypergeometric`. Definitions only; Time.antt puts the steps together.
use Rattle.std.specs.Prelude.{ℕ, ◌-◌, ◌*◌, ◌^◌, Bool, cond, not, ◌&&◌, ◌||◌, ℤ, pos, neg_ℤ, ◌==◌, int_lt, nat_le, nat_lt, Float, Result, Ok}
use Rattle.float64.specs.Notation.{◌⊕◌, ◌⊖◌, ◌⊗◌, ◌⊘◌, ◌≺◌, bits, float, 1F, 2F, 3F, 4F}
use Rattle.float64.specs.Value.{magnitude_of}
use Rattle.float64.specs.Root.{root_of}
use Rattle.hypergeometric.specs.Steps.{after_root, dividing}
use Rattle.hypergeometric.specs.declared.reasons.Reason.{Reason}

-- The difference in k that makes a difference of 1 in x.
abbrev pub unit : ℕ
unit = 2 ^ 32

-- The difference in k between neighbouring stations.
abbrev pub station_spacing : ℕ
station_spacing = 2 ^ 20

-- ---- step 1: the range of k
-- The ends are −2^32 + 2^20 and 2^34. With whole revolutions the upper end is 2^32 − 2^20.
abbrev pub lowest : ℤ
lowest = neg_ℤ (pos (unit - station_spacing))

abbrev pub highest : ℤ
highest = pos (4 * unit)

abbrev pub highest_revolving : ℤ
highest_revolving = pos (unit - station_spacing)

-- The largest number of whole revolutions with which a place has a time. 01 calls the number of revolutions M.
abbrev pub most_revolutions : ℕ
most_revolutions = 16

-- Whether step 1 makes the place void: |L| is not below 1, there are too many revolutions, or k is outside the range.
unfoldable pub outside_range : Float → ℤ → ℕ → Bool
outside_range L k revolutions =
    not (magnitude_of L ≺ 1F)
    || (nat_lt most_revolutions revolutions
    || (int_lt k lowest
    || (int_lt highest k
    || (nat_le 1 revolutions && int_lt highest_revolving k))))

-- The divisor in x = k / 2^32: `unit` as an f64.
abbrev pub unit_f : Float
unit_f = bits 0x41F0_0000_0000_0000

-- x = k / 2^32.
unfoldable pub x_of : ℤ → Float
x_of k = float k ⊘ unit_f

-- ---- step 2: u
-- y and η are in the crate `hypergeometric`.
unfoldable pub u_of : Float → Float
u_of x = 1F ⊖ x ⊗ x

-- ---- step 6: the time without whole revolutions
unfoldable pub direct_of : Float → Float → Float → Float
direct_of L η g = (((η ⊗ η) ⊗ η) ⊗ ((4F ⊗ g) ⊘ 3F) ⊕ (4F ⊗ L) ⊗ η) ⊘ 2F

-- ---- step 7: the addition of (M·π)/(u·√u) for M ≥ 1
abbrev pub πF : Float
πF = bits 0x4009_21FB_5444_2D18

unfoldable pub with_revolutions : Float → Float → ℕ → Result Float Reason
with_revolutions t u revolutions =
    cond (revolutions == 0) (Ok t)
    (after_root (root_of u) (λ root.
    dividing (u ⊗ root) (Ok (t ⊕ (float (pos revolutions) ⊗ πF) ⊘ (u ⊗ root)))))
