-- Times that the prover computes, in addition to 01's worked cases. Each row of the table has L, k, M and the expected
-- result, a time or void. One statement covers the whole table (`each_row_holds`).
use mathlib.Core.Path.{◌≡◌, refl}
use mathlib.Core.List.{List, [], ◌∷◌, map}
use Prim.Native.Nat.{ℕ, ◌+◌, ◌-◌, ◌^◌}
use lib.IntN.{ℤ, pos, neg_ℤ}
use lib.Ieee.{add, sub, mul, div, neg, lt, eq, of_bits, of_int}
use Rattle.float64.specs.Notation.{bits}
use Rattle.float64.specs.Value.{magnitude_of, finite_of}
use Rattle.float64.specs.Root.{root_of}
use Rattle.closed_case_laws.specs.Given.{with_lambda}
use Rattle.hypergeometric.specs.Steps.{y_of, eta_of, c1_of, next_c, half_angles_of, ratio_of, series_from, series_of, s4_of, back_of}
use Rattle.hypergeometric.specs.Steps.{g_of}
use Rattle.flight_time.specs.Steps.{outside_range, x_of, u_of, direct_of, with_revolutions}
use Rattle.flight_time.specs.Time.{steps_of, time_of}
use Rattle.hypergeometric.specs.declared.reasons.Reason.TheVariants.{OutsideRange, RefusedRoot, ZeroDivisor, NotFinite}
use Rattle.flight_time.specs.declared.Place.{Place}
use Rattle.flight_time.specs.declared.Place.TheVariants.{Timed, Void}

pub record Row : Type 0 where
  pub L : ℕ
  pub k : ℤ
  pub m : ℕ
  pub place : Place

pub row : ℕ → ℤ → ℕ → Place → Row
row L k m p = record { L = L; k = k; m = m; place = p }

-- The lower end of the range of k, -2^32 + 2^20, and the place below it.
abbrev pub low : ℤ
low = neg_ℤ (pos (2 ^ 32 - 2 ^ 20))

abbrev pub too_low : ℤ
too_low = neg_ℤ (pos (2 ^ 32 - 2 ^ 20 + 1))

-- The first rows are timed: the f64 nearest to π/2 at L = 0 and x = 0, the same at L = -0, then L = 0.6 at x = 0, and
-- L = 0 at x = 0 with M = 1. Next are two times whose last digits show that the series has sixteen terms, and not
-- fifteen or seventeen. The other rows are void, each with its reason: at the first station a refused root, then a zero
-- divisor, each without and with whole revolutions; an L of magnitude 1 at the first station, at x = 0 and at the last
-- station, without and with whole revolutions; an L that is a NaN, an M of 17, and three times a k just past an end of
-- its range. No L, k and M are known with a result that is not finite: see Voids.
pub rows : List Row
rows =
    row 0 (pos 0) 0 (Timed (bits 0x3FF9_21FB_5444_2D18))
    ∷ row 0x8000_0000_0000_0000 (pos 0) 0 (Timed (bits 0x3FF9_21FB_5444_2D18))
    ∷ row 0x3FE3_3333_3333_3333 (pos 0) 0 (Timed (bits 0x3FF6_8447_FD92_2556))
    ∷ row 0 (pos 0) 1 (Timed (bits 0x4012_D97C_7F33_21D2))
    ∷ row 0xBFEF_448B_0B8A_EB45 (pos 17099233261) 0 (Timed (bits 0x3FDC_FC14_B3AB_7880))
    ∷ row 0xBFEE_4487_E8E5_3368 (pos 17163421851) 0 (Timed (bits 0x3FDB_EDA0_859A_6DE0))
    ∷ row 0xBFEF_FFFF_ED68_3896 low 0 (Void RefusedRoot)
    ∷ row 0xBFEF_FFFF_FFFF_FDFF low 16 (Void RefusedRoot)
    ∷ row 0xBFEF_FFFF_FFCC_9337 low 0 (Void ZeroDivisor)
    ∷ row 0xBFEF_FFFF_FFFF_F001 low 16 (Void ZeroDivisor)
    ∷ row 0x3FF0_0000_0000_0000 low 0 (Void OutsideRange)
    ∷ row 0xBFF0_0000_0000_0000 (pos 0) 0 (Void OutsideRange)
    ∷ row 0x3FF0_0000_0000_0000 (pos (2 ^ 34)) 0 (Void OutsideRange)
    ∷ row 0x3FF0_0000_0000_0000 (pos (2 ^ 32 - 2 ^ 20)) 1 (Void OutsideRange)
    ∷ row 0x7FF8_0000_0000_0000 (pos 0) 0 (Void OutsideRange)
    ∷ row 0 (pos 0) 17 (Void OutsideRange)
    ∷ row 0 too_low 0 (Void OutsideRange)
    ∷ row 0 (pos (2 ^ 34 + 1)) 0 (Void OutsideRange)
    ∷ row 0 (pos (2 ^ 32 - 2 ^ 20 + 1)) 1 (Void OutsideRange)
    ∷ []

pub each_row_holds : map (λ (r : Row). time_of (with_lambda r.L) r.k r.m) rows ≡ map (λ (r : Row). r.place) rows
unfolding rows row with_lambda time_of steps_of outside_range x_of u_of y_of eta_of c1_of next_c half_angles_of ratio_of series_from
    series_of
    s4_of back_of
    g_of direct_of with_revolutions magnitude_of finite_of root_of add sub mul div neg lt eq of_bits of_int
each_row_holds = refl

-- 1 for a timed place, 0 for a void place.
abbrev pub timed : Place → ℕ
timed (Timed t) = 1
timed (Void reason) = 0

-- The ends of the ranges of k, without whole revolutions and with sixteen. All of them have a time (`ends_are_timed`).
-- The void places in these rows are placeholders that the statement does not use.
pub ends : List Row
ends =
    let unused : Place = Void NotFinite in
    row 0 low 0 unused ∷ row 0 (pos (2 ^ 34)) 0 unused ∷ row 0 (pos (2 ^ 32 - 2 ^ 20)) 16 unused ∷ row 0 low 16 unused ∷ []

pub ends_are_timed : map (λ (r : Row). timed (time_of (with_lambda r.L) r.k r.m)) ends ≡ 1 ∷ 1 ∷ 1 ∷ 1 ∷ []
unfolding ends row with_lambda time_of steps_of outside_range x_of u_of y_of eta_of c1_of next_c half_angles_of ratio_of series_from
    series_of
    s4_of back_of g_of
    direct_of with_revolutions magnitude_of finite_of root_of add sub mul div neg lt eq of_bits of_int
ends_are_timed = refl
