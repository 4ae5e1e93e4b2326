-- For every index that fits in a u16, `mag` of the station's place plus the spacing is at most 2^40, so an i64 holds the place with room
-- to spare (`station_room`). This follows from bounds on `mag` of sums and products. `mag k` is k for k from 0 up, and -(k + 1) for a
-- negative k. The other lemmas are about the j of a station (`j_is_lem`), the next station (`next_station`), the upper station of a pair
-- as the code computes it (`upper_read`), and the last index (`last_small`).
use mathlib.Core.Path.{◌≡◌, refl, sym, ap, ◌∙◌}
use mathlib.Core.Bool.{Bool, true, false, cond, not}
use Prim.Native.Nat.{ℕ, zero, suc, ◌+◌, ◌*◌, ◌-◌, ◌/◌, ◌≤◌, ◌<◌, zero-le}
use native.Mathlib.Omega.{arith}
use native.Mathlib.Nat.{le_refl, le-suc}
use native.Mathlib.Numerals.{add-one}
use lib.Dec.{T, eqb, ltb, ltb→lt}
use lib.IntN.{ℤ, pos, negsuc, ◌+ℤ◌, ◌*ℤ◌, neg_ℤ, sub_ℕ, suc_ℤ-+ℤ, suc_ℤ-*ℤ}
use lib.Signed.{mag, quot_z}
use mir.Syntax.{w64}
use mir.Val.{SFits, to_z, of_z}
use mir.Facts.{to_z-of_z, to_z_pos}
use Rattle.flight_time.specs.Steps.{station_spacing}
use Rattle.stations.specs.Stations.{stations_below, last_j, station_of, j_of, last_of, farthest}

mag_cond : (c : Bool) (x y : ℤ) (n : ℕ) → (T c → mag x ≤ n) → (T (not c) → mag y ≤ n) → mag (cond c x y) ≤ n
mag_cond true x y n f g = f tt
mag_cond false x y n f g = g tt

mag_sub : (a b n : ℕ) → a ≤ n → b ≤ suc n → mag (sub_ℕ a b) ≤ n
mag_sub a b n ha hb =
    mag_cond (ltb a b) (negsuc (b - suc a)) (pos (a - b)) n (λ t. omega (arith, ltb→lt a b t)) (λ t. omega arith)

mag_neg : (r : ℕ) → mag (neg_ℤ (pos r)) ≤ r
mag_neg zero = zero-le
mag_neg (suc r) = le-suc r

pub mag_add : (z : ℤ) (n : ℕ) → mag (z +ℤ pos n) ≤ mag z + n
mag_add (pos a) n = le_refl (a + n)
mag_add (negsuc a) n = mag_sub n (suc a) (a + n) (omega arith) (omega arith)

pub mag_from : (n : ℕ) (z : ℤ) → mag (pos n +ℤ z) ≤ n + mag z
mag_from n (pos a) = le_refl (n + a)
mag_from n (negsuc a) = mag_sub n (suc a) (n + a) (omega arith) (omega arith)

pub mag_times : (z : ℤ) (n : ℕ) → mag (z *ℤ pos n) ≤ (mag z + 1) * n
mag_times (pos a) n = omega arith
mag_times (negsuc a) n = omega (arith, mag_neg (suc a * n))

-- The sum of an index and a first j, as the code computes it.
module _ (i : ℕ) (first : ℤ) (h : i < 65536) (f : mag first < 65536) where
  pub sum_read : to_z w64 i +ℤ first ≡ pos i +ℤ first
  sum_read = ap (λ z. z +ℤ first) (to_z_pos w64 (omega arith))

  pub sum_fits : SFits w64 (to_z w64 i +ℤ first)
  sum_fits = rw sum_read (record { sfits = omega (arith, mag_from i first, h, f) })

-- The quotient of a multiple of the spacing by the spacing.
quot_neg : (n : ℕ) → quot_z (neg_ℤ (pos n)) (pos station_spacing) ≡ neg_ℤ (pos (n / station_spacing))
quot_neg zero = refl
quot_neg (suc n) = refl

quot_times : (z : ℤ) → quot_z (z *ℤ pos station_spacing) (pos station_spacing) ≡ z
quot_times (pos a) = let e : a * station_spacing / station_spacing ≡ a = omega arith in ap pos e
quot_times (negsuc a) =
    let e : suc a * station_spacing / station_spacing ≡ suc a = omega arith in
    quot_neg (suc a * station_spacing) ∙ ap (λ (n : ℕ). neg_ℤ (pos n)) e

pub j_is_lem : (i : ℕ) → j_of (station_of i) ≡ pos i +ℤ neg_ℤ (pos stations_below)
unfolding j_of station_of
j_is_lem i = quot_times (pos i +ℤ neg_ℤ (pos stations_below))

-- The j of the place j·2^20.
pub j_of_place : (j : ℤ) → j_of (j *ℤ pos station_spacing) ≡ j
unfolding j_of
j_of_place j = quot_times j

-- A station's place is its j times the spacing.
pub place_of_j : (i : ℕ) → station_of i ≡ j_of (station_of i) *ℤ pos station_spacing
unfolding station_of
place_of_j i = ap (λ (z : ℤ). z *ℤ pos station_spacing) (sym (j_is_lem i))

pub station_room : (i : ℕ) → i < 65536 → mag (station_of i) + station_spacing ≤ farthest
unfolding station_of
station_room i h =
    let first : ℤ = neg_ℤ (pos stations_below) in
    omega (arith, mag_times (pos i +ℤ first) station_spacing, mag_from i first)

-- A station's place, stored in 64 bits and read back, is unchanged.
pub station_read : {i : ℕ} {z : ℤ} → z ≡ station_of i → i < 65536 → to_z w64 (of_z w64 z) ≡ station_of i
station_read {i} {z} e h =
    let fits : SFits w64 (station_of i) = record { sfits = omega (arith, station_room i h) } in
    ap (λ (k : ℤ). to_z w64 (of_z w64 k)) e ∙ to_z-of_z fits

pub next_station : (i : ℕ) → station_of (i + 1) ≡ station_of i +ℤ pos station_spacing
unfolding station_of
next_station i =
    let first : ℤ = neg_ℤ (pos stations_below) in
    rw add-one
    (ap (λ (z : ℤ). z *ℤ pos station_spacing) (suc_ℤ-+ℤ (pos i) first) ∙ suc_ℤ-*ℤ (pos i +ℤ first) (pos station_spacing))

-- The upper station of a pair as the code computes it: the sum fits in an i64, and it is the place of the next station.
pub upper_fits : {i : ℕ} {z : ℤ} → z ≡ station_of i → i < 65536 → SFits w64 (to_z w64 (of_z w64 z) +ℤ pos station_spacing)
upper_fits {i} e h =
    rw (station_read e h) (record { sfits = omega (arith, mag_add (station_of i) station_spacing, station_room i h) })

pub upper_read : {i : ℕ} {z : ℤ} → z ≡ station_of i → i < 65536 →
    to_z w64 (of_z w64 (to_z w64 (of_z w64 z) +ℤ pos station_spacing)) ≡ station_of (i + 1)
upper_read {i} e h = to_z-of_z (upper_fits e h) ∙ ap (λ (k : ℤ). k +ℤ pos station_spacing) (station_read e h) ∙ sym (next_station i)

-- The index after the last station fits in a u16.
few_stations : (direct : Bool) → cond direct (last_j 0) (last_j 1) + stations_below + 1 < 65536
few_stations true = omega arith
few_stations false = omega arith

pub last_small : (revolutions : ℕ) → last_of revolutions + 1 < 65536
unfolding last_of
last_small revolutions = few_stations (eqb revolutions 0)
