-- Bounds of products, quotients, sums and differences of fractions of whole numbers. Nothing here is about f64s. A
-- bound of a fraction is an inequality between products of whole numbers, and each lemma multiplies inequalities
-- of this form.
use mathlib.Core.Path.{◌≡◌, sym, ◌∙◌}
use Prim.Native.Nat.{ℕ, ◌+◌, ◌-◌, ◌*◌, ◌≤◌, ◌<◌}
use native.Mathlib.Nat.{le_trans, le_of_eq, mul-pos, mul_comm, mul_assoc, mul_left_comm, mul-mul-mul_comm, mul-le-mul}
use native.Mathlib.Nat.{mul-le-mul_right, le_of_mul-le-mul_right, mul-sub}
use native.Mathlib.Omega.{arith}

pub zero_product : (a b : ℕ) → 0 * a ≤ b
zero_product a b = omega arith

-- If X / dx ≤ p / q and Y / dy ≤ p' / q', the product of the left sides is at most the product of the right sides.
pub products : (X Y q q' p p' dx dy : ℕ) → X * q ≤ p * dx → Y * q' ≤ p' * dy → X * Y * (q * q') ≤ p * p' * (dx * dy)
products X Y q q' p p' dx dy h k =
    le_trans (le_of_eq (mul-mul-mul_comm X Y q q')) (le_trans (mul-le-mul h k) (le_of_eq (mul-mul-mul_comm p dx p' dy)))

-- If X / dx ≤ p / q and p' / q' ≤ Y / dy, then X / dx divided by Y / dy is at most p / q divided by p' / q'.
-- `least_quotients` is the same with all inequalities reversed.
pub quotients : (X dy q p' p q' Y dx : ℕ) → X * q ≤ p * dx → p' * dy ≤ Y * q' → X * dy * (q * p') ≤ p * q' * (Y * dx)
quotients X dy q p' p q' Y dx h k =
    let l : X * dy * (q * p') ≡ X * q * (p' * dy) = simp (mul_assoc, mul_comm, mul_left_comm) in
    let r : p * dx * (Y * q') ≡ p * q' * (Y * dx) = simp (mul_assoc, mul_comm, mul_left_comm) in
    le_trans (le_of_eq l) (le_trans (mul-le-mul h k) (le_of_eq r))

pub least_quotients : (X dy q p' p q' Y dx : ℕ) → p * dx ≤ X * q → Y * q' ≤ p' * dy → p * q' * (Y * dx) ≤ X * dy * (q * p')
least_quotients X dy q p' p q' Y dx h k =
    let l : p * q' * (Y * dx) ≡ p * dx * (Y * q') = simp (mul_assoc, mul_comm, mul_left_comm) in
    let r : X * q * (p' * dy) ≡ X * dy * (q * p') = simp (mul_assoc, mul_comm, mul_left_comm) in
    le_trans (le_of_eq l) (le_trans (mul-le-mul h k) (le_of_eq r))

-- If X / dx ≤ p / q and Y / dy ≤ p' / q', the sum of the left sides is at most the sum of the right sides. `least_sums`
-- is the same with all inequalities reversed.
pub sums : (X dx Y dy p q p' q' : ℕ) → X * q ≤ p * dx → Y * q' ≤ p' * dy → (X * dy + Y * dx) * (q * q') ≤ (p * q' + p' * q) * (dx * dy)
sums X dx Y dy p q p' q' h k =
    let a : X * q * (q' * dy) ≤ p * dx * (q' * dy) = mul-le-mul_right (q' * dy) h in
    let b : Y * q' * (q * dx) ≤ p' * dy * (q * dx) = mul-le-mul_right (q * dx) k in
    omega arith

pub least_sums : (X dx Y dy p q p' q' : ℕ) → p * dx ≤ X * q → p' * dy ≤ Y * q'
    → (p * q' + p' * q) * (dx * dy) ≤ (X * dy + Y * dx) * (q * q')
least_sums X dx Y dy p q p' q' h k =
    let a : p * dx * (q' * dy) ≤ X * q * (q' * dy) = mul-le-mul_right (q' * dy) h in
    let b : p' * dy * (q * dx) ≤ Y * q' * (q * dx) = mul-le-mul_right (q * dx) k in
    omega arith

difference_most : (a b Q R : ℕ) → a * Q ≤ R + b * Q → (a - b) * Q ≤ R
difference_most a b Q R h = le_trans (le_of_eq (mul_comm (a - b) Q ∙ mul-sub Q a b)) (cut (Q * a) (Q * b) (mul_comm Q a) (mul_comm Q b))
  where
    cut : (x y : ℕ) → x ≡ a * Q → y ≡ b * Q → x - y ≤ R
    cut x y e f = omega (arith, h)

-- If X / dx ≤ p / q, p' / q' ≤ Y / dy and p / q ≤ P / Q + p' / q', the difference of X / dx and Y / dy is at most
-- P / Q.
pub differences : (X dx Y dy p q p' q' P Q : ℕ) → 0 < q → 0 < q' → X * q ≤ p * dx → p' * dy ≤ Y * q'
    → p * (Q * q') ≤ (P * q' + p' * Q) * q → (X * dy - Y * dx) * Q ≤ P * (dx * dy)
differences X dx Y dy p q p' q' P Q A B h k l =
    difference_most (X * dy) (Y * dx) Q (P * (dx * dy)) (le_of_mul-le-mul_right {k = q * q'} whole (mul-pos A B))
  where
    whole : X * dy * Q * (q * q') ≤ (P * (dx * dy) + Y * dx * Q) * (q * q')
    whole =
        let a : X * q * (dy * Q * q') ≤ p * dx * (dy * Q * q') = mul-le-mul_right (dy * Q * q') h in
        let b : p' * dy * (Q * q * dx) ≤ Y * q' * (Q * q * dx) = mul-le-mul_right (Q * q * dx) k in
        let c : p * (Q * q') * (dx * dy) ≤ (P * q' + p' * Q) * q * (dx * dy) = mul-le-mul_right (dx * dy) l in
        omega arith

difference_least : (a b Q R : ℕ) → R + b * Q ≤ a * Q → R ≤ (a - b) * Q
difference_least a b Q R h =
    let e = mul_comm (a - b) Q ∙ mul-sub Q a b in
    le_trans (cut (Q * a) (Q * b) (mul_comm Q a) (mul_comm Q b)) (le_of_eq (sym e))
  where
    cut : (x y : ℕ) → x ≡ a * Q → y ≡ b * Q → R ≤ x - y
    cut x y e f = omega (arith, h)

-- If p / q ≤ X / dx, Y / dy ≤ p' / q' and P / Q + p' / q' ≤ p / q, the sum of P / Q and Y / dy is at most X / dx.
sum_below : (X dx Y dy p q p' q' P Q : ℕ) → 0 < q → 0 < q' → p * dx ≤ X * q → Y * q' ≤ p' * dy → (P * q' + p' * Q) * q ≤ p * (Q * q')
    → P * (dx * dy) + Y * dx * Q ≤ X * dy * Q
sum_below X dx Y dy p q p' q' P Q A B h k l = le_of_mul-le-mul_right {k = q * q'} whole (mul-pos A B)
  where
    whole : (P * (dx * dy) + Y * dx * Q) * (q * q') ≤ X * dy * Q * (q * q')
    whole =
        let a : p * dx * (dy * Q * q') ≤ X * q * (dy * Q * q') = mul-le-mul_right (dy * Q * q') h in
        let b : Y * q' * (Q * q * dx) ≤ p' * dy * (Q * q * dx) = mul-le-mul_right (Q * q * dx) k in
        let c : (P * q' + p' * Q) * q * (dx * dy) ≤ p * (Q * q') * (dx * dy) = mul-le-mul_right (dx * dy) l in
        omega arith

-- Under the same conditions the difference of X / dx and Y / dy is at least P / Q (`least_differences`), and X / dx is
-- at least Y / dy (`first_larger`).
pub least_differences : (X dx Y dy p q p' q' P Q : ℕ) → 0 < q → 0 < q' → p * dx ≤ X * q → Y * q' ≤ p' * dy
    → (P * q' + p' * Q) * q ≤ p * (Q * q') → P * (dx * dy) ≤ (X * dy - Y * dx) * Q
least_differences X dx Y dy p q p' q' P Q A B h k l =
    difference_least (X * dy) (Y * dx) Q (P * (dx * dy)) (sum_below X dx Y dy p q p' q' P Q A B h k l)

pub first_larger : (X dx Y dy p q p' q' P Q : ℕ) → 0 < q → 0 < q' → 0 < Q → p * dx ≤ X * q → Y * q' ≤ p' * dy
    → (P * q' + p' * Q) * q ≤ p * (Q * q') → Y * dx ≤ X * dy
first_larger X dx Y dy p q p' q' P Q A B C h k l =
    le_of_mul-le-mul_right {k = Q} (drop (P * (dx * dy)) (Y * dx * Q) (X * dy * Q) (sum_below X dx Y dy p q p' q' P Q A B h k l)) C
  where
    drop : (a b c : ℕ) → a + b ≤ c → b ≤ c
    drop a b c g = omega arith
