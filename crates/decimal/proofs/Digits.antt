-- The decimal digits of a number as bytes: how many there are (`length_padded`), and which one is at each index (`padded_at`). How
-- many digits a whole part is written with (`digit_count_range`). One turn of the loop of `value_at` (`one_more`, `bounded`).
use mathlib.Core.Path.{◌≡◌, refl, sym, ap, ◌∙◌}
use mathlib.Core.Bool.{Bool, true, false, cond}
use mathlib.Core.List.{List, [], ◌∷◌, ◌++◌}
use Prim.Native.Nat.{ℕ, zero, suc, ◌+◌, ◌-◌, ◌*◌, ◌/◌, ◌%◌, ◌^◌, ◌≤◌, ◌<◌}
use native.Mathlib.Nat.{div-one, div-div-eq-div-mul, pow-le-pow_right, pow-succ'}
use native.Mathlib.Numerals.{add-one}
use native.Mathlib.Omega.{arith}
use borrow.Author.Tests.{lt-ltb, le-ltb, ltb-true, ltb-false}
use lib.Dec.{ltb, lit<}
use lib.ListN.{length, get_or, take, drop, length-append, length-drop, get_or-append}
use lib.Seq.{get_or_at, get_or-take, get_or-drop, length-take-le}
use Rattle.decimal.specs.Texts.{padded, digit_count_from, digit_count, value_at}

pub length_padded : (k n : ℕ) → length (padded k n) ≡ k
unfolding padded
length_padded zero n = refl
length_padded (suc k) n =
    length-append (padded k (n / 10)) ((48 + n % 10) ∷ [])
    ∙ ap (λ (x : ℕ). x + 1) (length_padded k (n / 10))
    ∙ add-one k

-- The digit of n that counts 10 ^ j, in ASCII.
abbrev pub digit : ℕ → ℕ → ℕ
digit n j = 48 + n / 10 ^ j % 10

tenth : (n j : ℕ) → n / 10 / 10 ^ j ≡ n / 10 ^ suc j
tenth n j = div-div-eq-div-mul n 10 (10 ^ j) ∙ ap (λ (x : ℕ). n / x) (sym (pow-succ' 10 j))

pub padded_at : (k n i : ℕ) → i < k → get_or (padded k n) i 0 ≡ digit n (k - 1 - i)
unfolding padded
padded_at zero n i h = absurd (omega arith)
padded_at (suc k) n i h = by (λ l. padded_at k (n / 10) i l) (ltb i k) refl
  where
    by : (i < k → get_or (padded k (n / 10)) i 0 ≡ digit (n / 10) (k - 1 - i)) → (b : Bool) → ltb i k ≡ b
        → get_or (padded k (n / 10) ++ ((48 + n % 10) ∷ [])) i 0 ≡ digit n (suc k - 1 - i)
    by rec true e =
        let l = ltb-true i k e in
        let m : suc (k - 1 - i) ≡ suc k - 1 - i = omega arith in
        get_or-append (padded k (n / 10)) ((48 + n % 10) ∷ []) 0 i (rw length_padded l)
        ∙ rec l
        ∙ ap (λ (x : ℕ). 48 + x % 10) (tenth n (k - 1 - i))
        ∙ ap (λ (x : ℕ). digit n x) m
    by rec false e =
        let l = ltb-false i k e in
        let same : k ≡ i = omega arith in
        let m : 0 ≡ suc k - 1 - i = omega arith in
        get_or_at (padded k (n / 10)) (48 + n % 10) [] 0 i (length_padded k (n / 10) ∙ same)
        ∙ ap (λ (x : ℕ). 48 + x % 10) (sym (div-one n))
        ∙ ap (λ (x : ℕ). digit n x) m

-- ---- how many digits a whole part has

digit_count_bounds : (f p n : ℕ) → (p ≤ digit_count_from f p n) × (digit_count_from f p n ≤ p + f)
unfolding digit_count_from
digit_count_bounds zero p n = (omega arith, omega arith)
digit_count_bounds (suc f) p n = by (digit_count_bounds f (suc p) n) (ltb n (10 ^ p))
  where
    by : (suc p ≤ digit_count_from f (suc p) n) × (digit_count_from f (suc p) n ≤ suc p + f) → (b : Bool)
        → (p ≤ cond b p (digit_count_from f (suc p) n)) × (cond b p (digit_count_from f (suc p) n) ≤ p + suc f)
    by l true = (omega arith, omega arith)
    by l false = (omega arith, omega arith)

pub digit_count_range : (n : ℕ) → (1 ≤ digit_count n) × (digit_count n ≤ 7)
unfolding digit_count
digit_count_range n = digit_count_bounds 6 1 n

-- One turn of the loop of `digit_count`: p digits are enough, or more are needed.
count_left : (p n : ℕ) → p < 7 →
    digit_count_from (7 - p) p n ≡ cond (ltb n (10 ^ p)) p (digit_count_from (7 - (p + 1)) (p + 1) n)
unfolding digit_count_from
count_left p n h =
    let more : 7 - p ≡ suc (7 - (p + 1)) = omega arith in
    rw (more, add-one)

pub enough : (p n : ℕ) → p < 7 → n < 10 ^ p → digit_count_from (7 - p) p n ≡ p
enough p n h l = count_left p n h ∙ rw (lt-ltb n (10 ^ p) l)

pub more_needed : (p n : ℕ) → p < 7 → 10 ^ p ≤ n → digit_count_from (7 - p) p n ≡ digit_count_from (7 - (p + 1)) (p + 1) n
more_needed p n h l = count_left p n h ∙ rw (le-ltb n (10 ^ p) l)

-- ---- one turn of the loop of `value_at`

-- The k bytes from the offset `at` on: how many they are, and which one is at each index.
pub many_bytes : (s : List ℕ) (at k : ℕ) → at + k ≤ length s → length (take (at + k - at) (drop at s)) ≡ k
many_bytes s at k h =
    let size : at + k - at ≤ length (drop at s) = simp length-drop (omega arith) in
    length-take-le (at + k - at) (drop at s) size ∙ omega arith

pub byte_at : (s : List ℕ) (at k i : ℕ) → i < k → get_or (take (at + k - at) (drop at s)) i 0 ≡ get_or s (at + i) 0
byte_at s at k i h = get_or-take (at + k - at) (drop at s) i 0 (omega arith) ∙ get_or-drop at s i 0

pub most : (i : ℕ) → i ≤ 9 → 10 ^ i ≤ 10 ^ 9
most i h = pow-le-pow_right (lit< tt) h

pub one_more : (s : List ℕ) (at i value b : ℕ) → value ≡ value_at s at i → b ≡ get_or s (at + i) 0
    → value * 10 + b % 16 ≡ value_at s at (i + 1)
unfolding value_at
one_more s at i value b e f = rw (add-one, e, f)

pub bounded : (i value b : ℕ) → value + 2 ≤ 2 * 10 ^ i → value * 10 + b % 16 + 2 ≤ 2 * 10 ^ (i + 1)
bounded i value b h = let e : 10 ^ (i + 1) ≡ 10 * 10 ^ i = rw add-one (pow-succ' 10 i) in omega arith
