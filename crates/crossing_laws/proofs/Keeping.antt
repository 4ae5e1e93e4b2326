-- The list `up_to n` holds exactly the numbers below n, and it rises (`listed_up`, `up_listed`, `rising_up`). `keep` takes exactly the
-- numbers of a list that pass a test (`kept`, `keeps`), and its result rises if the list does (`rising_keep`). `some` says whether some
-- number passes (`some_yes`, `some_found`).
use mathlib.Core.Path.{◌≡◌, refl, sym, ap, ◌∙◌, subst}
use mathlib.Core.Bool.{Bool, true, false, cond, ◌||◌}
use mathlib.Core.Logic.{◌⊎◌, inl, inr, ⊎_elim}
use mathlib.Core.List.{List, [], ◌∷◌, ◌++◌}
use Prim.Native.Nat.{ℕ, zero, suc, ◌<◌}
use native.Mathlib.Omega.{arith}
use native.Mathlib.Nat.{eq-or-lt_of_le}
use Rattle.sweep.specs.Crossings.{up_to, keep, some}
use Rattle.crossing_laws.specs.Listed.{Listed, Rising}

-- ---- one more number at the end of a list

listed_snoc : (i x : ℕ) (xs : List ℕ) → Listed i (xs ++ (x ∷ [])) → Listed i xs ⊎ (i ≡ x)
unfolding Listed
listed_snoc i x [] h = ⊎_elim (λ e. inr e) (λ e. absurd e) h
listed_snoc i x (y ∷ ys) h = ⊎_elim (λ e. inl (inl e)) (λ l. ⊎_elim (λ k. inl (inr k)) (λ e. inr e) (listed_snoc i x ys l)) h

listed_left : (i x : ℕ) (xs : List ℕ) → Listed i xs → Listed i (xs ++ (x ∷ []))
unfolding Listed
listed_left i x [] h = absurd h
listed_left i x (y ∷ ys) h = ⊎_elim (λ e. inl e) (λ l. inr (listed_left i x ys l)) h

listed_last : (x : ℕ) (xs : List ℕ) → Listed x (xs ++ (x ∷ []))
unfolding Listed
listed_last x [] = inl refl
listed_last x (y ∷ ys) = inr (listed_last x ys)

rising_snoc : (x : ℕ) (xs : List ℕ) → Rising xs → ((i : ℕ) → Listed i xs → i < x) → Rising (xs ++ (x ∷ []))
unfolding Listed Rising
rising_snoc x [] r f = ((λ i h. absurd h), tt)
rising_snoc x (y ∷ ys) r f = (
  λ i h. ⊎_elim (λ l. r.0 i l) (λ e. subst (λ (j : ℕ). y < j) (sym e) (f y (inl refl))) (listed_snoc i x ys h),
  rising_snoc x ys r.1 (λ i h. f i (inr h)),
)

-- ---- the list 0, 1, .., n - 1

pub listed_up : (i n : ℕ) → Listed i (up_to n) → i < n
unfolding up_to Listed
listed_up i zero h = absurd h
listed_up i (suc n) h =
    ⊎_elim (λ l. let k : i < n = listed_up i n l in omega (arith, k)) (λ e. omega (arith, e)) (listed_snoc i n (up_to n) h)

pub up_listed : (i n : ℕ) → i < n → Listed i (up_to n)
unfolding up_to Listed
up_listed i zero h = absurd (omega arith)
up_listed i (suc n) h =
    ⊎_elim
    (λ e. subst (λ (j : ℕ). Listed j (up_to n ++ (n ∷ []))) (sym e) (listed_last n (up_to n)))
    (λ l. listed_left i n (up_to n) (up_listed i n l))
    (split i n h)
  where
    split : (a b : ℕ) → a < suc b → (a ≡ b) ⊎ (a < b)
    split a b k = eq-or-lt_of_le (omega arith)

pub rising_up : (n : ℕ) → Rising (up_to n)
unfolding up_to Rising
rising_up zero = tt
rising_up (suc n) = rising_snoc n (up_to n) (rising_up n) (λ i h. listed_up i n h)

-- ---- the numbers that pass a test

module _ (p : ℕ → Bool) where
  kept_by : (b : Bool) (i x : ℕ) (xs : List ℕ) → p x ≡ b → (Listed i (keep p xs) → Listed i xs × (p i ≡ true)) →
      Listed i (cond b (x ∷ keep p xs) (keep p xs)) → Listed i (x ∷ xs) × (p i ≡ true)
  unfolding Listed
  kept_by true i x xs e f h = ⊎_elim (λ d. (inl d, ap p d ∙ e)) (λ l. (inr (f l).0, (f l).1)) h
  kept_by false i x xs e f h = (inr (f h).0, (f h).1)

  pub kept : (i : ℕ) (xs : List ℕ) → Listed i (keep p xs) → Listed i xs × (p i ≡ true)
  unfolding keep Listed
  kept i [] h = absurd h
  kept i (x ∷ xs) h = kept_by (p x) i x xs refl (kept i xs) h

  keeps_by : (b : Bool) (i x : ℕ) (xs : List ℕ) → p x ≡ b → p i ≡ true → (Listed i xs → Listed i (keep p xs)) →
      Listed i (x ∷ xs) → Listed i (cond b (x ∷ keep p xs) (keep p xs))
  unfolding Listed
  keeps_by true i x xs e y f h = ⊎_elim (λ d. inl d) (λ l. inr (f l)) h
  keeps_by false i x xs e y f h = ⊎_elim (λ d. absurd (let z : ◌≡◌ {A = ℕ} 0 1 = cc (ap p d, e, y) in omega (arith, z))) (λ l. f l) h

  pub keeps : (i : ℕ) (xs : List ℕ) → p i ≡ true → Listed i xs → Listed i (keep p xs)
  unfolding keep Listed
  keeps i [] y h = absurd h
  keeps i (x ∷ xs) y h = keeps_by (p x) i x xs refl y (keeps i xs y) h

  rising_by : (b : Bool) (x : ℕ) (xs : List ℕ) → ((i : ℕ) → Listed i xs → x < i) → Rising (keep p xs) →
      Rising (cond b (x ∷ keep p xs) (keep p xs))
  unfolding Rising
  rising_by true x xs f r = ((λ i h. f i (kept i xs h).0), r)
  rising_by false x xs f r = r

  pub rising_keep : (xs : List ℕ) → Rising xs → Rising (keep p xs)
  unfolding keep Rising
  rising_keep [] r = tt
  rising_keep (x ∷ xs) r = rising_by (p x) x xs r.0 (rising_keep xs r.1)

  -- ---- whether some number passes a test

  or_left : (b c : Bool) → b ≡ true → b || c ≡ true
  or_left true c e = refl
  or_left false c e = cc

  or_right : (b c : Bool) → c ≡ true → b || c ≡ true
  or_right true c e = refl
  or_right false c e = e

  pub some_yes : (i : ℕ) (xs : List ℕ) → Listed i xs → p i ≡ true → some p xs ≡ true
  unfolding some Listed
  some_yes i [] h y = absurd h
  some_yes i (x ∷ xs) h y =
      ⊎_elim (λ e. or_left (p x) (some p xs) (ap p (sym e) ∙ y)) (λ l. or_right (p x) (some p xs) (some_yes i xs l y)) h

  found_by : (b : Bool) (x : ℕ) (xs : List ℕ) → p x ≡ b → (some p xs ≡ true → (i : ℕ) × (Listed i xs × (p i ≡ true))) →
      b || some p xs ≡ true → (i : ℕ) × (Listed i (x ∷ xs) × (p i ≡ true))
  unfolding Listed
  found_by true x xs e f h = (x, (inl refl, e))
  found_by false x xs e f h = ((f h).0, (inr (f h).1.0, (f h).1.1))

  pub some_found : (xs : List ℕ) → some p xs ≡ true → (i : ℕ) × (Listed i xs × (p i ≡ true))
  unfolding some Listed
  some_found [] h = absurd (let z : ◌≡◌ {A = ℕ} 0 1 = cc h in omega (arith, z))
  some_found (x ∷ xs) h = found_by (p x) x xs refl (some_found xs) h
