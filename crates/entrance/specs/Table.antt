-- What it means that a number is given exactly when 01's table says so (01, Numbers of refusal). Definitions only;
-- proofs/Table.antt has the theorems.
use Rattle.std.specs.Prelude.{ℕ, ◌<◌, ◌≡◌, Bool, true, false, cond, List, [], ◌∷◌, map, eqb, length, Result, Ok, Err}
use Rattle.geometry.specs.Triangles.{shape_of}
use Rattle.records.specs.Records.{question_of}
use Rattle.entrance.specs.declared.Problem.{Problem}
use Rattle.entrance.specs.declared.Fault.{Fault}
use Rattle.entrance.specs.Judge.{Check, checks, is_long_way, fault_number}

-- A number of 01's table, and whether its condition holds.
pub record Row : Type 0 where
  pub number : ℕ
  pub applies : Bool

-- The rows of a list of checks, given the number of each fault.
abbrev pub rows_of : {F : Type 0} → (F → ℕ) → List (Check F) → List Row
rows_of number cs = map (λ c. record { number = number c.fault; applies = c.applies }) cs

-- Whether the row with the number n applies. This is false for a number that is not in the list.
unfoldable pub applies_in : List Row → ℕ → Bool
applies_in [] n = false
applies_in (c ∷ cs) n = cond (eqb c.number n) c.applies (applies_in cs n)

-- Whether the condition of the number n holds, for the bytes of a question and the answer buffer's size.
unfoldable pub condition_of : List ℕ → ℕ → ℕ → Bool
condition_of s room n =
    let q = question_of s in applies_in (rows_of fault_number (checks (length s) room q (shape_of q.r1 q.r2 (is_long_way q)))) n

-- The number of a verdict: that of the fault, or 0 for an accepted question.
abbrev pub verdict_number : Result Problem Fault → ℕ
verdict_number (Ok p) = 0
verdict_number (Err f) = fault_number f

-- The condition of n holds, and no condition of a smaller number does.
pub record First (condition : ℕ → Bool) (n : ℕ) : Type 0 where
  pub own : condition n ≡ true
  pub none_earlier : (m : ℕ) → m < n → condition m ≡ false

-- One statement holds exactly when the other does.
pub record Exactly (given when : Type 0) : Type 0 where
  pub only : given → when
  pub always : when → given
