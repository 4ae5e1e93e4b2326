-- If `unless` gives no error with one value, it gives none with another (`unless_ok`), because there is no fault (`no_fault`). If it gives
-- an error with one value, it gives the same with another (`unless_err`), because that is the fault (`a_fault`). `err_is` says which error
-- a `?` returns.
use mathlib.Core.Path.{◌≡◌, refl, ap}
use Prim.Native.Nat.{ℕ}
use native.Mathlib.Omega.{arith}
use Rattle.std.specs.Prelude.{Option, Some, None, Result, Ok, Err, IsErrAnd}
use Rattle.entrance.specs.Judge.{unless}

module _ {F A : Type 0} where
  pub no_fault : (o : Option F) (x y : A) → unless o x ≡ Ok y → o ≡ None
  no_fault None x y e = refl
  no_fault (Some f) x y e = absurd (let z : ◌≡◌ {A = ℕ} 0 1 = cc e in omega (arith, z))

  pub a_fault : (o : Option F) (x : A) (f : F) → unless o x ≡ Err f → o ≡ Some f
  a_fault None x f e = absurd (let z : ◌≡◌ {A = ℕ} 0 1 = cc e in omega (arith, z))
  a_fault (Some h) x f e = let same : h ≡ f = cc e in ap Some same

  pub unless_ok : {B : Type 0} (o : Option F) (x y : A) (b : B) → unless o x ≡ Ok y → unless o b ≡ Ok b
  unless_ok o x y b e = ap (λ (u : Option F). unless u b) (no_fault o x y e)

  pub unless_err : {B : Type 0} (o : Option F) (x : A) (b : B) (f : F) → unless o x ≡ Err f → unless o b ≡ Err f
  unless_err o x b f e = ap (λ (u : Option F). unless u b) (a_fault o x f e)

pub err_is : {A E : Type 0} (r : Result A E) (e : E) → IsErrAnd r (λ x. x ≡ e) → r ≡ Err e
err_is (Ok x) e h = absurd h
err_is (Err x) e h = ap Err h
