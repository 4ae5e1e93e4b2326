-- Two's complement at every width. The definitions are the language's own readings `of_z` and `to_z` (`bits_is`, `signed_is`).
-- So by the laws of those readings the bits of a signed number fit in a word (`signed_lt`), and reading them returns the number
-- (`signed_back`).
use Prim.Native.Nat.{ℕ, ◌-◌, ◌<◌, ◌^◌, suc}
use mathlib.Core.Path.{◌≡◌, refl, sym, ap, ◌∙◌, subst}
use mathlib.Core.Bool.{Bool, true, false, cond}
use lib.Dec.{ltb}
use lib.IntN.{ℤ, pos, negsuc}
use mir.Syntax.{Width, w8, w16, w32, w64, w128}
use mir.Val.{to_z, of_z, sel, bits, hbits, SFits}
use mir.ValLaws.{to_z-of_z, of_z_fits}
use Rattle.little_endian.specs.Bytes.{twos_complement, from_twos_complement}

module _ (w : Width) where
  -- The two readings of the language are those of the definitions.
  pub bits_is : (k : ℤ) → of_z w k ≡ twos_complement (bits w) k
  unfolding twos_complement
  bits_is (pos n) = refl
  bits_is (negsuc n) = refl

  pub signed_is : (b : ℕ) → to_z w b ≡ from_twos_complement (bits w) b
  unfolding from_twos_complement
  signed_is b = by (ltb b (2 ^ hbits w)) ∙ ap (λ (n : ℕ). cond (ltb b (2 ^ n)) (pos b) (negsuc (2 ^ bits w - suc b))) (half w)
    where
      half : (v : Width) → hbits v ≡ bits v - 1
      half w8 = refl
      half w16 = refl
      half w32 = refl
      half w64 = refl
      half w128 = refl

      by : (t : Bool) → sel t (pos b) (negsuc (2 ^ bits w - suc b)) ≡ cond t (pos b) (negsuc (2 ^ bits w - suc b))
      by true = refl
      by false = refl

  -- Reading the bits of a signed number returns the number, and they fit in a word.
  pub signed_back : (k : ℤ) → SFits w k → from_twos_complement (bits w) (twos_complement (bits w) k) ≡ k
  signed_back k f = sym (signed_is (twos_complement (bits w) k)) ∙ ap (to_z w) (sym (bits_is k)) ∙ to_z-of_z w k f

  pub signed_lt : (k : ℤ) → SFits w k → twos_complement (bits w) k < 2 ^ bits w
  signed_lt k f = subst (λ (n : ℕ). n < 2 ^ bits w) (bits_is k) (of_z_fits w k f).fits
