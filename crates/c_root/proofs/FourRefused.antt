-- What `four_roots_of` gives if the first, the second, the third or the fourth of the numbers is the first that has no root
-- (`first_refused` to `fourth_refused`).
use Rattle.std.proofs.Common.{◌≡◌, Some, None}
use lib.Ieee.{Float}
use Rattle.float64.specs.Root.{root_of}
use Rattle.float64.specs.FourRoots.{four_roots_of}
use Rattle.float64.specs.declared.side_by_side.Four.{Four}

pub first_refused : (x : Four) → root_of x.a ≡ None → None ≡ four_roots_of x
unfolding four_roots_of
first_refused x e = simp e

pub second_refused : (x : Four) (a : Float) → root_of x.a ≡ Some a → root_of x.b ≡ None → None ≡ four_roots_of x
unfolding four_roots_of
second_refused x a e f = simp (e, f)

pub third_refused : (x : Four) (a b : Float) → root_of x.a ≡ Some a → root_of x.b ≡ Some b → root_of x.c ≡ None
    → None ≡ four_roots_of x
unfolding four_roots_of
third_refused x a b e f g = simp (e, f, g)

pub fourth_refused : (x : Four) (a b c : Float) → root_of x.a ≡ Some a → root_of x.b ≡ Some b → root_of x.c ≡ Some c
    → root_of x.d ≡ None → None ≡ four_roots_of x
unfolding four_roots_of
fourth_refused x a b c e f g h = simp (e, f, g, h)
