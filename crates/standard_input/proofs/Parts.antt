-- A buffer that bytes are read into part by part.
use Rattle.std.proofs.Common.{◌≡◌, ℕ, ◌+◌, ◌≤◌, List, ◌++◌, length, take, ap, sym, ◌∙◌, le_refl, drop_at, length-take-le}
use Rattle.std.proofs.lemmas.Slice.{take-put_mid_below}
use borrow.Rule.Slice.PartMut.{put_mid, post_of}
use lib.Seq.{take-add, take-append-le}

-- The bytes before the written part, and the first n of that part.
pub joined : (a k n : ℕ) (xs ys : List ℕ) → a ≤ length xs → n ≤ length ys → take a xs ++ take n ys ≡ take (a + n) (put_mid a k xs ys)
joined a k n xs ys within fits =
    let after = post_of a k xs in
    let front = take-put_mid_below a k xs ys a (le_refl a) within in
    let behind = drop_at (take a xs) (ys ++ after) a (length-take-le a xs within) in
    ap (λ l. l ++ take n ys) (sym front)
    ∙ ap (λ l. take a (put_mid a k xs ys) ++ l) (sym (ap (take n) behind ∙ take-append-le n ys after fits))
    ∙ sym (take-add a n (put_mid a k xs ys))
