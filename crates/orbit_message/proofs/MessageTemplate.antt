-- A message is its template filled with its fourteen values (`message_filled`), and an LF follows each placeholder of the template
-- (`values_end_lines`).
use mathlib.Core.Path.{◌≡◌, refl, sym, ap, ◌∙◌}
use mathlib.Core.List.{List, [], ◌∷◌, ◌++◌, append_assoc}
use Prim.Native.Nat.{ℕ, zero, suc}
use native.Mathlib.Nat.{suc_inj}
use native.Mathlib.Omega.{arith}
use lib.ListN.{length, get_or, drop, replicate}
use Rattle.orbit_message.specs.Ascii.{ascii}
use Rattle.orbit_message.specs.Templates.{filled, placeholders_in, ValuesEndLines}
use Rattle.orbit_message.specs.Messages.{keys, version, line, lines, template}

-- ---- bytes without a placeholder

unfoldable NoPlaceholders : List (List ℕ) → Type 0
NoPlaceholders [] = Unit
NoPlaceholders (k ∷ ks) = (placeholders_in k ≡ 0) × NoPlaceholders ks

-- Bytes without a placeholder stand for themselves.
stays : (k t : List ℕ) (vs : List (List ℕ)) → placeholders_in k ≡ 0 → filled (k ++ t) vs ≡ k ++ filled t vs
unfolding filled placeholders_in
stays [] t vs e = refl
stays (zero ∷ k) t vs e = absurd (omega arith)
stays (suc c ∷ k) t vs e = ap (λ (l : List ℕ). suc c ∷ l) (stays k t vs e)

-- ---- lines

line_filled : (k t v : List ℕ) (vs : List (List ℕ)) → placeholders_in k ≡ 0 →
    filled (line k (0 ∷ []) ++ t) (v ∷ vs) ≡ line k v ++ filled t vs
unfolding filled line ascii
line_filled k t v vs e =
    let between = ascii " = " in
    ap (λ (l : List ℕ). filled l (v ∷ vs)) (append_assoc k (between ++ (0 ∷ 10 ∷ [])) t)
    ∙ stays k (between ++ (0 ∷ 10 ∷ t)) (v ∷ vs) e
    ∙ ap (λ (l : List ℕ). k ++ (between ++ l)) (sym (append_assoc v (10 ∷ []) (filled t vs)))
    ∙ sym (append_assoc k (between ++ (v ++ (10 ∷ []))) (filled t vs))

-- The template of lines with the given keys, and a placeholder for each value.
abbrev placeholders_for : List (List ℕ) → List ℕ
placeholders_for ks = lines ks (replicate (length ks) (0 ∷ []))

lines_filled : (ks vs : List (List ℕ)) → NoPlaceholders ks → length vs ≡ length ks → filled (placeholders_for ks) vs ≡ lines ks vs
unfolding lines filled NoPlaceholders
lines_filled [] [] p e = refl
lines_filled [] (v ∷ vs) p e = refl
lines_filled (k ∷ ks) [] p e = absurd (omega arith)
lines_filled (k ∷ ks) (v ∷ vs) p e =
    line_filled k (placeholders_for ks) v vs p.0 ∙ ap (λ (l : List ℕ). line k v ++ l) (lines_filled ks vs p.1 (suc_inj e))

-- ---- the message

pub message_filled : (vs : List (List ℕ)) → length vs ≡ 14 → filled template vs ≡ lines keys (version ∷ vs)
unfolding template keys lines line version ascii placeholders_in NoPlaceholders
message_filled vs l =
    let ks = drop 1 keys in
    let last-seven : NoPlaceholders (drop 7 ks) = (refl, (refl, (refl, (refl, (refl, (refl, (refl, tt))))))) in
    let no-placeholders : NoPlaceholders ks = (refl, (refl, (refl, (refl, (refl, (refl, (refl, last-seven))))))) in
    let first = line (get_or keys 0 []) version in
    stays first (placeholders_for ks) vs refl ∙ ap (λ (t : List ℕ). first ++ t) (lines_filled ks vs no-placeholders l)

pub values_end_lines : ValuesEndLines template
unfolding template keys lines line version ascii ValuesEndLines
values_end_lines = (refl, (refl, (refl, (refl, (refl, (refl, (refl, (refl, (refl, (refl, (refl, (refl, (refl, (refl, tt))))))))))))))

pub fourteen_placeholders : placeholders_in template ≡ 14
unfolding template keys lines line version ascii placeholders_in
fourteen_placeholders = refl
