-- Bytes that are told as they are, one more.
use Rattle.std.proofs.Common.{◌≡◌, ◌∙◌, ◌+◌, ◌-◌, ◌<◌, ◌≤◌, ◌++◌, ℕ, List, [], ◌∷◌, false, ap, sym, refl, drop, take, get_or, length, append_assoc, arith}
use Rattle.std.proofs.lemmas.List.{drop_more, get_or-drop, length-drop, take_more}
use Rattle.mdmp_tool.specs.Shown.{is_control, shown}

-- the bytes from one place to another are told as they are
abbrev pub IsPlainRun : List ℕ → ℕ → ℕ → Type 0
IsPlainRun bytes place end = shown (drop place bytes) ≡ take (end - place) (drop place bytes) ++ shown (drop end bytes)

plain_byte : (b : ℕ) (rest : List ℕ) → is_control b ≡ false → shown (b ∷ rest) ≡ b ∷ shown rest
plain_byte b rest plain = rw plain refl

pub no_run : (bytes : List ℕ) (place : ℕ) → IsPlainRun bytes place place
no_run bytes place = let none : place - place ≡ 0 = omega arith in rw none refl

pub one_more : (bytes : List ℕ) (place end : ℕ) → place ≤ end → end < length bytes → is_control (get_or bytes end 0) ≡ false → IsPlainRun bytes place end
    → IsPlainRun bytes place (end + 1)
one_more bytes place end behind inside plain run =
    let xs = drop place bytes in
    let k = end - place in
    let n : end + 1 - place ≡ k + 1 = omega arith in
    let at : place + k ≡ end = omega arith in
    let short : k < length xs = omega (arith, length-drop place bytes) in
    let b = get_or bytes end 0 in
    let same : get_or xs k 0 ≡ b = get_or-drop place bytes k 0 ∙ ap (λ (i : ℕ). get_or bytes i 0) at in
    let last : take (k + 1) xs ≡ take k xs ++ b ∷ [] = take_more xs k 0 short ∙ ap (λ (x : ℕ). take k xs ++ x ∷ []) same in
    let rest : shown (drop end bytes) ≡ b ∷ shown (drop (end + 1) bytes) = ap shown (drop_more bytes end 0 inside) ∙ plain_byte b (drop (end + 1) bytes) plain in
    run
    ∙ ap (λ (t : List ℕ). take k xs ++ t) rest
    ∙ sym (append_assoc (take k xs) (b ∷ []) (shown (drop (end + 1) bytes)))
    ∙ ap (λ (t : List ℕ). t ++ shown (drop (end + 1) bytes)) (sym last ∙ ap (λ (i : ℕ). take i xs) (sym n))
