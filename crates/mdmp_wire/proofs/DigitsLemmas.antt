use Rattle.std.proofs.Common.{◌≡◌, ◌<◌, ◌≤◌, ◌-◌, ◌/◌, ◌%◌, ◌∷◌, [], suc, ℕ, List, ◌++◌, drop, length, sym, ◌∙◌, append_assoc, add-one, arith, false, subst}
use Rattle.std.proofs.Math.ListN.{set}
use Rattle.std.proofs.lemmas.List.{drop-set}
use Rattle.std.specs.Fmt.{digit_glyph}
use Rattle.mdmp_wire.specs.Digits.{hex}

-- one digit goes from the number to the list
pub hex-suc : (j n : ℕ) (d : List ℕ) → j < length d
    → hex (suc j) n ++ drop (suc j) d ≡ hex j (n / 16) ++ drop j (set d j (digit_glyph false (n % 16)))
unfolding hex
hex-suc j n d h = rw (drop-set d j (digit_glyph false (n % 16)) h, add-one) (append_assoc (hex j (n / 16)) (digit_glyph false (n % 16) ∷ []) (drop (suc j) d))

pub hex_less : (i n g : ℕ) (d whole : List ℕ) → 0 < i → i ≤ length d → g ≡ digit_glyph false (n % 16)
    → whole ≡ hex i n ++ drop i d → whole ≡ hex (i - 1) (n / 16) ++ drop (i - 1) (set d (i - 1) g)
hex_less i n g d whole pos fits is e =
    let next : i ≡ suc (i - 1) = omega arith in
    let before : whole ≡ hex (suc (i - 1)) n ++ drop (suc (i - 1)) d = subst (λ (k : ℕ). whole ≡ hex k n ++ drop k d) next e in
    let room : i - 1 < length d = omega arith in
    rw is (before ∙ hex-suc (i - 1) n d room)

pub hex_none : (n : ℕ) (d whole : List ℕ) (i : ℕ) → i ≡ 0 → whole ≡ hex i n ++ drop i d → d ≡ whole
unfolding hex
hex_none n d whole i z e = sym (subst (λ (k : ℕ). whole ≡ hex k n ++ drop k d) z e)
