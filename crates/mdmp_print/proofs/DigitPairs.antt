-- The tables of two digits, and numbers as such pairs.
use Rattle.std.proofs.Common.{◌≡◌, ◌∙◌, ℕ, zero, suc, ◌+◌, ◌-◌, ◌*◌, ◌/◌, ◌%◌, ◌<◌, ◌≤◌, Bool, true, ◌&&◌, T, List, [], ◌∷◌, ◌++◌, get_or, ap, sym, inl, inr, arith, eq-zero-or-pos, append_assoc, ◌^◌, false, refl}
use Rattle.std.proofs.lemmas.Fmt.{decimal_digit, decimal_step}
use Rattle.std.proofs.lemmas.Slice.Eq.{bytes_eq-Decides}
use Rattle.std.specs.Fmt.{decimal, digit_glyph}
use Rattle.std.specs.Bool.{Decides}
use Rattle.std.specs.Str.{bytes_eq}
use Rattle.mdmp_wire.specs.Digits.{hex}
use Rattle.mdmp_print.specs.Digits.{last_digits}
use Rattle.mdmp_print.specs.declared.digits.TheConstants.{DECIMAL_PAIRS}
use Rattle.mdmp_print.specs.declared.hex.TheConstants.{HEX_PAIRS}
use lib.Ieee.Fits.{and_l, and_r}

-- what a test says of each number below n
abbrev pub all_below : (ℕ → Bool) → ℕ → Bool
all_below f zero = true
all_below f (suc p) = f p && all_below f p

pub below : (f : ℕ → Bool) (n p : ℕ) → T (all_below f n) → p < n → T (f p)
below f zero p t h = absurd (omega arith)
below f (suc n) p t h =
    elim (eq-zero-or-pos (n - p)) [
      | inl z ↦ let e : p ≡ n = omega arith in rw e (and_l (f n) (all_below f n) t)
      | inr g ↦ below f n p (and_r (f n) (all_below f n) t) (omega arith)
    ]

-- the two decimal digits of a number below 100
abbrev pub pair : ℕ → List ℕ
pair p = (48 + p / 10) ∷ (48 + p % 10) ∷ []

-- the two bytes of a table at a place
abbrev pub row : List ℕ → ℕ → List ℕ
row table p = get_or table (p * 2) 0 ∷ get_or table (p * 2 + 1) 0 ∷ []

abbrev has_pair : ℕ → Bool
has_pair p = bytes_eq (row DECIMAL_PAIRS p) (pair p)

-- a test that decides a fact
pub told : {P : Type 0} (b : Bool) → Decides b P → T b → P
told true d t = d.0 refl
told false d t = absurd t

pair_digits : (p : ℕ) → p < 100 → pair p ≡ last_digits 2 p
unfolding last_digits
pair_digits p h = let e : p / 10 % 10 ≡ p / 10 = omega arith in rw e

pub row_digits : (p : ℕ) → p < 100 → row DECIMAL_PAIRS p ≡ last_digits 2 p
row_digits p h = told (has_pair p) (bytes_eq-Decides (row DECIMAL_PAIRS p) (pair p)) (below has_pair 100 p tt h) ∙ pair_digits p h

abbrev pub glyphs : ℕ → List ℕ
glyphs p = digit_glyph false (p / 16) ∷ digit_glyph false (p % 16) ∷ []

pub hex_glyphs : (p : ℕ) → p < 256 → glyphs p ≡ hex 2 p
unfolding hex
hex_glyphs p h = let e : p / 16 % 16 ≡ p / 16 = omega arith in rw e

-- two digits more
pub hex_more : (k n q r : ℕ) → q ≡ n / 256 → r ≡ n % 256 → hex k q ++ hex 2 r ≡ hex (suc (suc k)) n
unfolding hex
hex_more k n q r eq er =
    let a : n / 16 / 16 ≡ n / 256 = omega arith in
    let b : n % 256 / 16 % 16 ≡ n / 16 % 16 = omega arith in
    let c : n % 256 % 16 ≡ n % 16 = omega arith in
    rw (eq, er, append_assoc, a, b, c)

abbrev has_hex : ℕ → Bool
has_hex p = bytes_eq (row HEX_PAIRS p) (digit_glyph false (p / 16) ∷ digit_glyph false (p % 16) ∷ [])

pub row_hex : (p : ℕ) → p < 256 → row HEX_PAIRS p ≡ hex 2 p
row_hex p h = told (has_hex p) (bytes_eq-Decides (row HEX_PAIRS p) (glyphs p)) (below has_hex 256 p tt h) ∙ hex_glyphs p h

-- ---- decimal digits

-- two more
pub digits_more : (k n q r : ℕ) → q ≡ n / 100 → r ≡ n % 100 → last_digits k q ++ last_digits 2 r ≡ last_digits (suc (suc k)) n
unfolding last_digits
digits_more k n q r eq er =
    let a : n / 10 / 10 ≡ n / 100 = omega arith in
    let b : n % 100 / 10 % 10 ≡ n / 10 % 10 = omega arith in
    let c : n % 100 % 10 ≡ n % 10 = omega arith in
    rw (eq, er, append_assoc, a, b, c)

-- four more
pub four_more : (k n q r : ℕ) → q ≡ n / 10000 → r ≡ n % 10000 → last_digits k q ++ last_digits 4 r ≡ last_digits (suc (suc (suc (suc k)))) n
four_more k n q r eq er =
    let low : last_digits 2 (r / 100) ++ last_digits 2 (r % 100) ≡ last_digits 4 r = digits_more 2 r _ _ refl refl in
    ap (λ (x : List ℕ). last_digits k q ++ x) (sym low)
    ∙ sym (append_assoc (last_digits k q) (last_digits 2 (r / 100)) (last_digits 2 (r % 100)))
    ∙ ap (λ (x : List ℕ). x ++ last_digits 2 (r % 100)) (digits_more k (n / 100) q (r / 100) (omega arith) (omega arith))
    ∙ digits_more (suc (suc k)) n (n / 100) (r % 100) refl (omega arith)

pub decimal_two : (n : ℕ) → 10 ≤ n → n < 100 → last_digits 2 n ≡ decimal n
decimal_two n low high = sym (rw (decimal_step n low (omega arith), decimal_digit (n / 10) (omega arith)) (pair_digits n high))

-- a number's last two digits, behind those of the number without them
pub decimal_more : (n q r : ℕ) → 100 ≤ n → n < 2 ^ 64 → q ≡ n / 100 → r ≡ n % 100 → decimal q ++ last_digits 2 r ≡ decimal n
decimal_more n q r low high eq er =
    let a : n / 10 / 10 ≡ n / 100 = omega arith in
    let b : n % 100 / 10 ≡ n / 10 % 10 = omega arith in
    let c : n % 100 % 10 ≡ n % 10 = omega arith in
    rw (← pair_digits r (omega arith)) (sym (rw (decimal_step n (omega arith) high, decimal_step (n / 10) (omega arith) (omega arith), append_assoc, a, eq, er, b, c)))

-- its last four
pub decimal_four : (n q r : ℕ) → 10000 ≤ n → n < 2 ^ 64 → q ≡ n / 10000 → r ≡ n % 10000 → decimal q ++ last_digits 4 r ≡ decimal n
decimal_four n q r low high eq er =
    let last : last_digits 2 (r / 100) ++ last_digits 2 (r % 100) ≡ last_digits 4 r = digits_more 2 r _ _ refl refl in
    ap (λ (x : List ℕ). decimal q ++ x) (sym last)
    ∙ sym (append_assoc (decimal q) (last_digits 2 (r / 100)) (last_digits 2 (r % 100)))
    ∙ ap (λ (x : List ℕ). x ++ last_digits 2 (r % 100)) (decimal_more (n / 100) q (r / 100) (omega arith) (omega arith) (omega arith) (omega arith))
    ∙ decimal_more n (n / 100) (r % 100) (omega arith) high refl (omega arith)

-- its last eight
pub decimal_eight : (n q r : ℕ) → 100000000 ≤ n → n < 2 ^ 64 → q ≡ n / 100000000 → r ≡ n % 100000000 → decimal q ++ last_digits 8 r ≡ decimal n
decimal_eight n q r low high eq er =
    let last : last_digits 4 (r / 10000) ++ last_digits 4 (r % 10000) ≡ last_digits 8 r = four_more 4 r _ _ refl refl in
    ap (λ (x : List ℕ). decimal q ++ x) (sym last)
    ∙ sym (append_assoc (decimal q) (last_digits 4 (r / 10000)) (last_digits 4 (r % 10000)))
    ∙ ap (λ (x : List ℕ). x ++ last_digits 4 (r % 10000)) (decimal_four (n / 10000) q (r / 10000) (omega arith) (omega arith) (omega arith) (omega arith))
    ∙ decimal_four n (n / 10000) (r % 10000) (omega arith) high refl (omega arith)
