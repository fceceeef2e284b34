-- Sixteen hexadecimal digits, each in its lane.
use Rattle.std.proofs.Common.{◌≡◌, ◌∙◌, ℕ, zero, suc, ◌+◌, ◌*◌, ◌/◌, ◌%◌, ◌^◌, ◌<◌, ◌||◌, ◌&&◌, Bool, false, T, cond, List, [], ◌∷◌, ◌++◌, get_or, ap, ap₂, refl, arith, bit_and, length, length-append, nat_lt}
use Rattle.std.proofs.lemmas.Nat.{and_mask}
use Rattle.std.proofs.lemmas.Slice.Eq.{bytes_eq-Decides}
use Rattle.std.specs.Fmt.{digit_glyph}
use Rattle.std.specs.Str.{bytes_eq}
use Rattle.mdmp_wire.specs.Digits.{hex}
use Rattle.mdmp_print.proofs.DigitPairs.{below, hex_glyphs, hex_more, told}
use Rattle.mdmp_print.specs.declared.hex.TheConstants.{HEX_DIGITS}
use lib.Dec.{leb}

-- what a lane gives for half a byte
abbrev pub lane : ℕ → ℕ
lane j = cond (leb 128 j) 0 (get_or HEX_DIGITS (0 + j) 0)

abbrev has_digit : ℕ → Bool
has_digit p = bytes_eq (lane p ∷ []) (digit_glyph false p ∷ [])

row_digit : (p : ℕ) → p < 16 → lane p ∷ [] ≡ digit_glyph false p ∷ []
row_digit p h = told (has_digit p) (bytes_eq-Decides (lane p ∷ []) (digit_glyph false p ∷ [])) (below has_digit 16 p tt h)

-- half a byte asks for a lane that is there
abbrev asks : ℕ → Bool
asks p = leb 128 p || (nat_lt p 16 && nat_lt (0 + p) 16)

pub half_asks : (b : ℕ) → T (asks (bit_and b 15))
half_asks b = let e : bit_and b 15 ≡ b % 16 = and_mask b 4 in rw e (below asks 16 (b % 16) tt (omega arith))

-- two lanes are the digits of a byte, behind those of the number without it
next : (k n i j : ℕ) (front : List ℕ) → front ≡ hex k (n / 256) → bit_and i 15 ≡ n % 256 / 16 → bit_and j 15 ≡ n % 256 % 16
    → front ++ (lane (bit_and i 15) ∷ lane (bit_and j 15) ∷ []) ≡ hex (suc (suc k)) n
next k n i j front before high low =
    let two : lane (bit_and i 15) ∷ lane (bit_and j 15) ∷ [] ≡ hex 2 (n % 256) =
    rw (high, low) (ap₂ (λ (x y : List ℕ). x ++ y) (row_digit (n % 256 / 16) (omega arith)) (row_digit (n % 256 % 16) (omega arith)) ∙ hex_glyphs (n % 256) (omega arith)) in
    ap₂ (λ (x y : List ℕ). x ++ y) before two ∙ hex_more k n (n / 256) (n % 256) refl refl

none : (n : ℕ) → [] ≡ hex 0 n
unfolding hex
none n = refl

-- a number without its last bytes
abbrev pub cut : ℕ → ℕ → ℕ
cut zero x = x
cut (suc k) x = cut k x / 256

-- the number without its last digit, and the number
abbrev pub word : ℕ → ℕ
word n = n / 16 + 18446744073709551616 * (n + 0)

abbrev pub byte : ℕ → ℕ → ℕ
byte n k = cut k (word n) % 256

abbrev pub two : ℕ → ℕ → List ℕ
two n k = lane (bit_and (byte n k) 15) ∷ lane (bit_and (byte n (8 + k)) 15) ∷ []

whole : (n : ℕ) → n < 2 ^ 64 → cut 8 (word n) ≡ n
whole n lt = omega arith

high0 : (n : ℕ) → n < 2 ^ 64 → bit_and (byte n 0) 15 ≡ cut 0 n % 256 / 16
high0 n lt = and_mask (byte n 0) 4 ∙ omega arith

low0 : (n : ℕ) → n < 2 ^ 64 → bit_and (byte n 8) 15 ≡ cut 0 n % 256 % 16
low0 n lt = and_mask (byte n 8) 4 ∙ ap (λ (x : ℕ). cut 0 x % 256 % 16) (whole n lt)

high1 : (n : ℕ) → n < 2 ^ 64 → bit_and (byte n 1) 15 ≡ cut 1 n % 256 / 16
high1 n lt = and_mask (byte n 1) 4 ∙ omega arith

low1 : (n : ℕ) → n < 2 ^ 64 → bit_and (byte n 9) 15 ≡ cut 1 n % 256 % 16
low1 n lt = and_mask (byte n 9) 4 ∙ ap (λ (x : ℕ). cut 1 x % 256 % 16) (whole n lt)

high2 : (n : ℕ) → n < 2 ^ 64 → bit_and (byte n 2) 15 ≡ cut 2 n % 256 / 16
high2 n lt = and_mask (byte n 2) 4 ∙ omega arith

low2 : (n : ℕ) → n < 2 ^ 64 → bit_and (byte n 10) 15 ≡ cut 2 n % 256 % 16
low2 n lt = and_mask (byte n 10) 4 ∙ ap (λ (x : ℕ). cut 2 x % 256 % 16) (whole n lt)

high3 : (n : ℕ) → n < 2 ^ 64 → bit_and (byte n 3) 15 ≡ cut 3 n % 256 / 16
high3 n lt = and_mask (byte n 3) 4 ∙ omega arith

low3 : (n : ℕ) → n < 2 ^ 64 → bit_and (byte n 11) 15 ≡ cut 3 n % 256 % 16
low3 n lt = and_mask (byte n 11) 4 ∙ ap (λ (x : ℕ). cut 3 x % 256 % 16) (whole n lt)

high4 : (n : ℕ) → n < 2 ^ 64 → bit_and (byte n 4) 15 ≡ cut 4 n % 256 / 16
high4 n lt = and_mask (byte n 4) 4 ∙ omega arith

low4 : (n : ℕ) → n < 2 ^ 64 → bit_and (byte n 12) 15 ≡ cut 4 n % 256 % 16
low4 n lt = and_mask (byte n 12) 4 ∙ ap (λ (x : ℕ). cut 4 x % 256 % 16) (whole n lt)

high5 : (n : ℕ) → n < 2 ^ 64 → bit_and (byte n 5) 15 ≡ cut 5 n % 256 / 16
high5 n lt = and_mask (byte n 5) 4 ∙ omega arith

low5 : (n : ℕ) → n < 2 ^ 64 → bit_and (byte n 13) 15 ≡ cut 5 n % 256 % 16
low5 n lt = and_mask (byte n 13) 4 ∙ ap (λ (x : ℕ). cut 5 x % 256 % 16) (whole n lt)

high6 : (n : ℕ) → n < 2 ^ 64 → bit_and (byte n 6) 15 ≡ cut 6 n % 256 / 16
high6 n lt = and_mask (byte n 6) 4 ∙ omega arith

low6 : (n : ℕ) → n < 2 ^ 64 → bit_and (byte n 14) 15 ≡ cut 6 n % 256 % 16
low6 n lt = and_mask (byte n 14) 4 ∙ ap (λ (x : ℕ). cut 6 x % 256 % 16) (whole n lt)

high7 : (n : ℕ) → n < 2 ^ 64 → bit_and (byte n 7) 15 ≡ cut 7 n % 256 / 16
high7 n lt = and_mask (byte n 7) 4 ∙ omega arith

low7 : (n : ℕ) → n < 2 ^ 64 → bit_and (byte n 15) 15 ≡ cut 7 n % 256 % 16
low7 n lt = and_mask (byte n 15) 4 ∙ ap (λ (x : ℕ). cut 7 x % 256 % 16) (whole n lt)

pub all_lanes : (n : ℕ) → n < 2 ^ 64 → ((((((two n 7 ++ two n 6) ++ two n 5) ++ two n 4) ++ two n 3) ++ two n 2) ++ two n 1) ++ two n 0 ≡ hex 16 n
all_lanes n lt =
    let f7 : two n 7 ≡ hex 2 (cut 7 n) = next 0 (cut 7 n) (byte n 7) (byte n 15) ([]) (none (cut 8 n)) (high7 n lt) (low7 n lt) in
    let f6 : two n 7 ++ two n 6 ≡ hex 4 (cut 6 n) = next 2 (cut 6 n) (byte n 6) (byte n 14) (two n 7) f7 (high6 n lt) (low6 n lt) in
    let f5 : (two n 7 ++ two n 6) ++ two n 5 ≡ hex 6 (cut 5 n) = next 4 (cut 5 n) (byte n 5) (byte n 13) (two n 7 ++ two n 6) f6 (high5 n lt) (low5 n lt) in
    let f4 : ((two n 7 ++ two n 6) ++ two n 5) ++ two n 4 ≡ hex 8 (cut 4 n) = next 6 (cut 4 n) (byte n 4) (byte n 12) ((two n 7 ++ two n 6) ++ two n 5) f5 (high4 n lt) (low4 n lt) in
    let f3 : (((two n 7 ++ two n 6) ++ two n 5) ++ two n 4) ++ two n 3 ≡ hex 10 (cut 3 n) = next 8 (cut 3 n) (byte n 3) (byte n 11) (((two n 7 ++ two n 6) ++ two n 5) ++ two n 4) f4 (high3 n lt) (low3 n lt) in
    let f2 : ((((two n 7 ++ two n 6) ++ two n 5) ++ two n 4) ++ two n 3) ++ two n 2 ≡ hex 12 (cut 2 n) = next 10 (cut 2 n) (byte n 2) (byte n 10) ((((two n 7 ++ two n 6) ++ two n 5) ++ two n 4) ++ two n 3) f3 (high2 n lt) (low2 n lt) in
    let f1 : (((((two n 7 ++ two n 6) ++ two n 5) ++ two n 4) ++ two n 3) ++ two n 2) ++ two n 1 ≡ hex 14 (cut 1 n) = next 12 (cut 1 n) (byte n 1) (byte n 9) (((((two n 7 ++ two n 6) ++ two n 5) ++ two n 4) ++ two n 3) ++ two n 2) f2 (high1 n lt) (low1 n lt) in
    let f0 : ((((((two n 7 ++ two n 6) ++ two n 5) ++ two n 4) ++ two n 3) ++ two n 2) ++ two n 1) ++ two n 0 ≡ hex 16 (cut 0 n) = next 14 (cut 0 n) (byte n 0) (byte n 8) ((((((two n 7 ++ two n 6) ++ two n 5) ++ two n 4) ++ two n 3) ++ two n 2) ++ two n 1) f1 (high0 n lt) (low0 n lt) in
    f0

pub length-hex : (k n : ℕ) → length (hex k n) ≡ k
unfolding hex
length-hex zero n = refl
length-hex (suc k) n = simp (length-append, length-hex k (n / 16)) (omega arith)
