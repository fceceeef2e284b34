-- A text is the text of its units.
use Rattle.std.proofs.Common.{◌≡◌, ℕ, zero, suc, ◌+◌, ◌-◌, ◌/◌, ◌%◌, ◌<◌, ◌≤◌, List, [], ◌∷◌, ◌++◌, get_or, Bool, true, Some, map, refl, ap, ◌∙◌, arith, inl, inr, ◌⊎◌, lt-ltb, le-ltb, ◌&&◌, false}
use Rattle.std.specs.List.{flat_map}
use Rattle.std.specs.Char.Escape.{encode_utf16}
use Rattle.std.specs.Char.Utf16.{utf16_chars, utf16_lossy_chars, lone_unit_char, surrogate_pair_char}
use Rattle.std.specs.Str.{chars, encode_utf8_all, IsUtf8}
use Rattle.std.proofs.lemmas.Bool.{cases_lt}
use Rattle.std.proofs.lemmas.Str.{utf16_chars-nil, utf16_chars_lone, utf16_chars_pair, encodes-chars, scalars-chars}
use lib.Utf8.{scalars, scalar, scalar_cases}
use Rattle.std.specs.Prelude.{unwrap_or}
use borrow.Author.Tests.{le-leb, lt-leb}
use Rattle.std.proofs.str.Utf16.{IsPair}
use Rattle.mdmp_wire.specs.Units.{utf16_of, utf8_of}

both_true : (a b : Bool) → (a && b) ≡ true → (a ≡ true) × (b ≡ true)
both_true true b e = (refl, e)
both_true false b e = absurd cc

-- what a character is
scalar_is : (c : ℕ) → scalar c ≡ true → (c < 0xD800) ⊎ ((0xE000 ≤ c) × (c < 0x110000))
scalar_is c fits = grind (arith, scalar_cases)

one : (c : ℕ) → c < 0x10000 → encode_utf16 c ≡ c ∷ []
one c lt = rw (lt-ltb c 0x10000 lt) refl

two : (c : ℕ) → 0x10000 ≤ c → encode_utf16 c ≡ (0xD800 + (c - 0x10000) / 0x400) ∷ (0xDC00 + (c - 0x10000) % 0x400) ∷ []
two c le = rw (le-ltb c 0x10000 le) refl

lone : (c : ℕ) → scalar c ≡ true → c < 0x10000 → lone_unit_char c ≡ Some c
lone c fits lt =
    elim (scalar_is c fits) [
      | inl low ↦ rw (lt-leb 0xD800 c low) refl
      | inr high ↦ rw (le-leb 0xD800 c (omega arith), le-ltb c 0xE000 high.0) refl
    ]

first_again : (c : ℕ) (us : List ℕ) → scalar c ≡ true → utf16_chars (encode_utf16 c ++ us) ≡ Some c ∷ utf16_chars us
first_again c us fits =
    elim (cases_lt c 0x10000) [
      | inl lt ↦
          let apart : IsPair c (get_or us 0 0) → ⊥ = λ p. elim (scalar_is c fits) [ inl low ↦ omega (arith, p.0) | inr high ↦ omega (arith, p.1) ] in
          rw (one c lt) (utf16_chars_lone c us apart ∙ ap (λ o. o ∷ utf16_chars us) (lone c fits lt))
      | inr le ↦
          let top : c < 0x110000 = elim (scalar_is c fits) [ inl low ↦ omega arith | inr high ↦ high.1 ] in
          let same : surrogate_pair_char (0xD800 + (c - 0x10000) / 0x400) (0xDC00 + (c - 0x10000) % 0x400) ≡ c = omega arith in
          rw (two c le) (utf16_chars_pair (0xD800 + (c - 0x10000) / 0x400) (0xDC00 + (c - 0x10000) % 0x400) us (omega arith, omega arith, omega arith, omega arith) ∙ ap (λ n. Some n ∷ utf16_chars us) same)
    ]

chars_again : (cs : List ℕ) → scalars cs ≡ true → utf16_chars (flat_map encode_utf16 cs) ≡ map Some cs
chars_again [] fits = utf16_chars-nil
chars_again (c ∷ cs) fits =
    let parts : (scalar c ≡ true) × (scalars cs ≡ true) = both_true (scalar c) (scalars cs) fits in
    first_again c (flat_map encode_utf16 cs) parts.0 ∙ ap (λ t. Some c ∷ t) (chars_again cs parts.1)

back : (cs : List ℕ) → map (λ o. unwrap_or o 0xFFFD) (map Some cs) ≡ cs
back [] = refl
back (c ∷ cs) = ap (λ t. c ∷ t) (back cs)

lossy_again : (cs : List ℕ) → scalars cs ≡ true → utf16_lossy_chars (flat_map encode_utf16 cs) ≡ cs
lossy_again cs fits = ap (map (λ o. unwrap_or o 0xFFFD)) (chars_again cs fits) ∙ back cs

pub text_again : (text : List ℕ) → IsUtf8 text → utf8_of (utf16_of text) ≡ text
text_again text is = ap encode_utf8_all (lossy_again (chars text) (scalars-chars text is)) ∙ encodes-chars text is

-- ---- the units of a character are numbers of 16 bits

fits_first : (a : ℕ) (rest : List ℕ) (i : ℕ) → a < 65536 → ((j : ℕ) → get_or rest j 0 < 65536) → get_or (a ∷ rest) i 0 < 65536
fits_first a rest zero first others = first
fits_first a rest (suc i) first others = others i

pub encode_utf16-fits : (c : ℕ) → c < 0x110000 → (i : ℕ) → get_or (encode_utf16 c) i 0 < 65536
encode_utf16-fits c top i =
    let none : (j : ℕ) → get_or [] j 0 < 65536 = λ j. omega arith in
    elim (cases_lt c 0x10000) [
      | inl lt ↦ rw (one c lt) (fits_first c [] i (omega arith) none)
      | inr le ↦ rw (two c le) (fits_first (0xD800 + (c - 0x10000) / 0x400) ((0xDC00 + (c - 0x10000) % 0x400) ∷ []) i (omega arith)
          (λ j. fits_first (0xDC00 + (c - 0x10000) % 0x400) [] j (omega arith) none))
    ]
