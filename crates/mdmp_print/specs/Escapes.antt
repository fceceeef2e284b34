-- Texts that stand in a string as they are: of digits, letters and hyphens.
use Rattle.std.proofs.Common.{slice_index, ◌≡◌, ◌∙◌, ℕ, zero, suc, ◌+◌, ◌-◌, ◌<◌, ◌≤◌, ◌%◌, ◌/◌, ◌==◌, Bool, true, false, cond, List, [], ◌∷◌, ◌++◌, refl, ap, ap₂, arith, inl, inr}
use Rattle.std.proofs.lemmas.Bool.{cases_lt, lt-ltb, le-ltb}
use Rattle.std.proofs.lemmas.List.Concat.{flat_map-append}
use Rattle.std.specs.Fmt.{decimal, digit_glyph, digits, digits_onto}
use Rattle.json.specs.Print.{escape, escape_byte}
use Rattle.json.proofs.Printed.Strings.{escape_byte_plain}
use Rattle.uuid.specs.Text.{by_index, digit_place, hex_digit, is_hyphen_place, lower, nibble, simple_text, upper}
use Rattle.mdmp_wire.specs.Digits.{hex}
use Rattle.mdmp_print.specs.Ids.{stamp_id}
use Rattle.mdmp_print.specs.PdbLines.{debug_id, digits_text, guid_text}
use Rattle.mdmp_print.specs.UpperHex.{upper_hex}

pub escape-append : (xs ys : List ℕ) → escape (xs ++ ys) ≡ escape xs ++ escape ys
escape-append xs ys = flat_map-append escape_byte xs ys

-- one byte behind others
escape-more : (xs : List ℕ) (x : ℕ) → escape xs ≡ xs → escape_byte x ≡ x ∷ [] → escape (xs ++ x ∷ []) ≡ xs ++ x ∷ []
escape-more xs x same plain = escape-append xs (x ∷ []) ∙ ap₂ (λ (a b : List ℕ). a ++ b) same (ap (λ (b : List ℕ). b ++ []) plain)

-- ---- digits of numbers

-- a digit, of at most sixteen
escape_glyph : (capital : Bool) (d : ℕ) → d < 16 → escape_byte (digit_glyph capital d) ≡ digit_glyph capital d ∷ []
escape_glyph true d lt = elim (cases_lt d 10) [
  | inl small ↦ rw (lt-ltb d 10 small) (escape_byte_plain (48 + d) (λ e. omega arith) (λ e. omega arith) (omega arith))
  | inr big ↦ rw (le-ltb d 10 big) (escape_byte_plain (55 + d) (λ e. omega arith) (λ e. omega arith) (omega arith))
]
escape_glyph false d lt = elim (cases_lt d 10) [
  | inl small ↦ rw (lt-ltb d 10 small) (escape_byte_plain (48 + d) (λ e. omega arith) (λ e. omega arith) (omega arith))
  | inr big ↦ rw (le-ltb d 10 big) (escape_byte_plain (87 + d) (λ e. omega arith) (λ e. omega arith) (omega arith))
]

pub escape-hex : (k n : ℕ) → escape (hex k n) ≡ hex k n
unfolding hex
escape-hex zero n = refl
escape-hex (suc k) n = escape-more (hex k (n / 16)) (digit_glyph false (n % 16)) (escape-hex k (n / 16)) (escape_glyph false (n % 16) (omega arith))

module _ (base : ℕ) (capital : Bool) (small : (n : ℕ) → n % base < 16) where
  escape-onto : (k n : ℕ) (acc : List ℕ) → escape acc ≡ acc → escape (digits_onto k base capital n acc) ≡ digits_onto k base capital n acc
  escape-onto zero n acc e = e
  escape-onto (suc k) n acc e =
      let more : escape (digit_glyph capital (n % base) ∷ acc) ≡ digit_glyph capital (n % base) ∷ acc =
      ap₂ (λ (a b : List ℕ). a ++ b) (escape_glyph capital (n % base) (small n)) e in
      elim (n / base == 0) as (λ t. escape (cond t (digit_glyph capital (n % base) ∷ acc) (digits_onto k base capital (n / base) (digit_glyph capital (n % base) ∷ acc)))
      ≡ cond t (digit_glyph capital (n % base) ∷ acc) (digits_onto k base capital (n / base) (digit_glyph capital (n % base) ∷ acc))) [
        | true ↦ more
        | false ↦ escape-onto k (n / base) (digit_glyph capital (n % base) ∷ acc) more
      ]

pub escape-decimal : (n : ℕ) → escape (decimal n) ≡ decimal n
unfolding digits
escape-decimal n = escape-onto 10 false (λ n. omega arith) 64 n [] refl

pub escape-sixteens : (capital : Bool) (n : ℕ) → escape (digits 16 capital n) ≡ digits 16 capital n
unfolding digits
escape-sixteens capital n = escape-onto 16 capital (λ n. omega arith) 64 n [] refl

escape-upper_hex : (k n : ℕ) → escape (upper_hex k n) ≡ upper_hex k n
unfolding upper_hex
escape-upper_hex zero n = refl
escape-upper_hex (suc k) n = escape-more (upper_hex k (n / 16)) (digit_glyph true (n % 16)) (escape-upper_hex k (n / 16)) (escape_glyph true (n % 16) (omega arith))

pub escape-stamp_id : (time n : ℕ) → escape (stamp_id time n) ≡ stamp_id time n
escape-stamp_id time n =
    escape-append (upper_hex 8 time) (digits 16 false n)
    ∙ ap₂ (λ (a b : List ℕ). a ++ b) (escape-upper_hex 8 time) (escape-sixteens false n)

-- two digits for each of some bytes
pub escape-digits : (bytes : List ℕ) → escape (digits_text bytes) ≡ digits_text bytes
escape-digits [] = refl
escape-digits (x ∷ xs) = escape-append (hex 2 x) (digits_text xs) ∙ ap₂ (λ (a b : List ℕ). a ++ b) (escape-hex 2 x) (escape-digits xs)

-- ---- digits of identities

escape-by_index : (n : ℕ) (f : ℕ → ℕ) → ((k : ℕ) → escape_byte (f k) ≡ f k ∷ []) → escape (by_index n f) ≡ by_index n f
unfolding by_index
escape-by_index zero f plain = refl
escape-by_index (suc n) f plain = escape-more (by_index n f) (f n) (escape-by_index n f plain) (plain n)

nibble_small : (xs : List ℕ) (k : ℕ) → nibble xs k < 16
nibble_small xs k = elim (k % 2 == 0) as (λ t. cond t (slice_index xs (k / 2) / 16 % 16) (slice_index xs (k / 2) % 16) < 16) [
  | true ↦ omega arith
  | false ↦ omega arith
]

module _ (letter : ℕ) (above : 35 ≤ letter) (apart : (d : ℕ) → d < 6 → letter + d ≡ 92 → ⊥) where
  escape_hex_digit : (d : ℕ) → d < 16 → escape_byte (hex_digit letter d) ≡ hex_digit letter d ∷ []
  escape_hex_digit d lt = elim (cases_lt d 10) [
    | inl small ↦ rw (lt-ltb d 10 small) (escape_byte_plain (48 + d) (λ e. omega arith) (λ e. omega arith) (omega arith))
    | inr big ↦ rw (le-ltb d 10 big) (escape_byte_plain (letter + d - 10) (λ e. omega arith) (λ e. apart (d - 10) (omega arith) (omega arith)) (omega arith))
  ]

pub escape-guid : (guid : List ℕ) → escape (guid_text guid) ≡ guid_text guid
escape-guid guid =
    let digit = λ (k : ℕ). hex_digit lower (nibble guid (digit_place k)) in
    escape-by_index 36 _ (λ k. elim (is_hyphen_place k) as (λ t. escape_byte (cond t 45 (digit k)) ≡ cond t 45 (digit k) ∷ []) [
      | true ↦ escape_byte_plain 45 (λ e. omega arith) (λ e. omega arith) (omega arith)
      | false ↦ escape_hex_digit lower (omega arith) (λ d few e. omega arith) (nibble guid (digit_place k)) (nibble_small guid (digit_place k))
    ])

pub escape-debug_id : (guid : List ℕ) (age : ℕ) → escape (debug_id guid age) ≡ debug_id guid age
escape-debug_id guid age =
    escape-append (simple_text upper guid) (digits 16 true age)
    ∙ ap₂ (λ (a b : List ℕ). a ++ b)
    (escape-by_index 32 _ (λ k. escape_hex_digit upper (omega arith) (λ d few e. omega arith) (nibble guid k) (nibble_small guid k)))
    (escape-sixteens true age)
