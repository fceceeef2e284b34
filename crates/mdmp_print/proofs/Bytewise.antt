-- The text of bytes, one chunk after the other.
use Rattle.std.specs.Str.Lossy.{utf8_invalid_len, utf8_lossy, utf8_valid_len}
use Rattle.std.proofs.Common.{◌≡◌, ◌<◌, ◌++◌, ℕ, zero, suc, List, [], ◌∷◌, ap, arith, refl, ◌∙◌, drop, length, encode_utf8}
use Rattle.std.proofs.lemmas.Grind.{flat_map-append}
use Rattle.std.proofs.lemmas.Str.{utf8_lossy_chunk, utf8_lossy_last_chunk}
use lib.Utf8.{encode}
use Rattle.json.specs.Print.{escape, escape_byte}

module _ (bytes valid invalid rest : List ℕ) (parts : bytes ≡ valid ++ (invalid ++ rest)) (valid_len : length valid ≡ utf8_valid_len bytes) where
  -- a chunk with bytes that are no text
  pub chunk-next : length invalid ≡ utf8_invalid_len (drop (utf8_valid_len bytes) bytes) → 0 < length invalid
      → escape (utf8_lossy bytes) ≡ escape valid ++ (escape (encode_utf8 0xFFFD) ++ escape (utf8_lossy rest))
  unfolding encode
  chunk-next invalid_len some =
      ap escape (utf8_lossy_chunk bytes valid invalid rest parts valid_len invalid_len some)
      ∙ flat_map-append escape_byte valid (encode_utf8 0xFFFD ++ utf8_lossy rest)
      ∙ ap (λ (x : List ℕ). escape valid ++ x) (flat_map-append escape_byte (encode_utf8 0xFFFD) (utf8_lossy rest))

  -- the last one, where it has none
  pub chunk-last : length invalid ≡ 0 → length rest ≡ 0 → escape (utf8_lossy bytes) ≡ escape valid ++ escape (utf8_lossy rest)
  chunk-last none end =
      ap escape (utf8_lossy_last_chunk bytes valid invalid rest parts valid_len none end) ∙ flat_map-append escape_byte valid (utf8_lossy rest)

  -- either begins with its text
  pub chunk-begins : length invalid ≡ utf8_invalid_len (drop (utf8_valid_len bytes) bytes) → (length invalid ≡ 0 → length rest ≡ 0)
      → (behind : List ℕ) × (escape (utf8_lossy bytes) ≡ escape valid ++ behind)
  chunk-begins invalid_len last = by (length invalid) refl
    where
      by : (n : ℕ) → length invalid ≡ n → (behind : List ℕ) × (escape (utf8_lossy bytes) ≡ escape valid ++ behind)
      by zero none = (escape (utf8_lossy rest), chunk-last none (last none))
      by (suc n) some = (escape (encode_utf8 0xFFFD) ++ escape (utf8_lossy rest), chunk-next invalid_len (omega (arith, some)))

-- what stands for bytes that are no text
pub replacement : escape (encode_utf8 0xFFFD) ≡ 239 ∷ 191 ∷ 189 ∷ []
unfolding encode escape_byte
replacement = refl
