-- The text of units, one character after the other.
use Rattle.std.specs.Char.Utf16.{lone_unit_char, surrogate_pair_char, utf16_chars}
use Rattle.std.proofs.Common.{◌≡◌, ◌+◌, ◌<◌, ◌≤◌, ◌∷◌, ◌++◌, ℕ, suc, List, [], Option, None, Some, add-one, ap, arith, drop, drop-cons, drop_of_length-le, encode_utf8, encode_utf8_all, get_or, get_or-drop, le-leb, le-ltb, length, lt-ltb, map, unwrap_or, ◌∙◌}
use Rattle.std.proofs.lemmas.Bool.{lt-leb}
use Rattle.std.proofs.lemmas.Grind.{flat_map-append}
use Rattle.std.proofs.lemmas.Str.{utf16_chars-nil, utf16_chars_lone, utf16_chars_pair}
use Rattle.json.specs.Print.{escape, escape_byte}
use Rattle.mdmp_wire.specs.Units.{utf8_of}

-- two units that are a character together
abbrev pub IsPair : ℕ → ℕ → Type 0
IsPair high low = (0xD800 ≤ high) × (high < 0xDC00) × (0xDC00 ≤ low) × (low < 0xE000)

-- ---- a unit alone

pub lone-low : (unit : ℕ) → unit < 0xD800 → lone_unit_char unit ≡ Some unit
lone-low unit below = rw (lt-leb 0xD800 unit below)

pub lone-high : (unit : ℕ) → 0xE000 ≤ unit → lone_unit_char unit ≡ Some unit
lone-high unit from = rw (le-leb 0xD800 unit (omega (arith, from)), le-ltb unit 0xE000 from)

pub lone-surrogate : (unit : ℕ) → 0xD800 ≤ unit → unit < 0xE000 → lone_unit_char unit ≡ None
lone-surrogate unit from below = rw (le-leb 0xD800 unit from, lt-ltb unit 0xE000 below)

-- ---- what stands from an index on

module _ (units : List ℕ) (at : ℕ) where
  pub chars-lone : at < length units → (IsPair (get_or units at 0) (get_or units (at + 1) 0) → ⊥)
      → utf16_chars (drop at units) ≡ lone_unit_char (get_or units at 0) ∷ utf16_chars (drop (at + 1) units)
  chars-lone within apart =
      let next : get_or (drop (suc at) units) 0 0 ≡ get_or units (at + 1) 0 =
      get_or-drop (suc at) units 0 0 ∙ ap (λ n. get_or units n 0) {x = suc at + 0} {y = at + 1} (omega arith) in
      rw (add-one, drop-cons units at 0 within) (utf16_chars_lone _ (drop (suc at) units) (rw next apart))

  pub chars-pair : at + 1 < length units → IsPair (get_or units at 0) (get_or units (at + 1) 0)
      → utf16_chars (drop at units) ≡ Some (surrogate_pair_char (get_or units at 0) (get_or units (at + 1) 0)) ∷ utf16_chars (drop (at + 2) units)
  chars-pair within pair =
      let after : at + 2 ≡ suc (at + 1) = omega arith in
      rw (after, drop-cons units at 0 (omega (arith, within)), ← add-one at, drop-cons units (at + 1) 0 within) (utf16_chars_pair _ _ _ pair)

  pub chars-end : length units ≤ at → utf16_chars (drop at units) ≡ []
  chars-end past = ap utf16_chars (drop_of_length-le units past) ∙ utf16_chars-nil

-- the text from an index on is that of the character there, and what stands behind it
pub text-next : (units : List ℕ) (at next : ℕ) (found : Option ℕ) → utf16_chars (drop at units) ≡ found ∷ utf16_chars (drop next units)
    → escape (utf8_of (drop at units)) ≡ escape (encode_utf8 (unwrap_or found 0xFFFD)) ++ escape (utf8_of (drop next units))
text-next units at next found first =
    ap (λ (cs : List (Option ℕ)). escape (encode_utf8_all (map (λ o. unwrap_or o 0xFFFD) cs))) first
    ∙ flat_map-append escape_byte (encode_utf8 (unwrap_or found 0xFFFD)) (utf8_of (drop next units))

-- behind the last one there is none
pub text-end : (units : List ℕ) (at : ℕ) → length units ≤ at → escape (utf8_of (drop at units)) ≡ []
text-end units at past = ap (λ (cs : List (Option ℕ)). escape (encode_utf8_all (map (λ o. unwrap_or o 0xFFFD) cs))) (chars-end units at past)
