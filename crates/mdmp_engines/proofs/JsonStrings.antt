-- What a name is printed as is UTF-8: of units of UTF-16, and of bytes.
use Rattle.std.proofs.Common.{◌≡◌, ℕ, zero, suc, ◌+◌, ◌^◌, ◌<◌, ◌≤◌, Bool, true, false, cond, ◌&&◌, List, [], ◌∷◌, nat_le, nat_lt, length, take, drop, Some, IsUtf8, inl, inr, refl, sym, subst, arith, length-drop, get_or-drop, map}
use Rattle.std.specs.List.{All}
use Rattle.std.specs.Option.{unwrap_or}
use Rattle.std.specs.Char.Utf16.{is_high_surrogate, is_low_surrogate, lone_unit_char, surrogate_pair_char, utf16_chars, utf16_lossy_chars}
use Rattle.std.specs.Str.{is_utf8}
use Rattle.std.specs.Str.Lossy.{after_first_chunk, replacement_bytes, utf8_error_len, utf8_invalid_len, utf8_lossy, utf8_valid_len, valid_len_up_to}
use Rattle.std.proofs.lemmas.Bool.{and_from, and_parts, cases_eq, cases_lt, le-leb, le-ltb, lt-leb, lt-ltb, ltb-true}
use Rattle.std.proofs.lemmas.List.{take_all}
use Rattle.std.proofs.lemmas.List.Elements.{All-cons, All-head, All-nil, All-tail}
use Rattle.std.proofs.lemmas.Str.{IsUtf8-append, IsUtf8-from_is_utf8, IsUtf8-nil, utf8_lossy-IsUtf8, utf8_lossy_step, utf8_valid_len_le}
use lib.Utf8.{encode, low_scalar, scalar, scalars}
use Rattle.mdmp_source.specs.Store.{AreBytes}
use Rattle.mdmp_wire.specs.Number.{array_at, number_at, numbers_at}
use Rattle.mdmp_wire.specs.NumberBounds.{number_at-lt}
use Rattle.mdmp_wire.specs.Units.{units_of, utf8_of}

-- ---- units

high-scalar : (c : ℕ) → 0xE000 ≤ c → c < 0x110000 → scalar c ≡ true
high-scalar c low high = rw (le-ltb c 0xD800 (omega arith), le-leb 0xE000 c low, lt-ltb c 0x110000 high)

lone-scalar : (u : ℕ) → u < 2 ^ 16 → scalar (unwrap_or (lone_unit_char u) 0xFFFD) ≡ true
lone-scalar u small = elim (cases_lt u 0xD800) [
  | inl below ↦ rw (lt-leb 0xD800 u below) (low_scalar u below)
  | inr from ↦ elim (cases_lt u 0xE000) [
    | inl surrogate ↦ rw (le-leb 0xD800 u from, lt-ltb u 0xE000 surrogate)
    | inr above ↦ rw (le-leb 0xD800 u from, le-ltb u 0xE000 above) (high-scalar u above (omega arith))
  ]
]

pair-scalar : (u v : ℕ) → (is_high_surrogate u && is_low_surrogate v) ≡ true → scalar (surrogate_pair_char u v) ≡ true
pair-scalar u v e =
    let parts = and_parts (is_high_surrogate u) (is_low_surrogate v) e in
    let high : u < 0xDC00 = ltb-true u 0xDC00 (and_parts (nat_le 0xD800 u) (nat_lt u 0xDC00) parts.0).1 in
    let low : v < 0xE000 = ltb-true v 0xE000 (and_parts (nat_le 0xDC00 v) (nat_lt v 0xE000) parts.1).1 in
    high-scalar (surrogate_pair_char u v) (omega arith) (omega arith)

-- a number of two bytes
abbrev IsUnit : ℕ → Type 0
IsUnit u = u < 2 ^ 16

units-scalars : (us : List ℕ) → All IsUnit us → scalars (utf16_lossy_chars us) ≡ true
unfolding utf16_chars
units-scalars [] h = refl
units-scalars (u ∷ []) h = and_from _ _ (lone-scalar u (All-head IsUnit u [] h)) refl
units-scalars (u ∷ v ∷ us) h =
    let rest = All-tail IsUnit u (v ∷ us) h in
    go (is_high_surrogate u && is_low_surrogate v) refl (units-scalars us (All-tail IsUnit v us rest)) (units-scalars (v ∷ us) rest)
  where
    go : (b : Bool) → (is_high_surrogate u && is_low_surrogate v) ≡ b → scalars (utf16_lossy_chars us) ≡ true → scalars (utf16_lossy_chars (v ∷ us)) ≡ true
        → scalars (map (λ o. unwrap_or o 0xFFFD) (cond b (Some (surrogate_pair_char u v) ∷ utf16_chars us) (lone_unit_char u ∷ utf16_chars (v ∷ us)))) ≡ true
    go true e two one = and_from _ _ (pair-scalar u v e) two
    go false e two one = and_from _ _ (lone-scalar u (All-head IsUnit u (v ∷ us) h)) one

numbers-units : (F : List ℕ) → AreBytes F → (n o : ℕ) → All IsUnit (numbers_at F o 2 n)
unfolding numbers_at
numbers-units F h zero o = All-nil IsUnit
numbers-units F h (suc n) o = All-cons IsUnit (number_at F o 2) _ (number_at-lt F o 2 h) (numbers-units F h n (o + 2))

pub units-utf8 : (bytes : List ℕ) → AreBytes bytes → IsUtf8 (utf8_of (units_of bytes))
units-utf8 bytes h = (utf16_lossy_chars (units_of bytes), (units-scalars (units_of bytes) (numbers-units bytes h _ 0), refl))

-- bytes in a file are bytes
take-bytes : (n : ℕ) (s : List ℕ) → AreBytes s → AreBytes (take n s)
take-bytes zero s h k = omega arith
take-bytes (suc n) [] h k = omega arith
take-bytes (suc n) (b ∷ s) h zero = h 0
take-bytes (suc n) (b ∷ s) h (suc k) = take-bytes n s (λ i. h (suc i)) k

pub array-bytes : (F : List ℕ) (o n : ℕ) → AreBytes F → AreBytes (array_at F o n)
unfolding array_at
array-bytes F o n h = take-bytes n (drop o F) (λ k. rw get_or-drop (h (o + k)))

-- ---- bytes that are no text

front-utf8 : (bs : List ℕ) (n : ℕ) → IsUtf8 (take (valid_len_up_to bs n) bs)
front-utf8 bs zero = IsUtf8-nil
front-utf8 bs (suc n) = go (is_utf8 (take (suc n) bs)) refl (front-utf8 bs n) where
  go : (b : Bool) → is_utf8 (take (suc n) bs) ≡ b → IsUtf8 (take (valid_len_up_to bs n) bs) → IsUtf8 (take (cond b (suc n) (valid_len_up_to bs n)) bs)
  go true e shorter = IsUtf8-from_is_utf8 (take (suc n) bs) e
  go false e shorter = shorter

valid-utf8 : (bs : List ℕ) → IsUtf8 (take (utf8_valid_len bs) bs)
unfolding utf8_valid_len
valid-utf8 bs = front-utf8 bs (length bs)

some-invalid : (bs : List ℕ) → 0 < length bs → 0 < utf8_invalid_len bs
unfolding utf8_error_len
some-invalid bs left = grind arith

replacement-utf8 : IsUtf8 replacement_bytes
unfolding encode
replacement-utf8 = (0xFFFD ∷ [], (refl, refl))

lossy-utf8 : (n : ℕ) (bs : List ℕ) → length bs < n → IsUtf8 (utf8_lossy bs)
lossy-utf8 zero bs room = absurd (omega arith)
lossy-utf8 (suc n) bs room = elim (cases_eq (utf8_valid_len bs) (length bs)) [
  | inl whole ↦
      let all : IsUtf8 bs = subst IsUtf8 (take_all (utf8_valid_len bs) bs (omega arith)) (valid-utf8 bs) in
      subst IsUtf8 (sym (utf8_lossy-IsUtf8 bs all)) all
  | inr faulty ↦
      let at = utf8_valid_len bs in
      let within = utf8_valid_len_le bs in
      let some = some-invalid (drop at bs) (omega (arith, length-drop at bs)) in
      let shorter = length-drop (at + utf8_invalid_len (drop at bs)) bs in
      rw (utf8_lossy_step bs faulty) (
      IsUtf8-append _ _ (valid-utf8 bs) (IsUtf8-append replacement_bytes _ replacement-utf8 (lossy-utf8 n (after_first_chunk bs) (omega arith))))
]

pub bytes-utf8 : (bs : List ℕ) → IsUtf8 (utf8_lossy bs)
bytes-utf8 bs = lossy-utf8 (suc (length bs)) bs (omega arith)
