-- Texts of printable ASCII: they are UTF-8, and have no line feed.
use Rattle.std.proofs.Common.{◌≡◌, ◌≢◌, ℕ, zero, suc, ◌+◌, ◌-◌, ◌/◌, ◌%◌, ◌<◌, ◌≤◌, Bool, true, false, cond, not, ◌&&◌, ◌==◌, nat_le, nat_lt, List, [], ◌∷◌, ◌++◌, Option, Some, None, IfSome, IsUtf8, refl, arith, codes, decimal}
use Rattle.std.specs.List.{All, concat}
use Rattle.std.specs.Fmt.{digit_glyph, digits, digits_onto}
use Rattle.std.specs.Str.{IsAscii}
use Rattle.std.proofs.lemmas.Bool.{and_parts, leb-true}
use Rattle.std.proofs.lemmas.List.Elements.{All-append, All-cons, All-nil, All-weaker}
use Rattle.std.proofs.lemmas.Str.{IsUtf8-from_ascii}
use Rattle.std.proofs.Common.{ltb-true}
use Rattle.uuid.specs.Text.{by_index, digit_place, hex_digit, hyphen, hyphenated_text, is_hyphen_place, lower, nibble, simple_text, upper}
use Rattle.mdmp_wire.specs.Digits.{hex}
use Rattle.mdmp_names.specs.StreamTypes.{stream_name}
use Rattle.mdmp_summary.specs.declared.identity.CodeId.{CodeId}
use Rattle.mdmp_print.specs.Ids.{pe_id_of, stamp_id}
use Rattle.mdmp_print.specs.Json.{prefixed_hex}
use Rattle.mdmp_print.specs.JsonLines.{point}
use Rattle.mdmp_print.specs.PdbLines.{debug_id, digits_text}
use Rattle.mdmp_print.specs.Shown.{is_plain_byte}
use Rattle.mdmp_print.specs.StreamNames.{is_word, stream_name-word}
use Rattle.mdmp_print.specs.UpperHex.{upper_hex}

-- a character of ASCII that is printed
abbrev pub IsPlain : ℕ → Type 0
IsPlain b = (31 < b) × (b < 128)

abbrev pub ArePlain : List ℕ → Type 0
ArePlain = All IsPlain

pub plain-utf8 : (s : List ℕ) → ArePlain s → IsUtf8 s
plain-utf8 s h = IsUtf8-from_ascii s (ascii s h) where
  ascii : (s : List ℕ) → ArePlain s → IsAscii s
  ascii [] h i = omega arith
  ascii (b ∷ s) h zero = (h 0 b (omega arith)).1
  ascii (b ∷ s) h (suc i) = ascii s (λ k d lt. h (suc k) d (omega arith)) i

pub plain-one_line : (s : List ℕ) → ArePlain s → All (λ b. b ≢ 10) s
plain-one_line s h = All-weaker IsPlain (λ b. b ≢ 10) (λ b p e. omega arith) s h

-- ---- words

abbrev pub are_plain : List ℕ → Bool
are_plain [] = true
are_plain (b ∷ s) = (nat_lt 31 b && nat_lt b 128) && are_plain s

pub word-plain : (s : List ℕ) → are_plain s ≡ true → ArePlain s
word-plain [] e = All-nil IsPlain
word-plain (b ∷ s) e =
    let p = and_parts _ _ e in
    let q = and_parts _ _ p.0 in
    All-cons IsPlain b s (ltb-true _ _ q.0, ltb-true _ _ q.1) (word-plain s p.1)

pub word : (s : List ℕ) → are_plain s ≡ true → IsUtf8 s
word s e = plain-utf8 s (word-plain s e)

pub both-plain : (s t : List ℕ) → ArePlain s → ArePlain t → ArePlain (s ++ t)
both-plain = All-append IsPlain

one-plain : (b : ℕ) → IsPlain b → ArePlain (b ∷ [])
one-plain b p = All-cons IsPlain b [] p (All-nil IsPlain)

-- ---- digits

either : (b : Bool) (m n : ℕ) → IsPlain m → IsPlain n → IsPlain (cond b m n)
either true m n p q = p
either false m n p q = q

glyph-plain : (upper : Bool) (d : ℕ) → d < 16 → IsPlain (digit_glyph upper d)
glyph-plain upper d h =
    either (nat_lt d 10) (48 + d) _ (omega arith, omega arith) (either upper (55 + d) (87 + d) (omega arith, omega arith) (omega arith, omega arith))

module _ (base : ℕ) (some : 0 < base) (few : base ≤ 16) (upper : Bool) where
  chosen : (b : Bool) (s t : List ℕ) → ArePlain s → ArePlain t → ArePlain (cond b s t)
  chosen true s t p q = p
  chosen false s t p q = q

  onto-plain : (k n : ℕ) (acc : List ℕ) → ArePlain acc → ArePlain (digits_onto k base upper n acc)
  onto-plain zero n acc h = h
  onto-plain (suc k) n acc h =
      let last : n % base < base = omega arith in
      let more = All-cons IsPlain (digit_glyph upper (n % base)) acc (glyph-plain upper (n % base) (omega arith)) h in
      chosen (n / base == 0) _ _ more (onto-plain k (n / base) (digit_glyph upper (n % base) ∷ acc) more)

  pub digits-plain : (n : ℕ) → ArePlain (digits base upper n)
  unfolding digits
  digits-plain n = onto-plain 64 n [] (All-nil IsPlain)

pub decimal-plain : (n : ℕ) → ArePlain (decimal n)
decimal-plain n = digits-plain 10 (omega arith) (omega arith) false n

pub hex-plain : (k n : ℕ) → ArePlain (hex k n)
unfolding hex
hex-plain zero n = All-nil IsPlain
hex-plain (suc k) n = both-plain (hex k (n / 16)) _ (hex-plain k (n / 16)) (one-plain _ (glyph-plain false (n % 16) (omega arith)))

pub prefixed-plain : (k n : ℕ) → ArePlain (prefixed_hex k n)
prefixed-plain k n = both-plain (codes "0x") (hex k n) (word-plain (codes "0x") refl) (hex-plain k n)

-- ---- identities

uuid_digit-plain : (letter d : ℕ) → 64 < letter → letter < 98 → d < 16 → IsPlain (hex_digit letter d)
uuid_digit-plain letter d low high h = either (nat_lt d 10) (48 + d) (letter + d - 10) (omega arith, omega arith) (omega arith, omega arith)

nibble-lt : (xs : List ℕ) (k : ℕ) → nibble xs k < 16
nibble-lt xs k = grind arith

by_index-plain : (f : ℕ → ℕ) → ((k : ℕ) → IsPlain (f k)) → (n : ℕ) → ArePlain (by_index n f)
unfolding by_index
by_index-plain f h zero = All-nil IsPlain
by_index-plain f h (suc n) = both-plain (by_index n f) (f n ∷ []) (by_index-plain f h n) (one-plain (f n) (h n))

pub guid-plain : (guid : List ℕ) → ArePlain (hyphenated_text lower guid)
guid-plain guid = by_index-plain _ (λ k.
    either (is_hyphen_place k) hyphen _ (omega arith, omega arith) (uuid_digit-plain lower (nibble guid (digit_place k)) (omega arith) (omega arith) (nibble-lt guid _))) 36

simple-plain : (guid : List ℕ) → ArePlain (simple_text upper guid)
simple-plain guid = by_index-plain _ (λ k. uuid_digit-plain upper (nibble guid k) (omega arith) (omega arith) (nibble-lt guid k)) 32

pub bytes-plain : (bytes : List ℕ) → ArePlain (digits_text bytes)
bytes-plain [] = All-nil IsPlain
bytes-plain (b ∷ bytes) = both-plain (hex 2 b) _ (hex-plain 2 b) (bytes-plain bytes)

pub debug_id-plain : (guid : List ℕ) (age : ℕ) → ArePlain (debug_id guid age)
debug_id-plain guid age = both-plain (simple_text upper guid) (digits 16 true age) (simple-plain guid) (digits-plain 16 (omega arith) (omega arith) true age)

pub upper_hex-plain : (k n : ℕ) → ArePlain (upper_hex k n)
unfolding upper_hex
upper_hex-plain zero n = All-nil IsPlain
upper_hex-plain (suc k) n = both-plain (upper_hex k (n / 16)) _ (upper_hex-plain k (n / 16)) (one-plain _ (glyph-plain true (n % 16) (omega arith)))

pub stamp_id-plain : (time n : ℕ) → ArePlain (stamp_id time n)
stamp_id-plain time n = both-plain (upper_hex 8 time) (digits 16 false n) (upper_hex-plain 8 time) (digits-plain 16 (omega arith) (omega arith) false n)

-- the code id of a module, if it has one
pub code_id-utf8 : (id : Option CodeId) → IfSome (pe_id_of id) IsUtf8
code_id-utf8 None = tt
code_id-utf8 (Some id) = plain-utf8 _ (stamp_id-plain id.time_date_stamp id.size_of_image)

-- ---- names of types of streams

named-plain : (s : List ℕ) → is_word s ≡ true → ArePlain s
named-plain [] e = All-nil IsPlain
named-plain (c ∷ s) e =
    let parts = and_parts (is_plain_byte c && nat_lt c 128) (is_word s) e in
    let byte = and_parts (is_plain_byte c) (nat_lt c 128) parts.0 in
    let above : 35 ≤ c = leb-true 35 c (and_parts (nat_le 35 c) (not (c == 92)) byte.0).0 in
    All-cons IsPlain c s (omega arith, ltb-true c 128 byte.1) (named-plain s parts.1)

named-utf8 : (name : Option (List ℕ)) → IfSome name (λ s. is_word s ≡ true) → IfSome name IsUtf8
named-utf8 None word = tt
named-utf8 (Some s) word = plain-utf8 s (named-plain s word)

pub stream_name-utf8 : (n : ℕ) → IfSome (stream_name n) IsUtf8
stream_name-utf8 n = named-utf8 (stream_name n) (stream_name-word n)

-- ---- versions

-- a number, a point, and the rest of a version
pointed : (n : ℕ) (rest : List ℕ) → ArePlain rest → ArePlain (decimal n ++ (point ++ rest))
pointed n rest h = both-plain (decimal n) (point ++ rest) (decimal-plain n) (both-plain point rest (word-plain point refl) h)

last : (n : ℕ) → ArePlain (decimal n ++ [])
last n = both-plain (decimal n) [] (decimal-plain n) (All-nil IsPlain)

pub three-plain : (a b c : ℕ) → ArePlain (concat (decimal a ∷ point ∷ decimal b ∷ point ∷ decimal c ∷ []))
three-plain a b c = pointed a _ (pointed b _ (last c))

pub four-plain : (a b c d : ℕ) → ArePlain (concat (decimal a ∷ point ∷ decimal b ∷ point ∷ decimal c ∷ point ∷ decimal d ∷ []))
four-plain a b c d = pointed a _ (three-plain b c d)
