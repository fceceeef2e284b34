-- What is printed of tokens whose strings are UTF-8 is UTF-8, and has no line feed in it.
use Rattle.std.proofs.Common.{◌≡◌, ◌≢◌, ℕ, zero, suc, ◌<◌, Bool, true, false, cond, not, ◌&&◌, ◌==◌, List, [], ◌∷◌, ◌++◌, IsUtf8, inl, inr, refl, ap, sym, ◌∙◌, arith}
use Rattle.std.specs.List.{All}
use Rattle.std.proofs.lemmas.Bool.{and_parts, cases_eq, cases_lt, eq-eqb, true≢false}
use Rattle.std.proofs.lemmas.List.Elements.{All-append, All-cons, All-nil}
use Rattle.std.proofs.lemmas.Str.{IsUtf8-append}
use Rattle.json.specs.Print.{ends, escape, escape_byte, print, print_from, quoted, separator, token_text}
use Rattle.json.specs.Token.{Token, begin_array, begin_object, end_array, end_object, key, string, number, boolean, null, bad}
use Rattle.json.proofs.Printed.Strings.{escape_byte_plain}
use Rattle.json.proofs.Printed.Utf8.{IsUtf8-quoted}
use Rattle.mdmp_engines.proofs.JsonPlain.{ArePlain, are_plain, plain-one_line, plain-utf8, word-plain}

-- a text has no line feed
abbrev pub IsOneLine : List ℕ → Type 0
IsOneLine = All (λ b. b ≢ 10)

-- a text that is UTF-8 and has none
abbrev pub IsClean : List ℕ → Type 0
IsClean s = IsUtf8 s × IsOneLine s

pub clean-append : (s t : List ℕ) → IsClean s → IsClean t → IsClean (s ++ t)
clean-append s t p q = (IsUtf8-append s t p.0 q.0, All-append (λ b. b ≢ 10) s t p.1 q.1)

pub plain-clean : (s : List ℕ) → ArePlain s → IsClean s
plain-clean s h = (plain-utf8 s h, plain-one_line s h)

-- ---- an escaped string has no line feed, whatever its bytes are

abbrev has_none : List ℕ → Bool
has_none [] = true
has_none (b ∷ s) = not (b == 10) && has_none s

has_none-one_line : (s : List ℕ) → has_none s ≡ true → IsOneLine s
has_none-one_line [] e = All-nil (λ b. b ≢ 10)
has_none-one_line (b ∷ s) e =
    let p = and_parts (not (b == 10)) (has_none s) e in
    All-cons (λ b. b ≢ 10) b s (λ is. true≢false (sym p.0 ∙ ap not (eq-eqb b 10 is))) (has_none-one_line s p.1)

-- the escapes of the bytes below n have none
abbrev escapes_below : ℕ → Bool
escapes_below zero = true
escapes_below (suc n) = has_none (escape_byte n) && escapes_below n

escape_below : (n : ℕ) → escapes_below n ≡ true → (b : ℕ) → b < n → has_none (escape_byte b) ≡ true
escape_below zero e b h = absurd (omega arith)
escape_below (suc n) e b h =
    let p = and_parts _ _ e in
    elim (cases_eq b n) [ inl same ↦ rw same p.0 | inr other ↦ escape_below n p.1 b (omega arith) ]

-- 93 follows the last byte that has an escape
all_escapes : escapes_below 93 ≡ true
unfolding escape_byte
all_escapes = refl

escape_byte-one_line : (b : ℕ) → IsOneLine (escape_byte b)
escape_byte-one_line b = elim (cases_lt b 93) [
  | inl low ↦ has_none-one_line _ (escape_below 93 all_escapes b low)
  | inr high ↦ rw (escape_byte_plain b (λ e. omega arith) (λ e. omega arith) (omega arith)) (All-cons (λ b. b ≢ 10) b [] (λ e. omega arith) (All-nil (λ b. b ≢ 10)))
]

escape-one_line : (s : List ℕ) → IsOneLine (escape s)
escape-one_line [] = All-nil (λ b. b ≢ 10)
escape-one_line (b ∷ s) = All-append (λ b. b ≢ 10) (escape_byte b) (escape s) (escape_byte-one_line b) (escape-one_line s)

quoted-clean : (s : List ℕ) → IsUtf8 s → IsClean (quoted s)
quoted-clean s u = (
  IsUtf8-quoted s u,
  All-cons (λ b. b ≢ 10) 34 _ (λ e. omega arith) (All-append (λ b. b ≢ 10) (escape s) (34 ∷ []) (escape-one_line s) (has_none-one_line (34 ∷ []) refl)),
)

-- ---- tokens

-- a string is UTF-8, and what stands as a number is so too and has no line feed
abbrev pub IsFit : Token → Type 0
IsFit begin_object = Unit {0}
IsFit end_object = Unit {0}
IsFit begin_array = Unit {0}
IsFit end_array = Unit {0}
IsFit (key s) = IsUtf8 s
IsFit (string s) = IsUtf8 s
IsFit (number s) = IsClean s
IsFit (boolean b) = Unit {0}
IsFit null = Unit {0}
IsFit bad = Unit {0}

abbrev pub AreFit : List Token → Type 0
AreFit [] = Unit {0}
AreFit (t ∷ ts) = IsFit t × AreFit ts

pub fit-append : (ts us : List Token) → AreFit ts → AreFit us → AreFit (ts ++ us)
fit-append [] us p q = q
fit-append (t ∷ ts) us p q = (p.0, fit-append ts us p.1 q)

fixed : (s : List ℕ) → are_plain s ≡ true → IsClean s
fixed s e = plain-clean s (word-plain s e)

token-clean : (t : Token) → IsFit t → IsClean (token_text t)
token-clean begin_object h = fixed _ refl
token-clean end_object h = fixed _ refl
token-clean begin_array h = fixed _ refl
token-clean end_array h = fixed _ refl
token-clean (key s) h = clean-append (quoted s) (58 ∷ []) (quoted-clean s h) (fixed _ refl)
token-clean (string s) h = quoted-clean s h
token-clean (number s) h = h
token-clean (boolean true) h = fixed _ refl
token-clean (boolean false) h = fixed _ refl
token-clean null h = fixed _ refl
token-clean bad h = fixed _ refl

comma-clean : (b : Bool) → IsClean (cond b (44 ∷ []) [])
comma-clean true = fixed _ refl
comma-clean false = fixed _ refl

print_from-clean : (after_value : Bool) (ts : List Token) → AreFit ts → IsClean (print_from after_value ts)
unfolding print_from
print_from-clean after_value [] h = fixed _ refl
print_from-clean after_value (t ∷ ts) h =
    clean-append (separator after_value t) _ (comma-clean _) (clean-append (token_text t) _ (token-clean t h.0) (print_from-clean (ends t) ts h.1))

pub print-clean : (ts : List Token) → AreFit ts → IsClean (print ts)
print-clean ts h = print_from-clean false ts h
