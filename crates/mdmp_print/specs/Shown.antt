-- What values and members of JSON print, with what stands behind them in view.
use Rattle.std.proofs.Common.{◌≡◌, ◌∙◌, ℕ, ◌≤◌, Bool, true, false, ◌&&◌, ◌==◌, not, nat_le, List, [], ◌∷◌, ◌++◌, codes, refl, sym, ap, ap₂, append_assoc, append-nil, arith}
use Rattle.std.proofs.lemmas.Bool.{and_from, and_parts, leb-true}
use Rattle.std.proofs.lemmas.List.Concat.{flat_map-append}
use Rattle.json.specs.Token.{Token, begin_object, boolean, end_object, key, null, string, number}
use Rattle.json.specs.Print.{escape, escape_byte, print_from}
use Rattle.json.proofs.Printed.Strings.{escape_byte_plain}
use Rattle.mdmp_wire.specs.Digits.{hex}
use Rattle.mdmp_print.specs.Escapes.{escape-decimal, escape-hex}
use Rattle.std.specs.Fmt.{decimal}
use Rattle.std.specs.Prelude.{◌/◌, ◌%◌}
use Rattle.mdmp_print.specs.Versions.{build_text, file_version_text}
use Rattle.mdmp_print.specs.Json.{object_line, of_hex, of_number, of_text}
use Rattle.mdmp_print.specs.JsonPieces.{bool_text}

-- ---- names of members

-- a character that stands in a string as it is: one behind the double quote, but the backslash
abbrev pub is_plain_byte : ℕ → Bool
is_plain_byte c = nat_le 35 c && not (c == 92)

abbrev pub are_plain : List ℕ → Bool
are_plain [] = true
are_plain (c ∷ s) = is_plain_byte c && are_plain s

unlike : (c : ℕ) → not (c == 92) ≡ true → c ≡ 92 → ⊥
unlike c e same = let no : not (92 == 92) ≡ true = rw same at e in cc

pub escape-plain : (s : List ℕ) → are_plain s ≡ true → escape s ≡ s
escape-plain [] e = refl
escape-plain (c ∷ s) e =
    let parts = and_parts (is_plain_byte c) (are_plain s) e in
    let byte = and_parts (nat_le 35 c) (not (c == 92)) parts.0 in
    let low : 35 ≤ c = leb-true 35 c byte.0 in
    ap₂ (λ (a b : List ℕ). a ++ b) (escape_byte_plain c (λ e. omega arith) (unlike c byte.1) (omega arith)) (escape-plain s parts.1)

-- two texts of such, one behind the other
pub both : (a b : Bool) (s t : List ℕ) → (a && b) ≡ true → (a ≡ true → escape s ≡ s) → (b ≡ true → escape t ≡ t) → escape (s ++ t) ≡ s ++ t
both a b s t plain first next =
    let parts = and_parts a b plain in
    flat_map-append escape_byte s t ∙ ap₂ (λ (x y : List ℕ). x ++ y) (first parts.0) (next parts.1)

-- a number, a point, and a text of such
pointed : (n : ℕ) (t : List ℕ) → escape t ≡ t → escape (decimal n ++ (codes "." ++ t)) ≡ decimal n ++ (codes "." ++ t)
pointed n t same =
    both true true (decimal n) (codes "." ++ t) refl (λ _. escape-decimal n) (λ _. both true true (codes ".") t refl (λ _. escape-plain (codes ".") refl) (λ _. same))

last_number : (n : ℕ) → escape (decimal n ++ []) ≡ decimal n ++ []
last_number n = both true true (decimal n) [] refl (λ _. escape-decimal n) (λ _. refl)

pub escape-version : (ms ls : ℕ) → escape (file_version_text ms ls) ≡ file_version_text ms ls
escape-version ms ls = pointed (ms / 65536) _ (pointed (ms % 65536) _ (pointed (ls / 65536) _ (last_number (ls % 65536))))

pub escape-build : (major minor build : ℕ) → escape (build_text major minor build) ≡ build_text major minor build
escape-build major minor build = pointed major _ (pointed minor _ (last_number build))

pub escape-address : (n : ℕ) → escape (codes "0x" ++ hex 16 n) ≡ codes "0x" ++ hex 16 n
escape-address n = both true true (codes "0x") (hex 16 n) refl (λ e. escape-plain (codes "0x") refl) (λ e. escape-hex 16 n)

-- ---- a value, or a member

-- these tokens print this text, at the beginning and behind a comma
pub record IsPrinted (tokens : List Token) (text : List ℕ) : Type 0 where
  pub first : (rest : List Token) → print_from false (tokens ++ rest) ≡ text ++ print_from true rest
  pub next : (rest : List Token) → print_from true (tokens ++ rest) ≡ 44 ∷ (text ++ print_from true rest)

pub IsPrinted-number : (s : List ℕ) → IsPrinted (number s ∷ []) s
unfolding print_from
IsPrinted-number s = record { first = λ rest. refl; next = λ rest. refl }

pub IsPrinted-null : IsPrinted (null ∷ []) (codes "null")
unfolding print_from
IsPrinted-null = record { first = λ rest. refl; next = λ rest. refl }

pub IsPrinted-boolean : (b : Bool) → IsPrinted (boolean b ∷ []) (bool_text b)
unfolding print_from
IsPrinted-boolean true = record { first = λ rest. refl; next = λ rest. refl }
IsPrinted-boolean false = record { first = λ rest. refl; next = λ rest. refl }

-- a text in quotes
abbrev pub in_quotes : List ℕ → List ℕ
in_quotes s = codes "\"" ++ (s ++ codes "\"")

pub IsPrinted-string : (s : List ℕ) → escape s ≡ s → IsPrinted (string s ∷ []) (in_quotes s)
unfolding print_from
IsPrinted-string s same = record {
  first = λ rest. ap (λ (x : List ℕ). in_quotes x ++ print_from true rest) same;
  next = λ rest. ap (λ (x : List ℕ). 44 ∷ (in_quotes x ++ print_from true rest)) same;
}

-- a name with its colon, and a text
abbrev pub keyed : List ℕ → List ℕ → List ℕ
keyed name text = codes "\"" ++ (name ++ (codes "\":" ++ text))

quoted-then : (name x y : List ℕ) → ((34 ∷ (name ++ 34 ∷ [])) ++ 58 ∷ []) ++ (x ++ y) ≡ keyed name x ++ y
quoted-then name x y = simp append_assoc refl

pub IsPrinted-member : (name : List ℕ) (tokens : List Token) (text : List ℕ) (b : Bool) → (are_plain name && b) ≡ true → (b ≡ true → IsPrinted tokens text)
    → IsPrinted (key name ∷ tokens) (keyed name text)
unfolding print_from
IsPrinted-member name tokens text b plain value =
    let parts = and_parts (are_plain name) b plain in
    let same = escape-plain name parts.0 in
    let shown = value parts.1 in
    record {
      first = λ rest. rw (same, shown.first rest) (quoted-then name text (print_from true rest));
      next = λ rest. ap (λ (x : List ℕ). 44 ∷ x) (rw (same, shown.first rest) (quoted-then name text (print_from true rest)));
    }

pub IsPrinted-start : (n : ℕ) → IsPrinted (of_hex (codes "start") 16 n) (keyed (codes "start") (in_quotes (codes "0x" ++ hex 16 n)))
IsPrinted-start n =
    IsPrinted-member (codes "start") (string (codes "0x" ++ hex 16 n) ∷ []) (in_quotes (codes "0x" ++ hex 16 n)) true refl
    (λ _. IsPrinted-string (codes "0x" ++ hex 16 n) (escape-address n))

-- ---- members behind others

-- members with these tokens, in front of others, print this text with its commas
pub record ArePrinted (onto : List Token → List Token) (text : List ℕ) : Type 0 where
  pub print : (more rest : List Token) → print_from true (onto more ++ rest) ≡ text ++ print_from true (more ++ rest)

pub ArePrinted-none : ArePrinted (λ more. more) []
ArePrinted-none = record { print = λ more rest. refl }

pub ArePrinted-one : (tokens : List Token) (text : List ℕ) → IsPrinted tokens text → ArePrinted (λ more. tokens ++ more) (44 ∷ text)
ArePrinted-one tokens text shown = record {
  print = λ more rest. ap (print_from true) (append_assoc tokens more rest) ∙ shown.next (more ++ rest);
}

pub ArePrinted-then : (f g : List Token → List Token) (s t : List ℕ) (a b : Bool) → (a && b) ≡ true → (a ≡ true → ArePrinted f s) → (b ≡ true → ArePrinted g t)
    → ArePrinted (λ more. f (g more)) (s ++ t)
ArePrinted-then f g s t a b plain first next =
    let parts = and_parts a b plain in
    record {
      print = λ more rest.
          (first parts.0).print (g more) rest
          ∙ ap (λ (x : List ℕ). s ++ x) ((next parts.1).print more rest)
          ∙ sym (append_assoc s t (print_from true (more ++ rest)));
    }

-- the members that say where a record stands, each behind a comma
abbrev pub at_text : ℕ → ℕ → List ℕ
at_text entry index = codes ",\"entry\":" ++ (decimal entry ++ (codes ",\"index\":" ++ decimal index))

pub number-member : (name : List ℕ) (n : ℕ) → are_plain name ≡ true → ArePrinted (λ more. of_number name n ++ more) (44 ∷ keyed name (decimal n))
number-member name n plain =
    ArePrinted-one (of_number name n) (keyed name (decimal n))
    (IsPrinted-member name (number (decimal n) ∷ []) (decimal n) true (and_from (are_plain name) true plain refl) (λ _. IsPrinted-number (decimal n)))

pub ArePrinted-at : (entry index : ℕ) → ArePrinted (λ more. of_number (codes "entry") entry ++ (of_number (codes "index") index ++ more)) (at_text entry index)
ArePrinted-at entry index =
    let first = number-member (codes "entry") entry refl in
    let next = number-member (codes "index") index refl in
    record {
      print = λ more rest.
          first.print (of_number (codes "index") index ++ more) rest
          ∙ ap (λ (x : List ℕ). (44 ∷ keyed (codes "entry") (decimal entry)) ++ x) (next.print more rest)
          ∙ simp append_assoc refl;
    }

-- ---- objects

-- an object of these members, of which the first is known
abbrev pub braced : List Token → List Token
braced members = begin_object ∷ (members ++ end_object ∷ [])

pub IsPrinted-braced : (first : List Token) (onto : List Token → List Token) (s t : List ℕ) (a b : Bool) → (a && b) ≡ true → (a ≡ true → IsPrinted first s)
    → (b ≡ true → ArePrinted onto t) → IsPrinted (braced (first ++ onto [])) (123 ∷ (s ++ (t ++ 125 ∷ [])))
unfolding print_from
IsPrinted-braced first onto s t a b plain begin behind =
    let parts = and_parts a b plain in
    let shown = begin parts.0 in
    let more = behind parts.1 in
    let inner = λ (rest : List Token).
    ap (print_from false) (append_assoc (first ++ onto []) (end_object ∷ []) rest ∙ append_assoc first (onto []) (end_object ∷ rest))
    ∙ shown.first (onto [] ++ end_object ∷ rest)
    ∙ ap (λ (x : List ℕ). s ++ x) (more.print [] (end_object ∷ rest)) in
    record {
      first = λ rest. ap (λ (x : List ℕ). 123 ∷ x) (inner rest ∙ sym (simp append_assoc refl));
      next = λ rest. ap (λ (x : List ℕ). 44 ∷ 123 ∷ x) (inner rest ∙ sym (simp append_assoc refl));
    }

-- the line of an object
pub object_line-shown : (tokens : List Token) (text : List ℕ) → IsPrinted tokens text → object_line tokens ≡ text ++ codes "\n"
unfolding print_from
object_line-shown tokens text shown =
    ap (λ (x : List ℕ). x ++ codes "\n")
    (ap (print_from false) (sym (append-nil tokens)) ∙ shown.first [] ∙ append-nil text)

-- ---- lines

-- the tokens of an object whose first member says of what its line is
abbrev pub line_tokens : List ℕ → List Token → List Token
line_tokens line members = braced (of_text (codes "line") line ++ members)

-- its bytes, the others' among them
abbrev pub line_bytes : List ℕ → List ℕ → List ℕ
line_bytes line text = codes "{\"line\":\"" ++ (line ++ (codes "\"" ++ (text ++ codes "}\n")))

IsPrinted-line : (line : List ℕ) → are_plain line ≡ true → IsPrinted (of_text (codes "line") line) (keyed (codes "line") (in_quotes line))
IsPrinted-line line plain = IsPrinted-member (codes "line") (string line ∷ []) (in_quotes line) (are_plain line) plain (λ e. IsPrinted-string line (escape-plain line e))

pub object_line-members : (line : List ℕ) (onto : List Token → List Token) (text : List ℕ) (b : Bool) → (are_plain line && b) ≡ true
    → (b ≡ true → ArePrinted onto text) → object_line (line_tokens line (onto [])) ≡ line_bytes line text
object_line-members line onto text b plain shown =
    object_line-shown (line_tokens line (onto [])) _
    (IsPrinted-braced (of_text (codes "line") line) onto (keyed (codes "line") (in_quotes line)) text (are_plain line) b plain (IsPrinted-line line) shown)
    ∙ simp append_assoc refl

-- the same with a member whose value may be long, and members behind it
pub object_line-long : (line : List ℕ) (onto : List Token → List Token) (text : List ℕ) (b : Bool) (name : List ℕ) (tokens : List Token) (value : List ℕ)
    → (behind : List Token → List Token) (rest : List ℕ) (d : Bool)
    → (are_plain line && (b && (are_plain name && d))) ≡ true → (b ≡ true → ArePrinted onto text) → IsPrinted tokens value → (d ≡ true → ArePrinted behind rest)
    → object_line (line_tokens line (onto ((key name ∷ tokens) ++ behind [])))
    ≡ codes "{\"line\":\"" ++ (line ++ (codes "\"" ++ (text ++ (codes ",\"" ++ (name ++ (codes "\":" ++ (value ++ (rest ++ (codes "}\n" ++ [])))))))))
object_line-long line onto text b name tokens value behind rest d plain shown long more =
    let member = λ (e : are_plain name ≡ true). ArePrinted-one (key name ∷ tokens) (keyed name value)
    (IsPrinted-member name tokens value true (and_from (are_plain name) true e refl) (λ _. long)) in
    let last = λ (e : (are_plain name && d) ≡ true). ArePrinted-then (λ more. (key name ∷ tokens) ++ more) behind (44 ∷ keyed name value) rest (are_plain name) d e member more in
    object_line-members line (λ more. onto ((key name ∷ tokens) ++ behind more)) (text ++ (44 ∷ keyed name value ++ rest)) (b && (are_plain name && d)) plain
    (λ e. ArePrinted-then onto (λ more. (key name ∷ tokens) ++ behind more) text (44 ∷ keyed name value ++ rest) b (are_plain name && d) e shown last)
    ∙ simp append_assoc refl
