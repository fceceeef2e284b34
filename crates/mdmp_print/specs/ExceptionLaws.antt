-- What the values of an exception print in an object.
use Rattle.std.proofs.Common.{◌≡◌, ◌∙◌, ℕ, true, false, min, List, [], ◌∷◌, ◌++◌, refl, ap, sym, map, take, codes, append_assoc, append-nil}
use Rattle.json.specs.Token.{Token, begin_array, end_array, key}
use Rattle.json.specs.Print.{escape_byte, print_from}
use Rattle.mdmp_wire.specs.Digits.{hex}
use Rattle.mdmp_print.specs.Json.{hex_string, values_of}
use Rattle.mdmp_print.specs.JsonPieces.{all_values_text, hex_strings_text, next_values_text}
use Rattle.mdmp_print.specs.Shown.{ArePrinted, escape-address, in_quotes}

-- a string of digits, texts behind it, and more
string_then : (h n t : List ℕ) → in_quotes (codes "0x" ++ h) ++ (n ++ t) ≡ ((codes "\"0x" ++ (h ++ (codes "\"" ++ []))) ++ n) ++ t
string_then h n t = simp (append_assoc, append-nil) refl

print-next : (vs : List ℕ) (rest : List Token) → print_from true (map hex_string vs ++ end_array ∷ rest) ≡ next_values_text vs ++ 93 ∷ print_from true rest
unfolding print_from
print-next [] rest = refl
print-next (v ∷ vs) rest =
    let more = print_from true (map hex_string vs ++ end_array ∷ rest) in
    ap (λ (x : List ℕ). 44 ∷ (in_quotes x ++ more)) (escape-address v)
    ∙ ap (λ (x : List ℕ). 44 ∷ (in_quotes (codes "0x" ++ hex 16 v) ++ x)) (print-next vs rest)
    ∙ ap (λ (x : List ℕ). 44 ∷ x) (string_then (hex 16 v) (next_values_text vs) (93 ∷ print_from true rest))

print-all : (vs : List ℕ) (rest : List Token) → print_from false (map hex_string vs ++ end_array ∷ rest) ≡ all_values_text vs ++ 93 ∷ print_from true rest
unfolding print_from
print-all [] rest = refl
print-all (v ∷ vs) rest =
    let more = print_from true (map hex_string vs ++ end_array ∷ rest) in
    ap (λ (x : List ℕ). in_quotes x ++ more) (escape-address v)
    ∙ ap (λ (x : List ℕ). in_quotes (codes "0x" ++ hex 16 v) ++ x) (print-next vs rest)
    ∙ string_then (hex 16 v) (next_values_text vs) (93 ∷ print_from true rest)

-- as many of the values as it counts
pub ArePrinted-information : (count : ℕ) (values : List ℕ)
    → ArePrinted (λ more. (key (codes "information") ∷ begin_array ∷ (values_of count values ++ end_array ∷ [])) ++ more)
    (codes ",\"information\":[" ++ (hex_strings_text count values ++ codes "]"))
unfolding print_from escape_byte
ArePrinted-information count values =
    let few = take (min count 15) values in
    let front = codes ",\"information\":[" in
    record {
      print = λ more rest.
          let behind : ((map hex_string few ++ end_array ∷ []) ++ more) ++ rest ≡ map hex_string few ++ end_array ∷ (more ++ rest) = simp append_assoc refl in
          ap (λ (l : List Token). front ++ print_from false l) behind
          ∙ ap (λ (x : List ℕ). front ++ x) (print-all few (more ++ rest))
          ∙ ap (λ (x : List ℕ). front ++ x) (sym (append_assoc (all_values_text few) (codes "]") (print_from true (more ++ rest))));
    }
