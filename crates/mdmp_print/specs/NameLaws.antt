-- What a name and bytes of a file name print as values.
use Rattle.std.specs.Str.{is_utf8}
use Rattle.std.specs.Str.Lossy.{utf8_lossy}
use Rattle.std.proofs.Common.{◌≡◌, ◌∙◌, ℕ, Bool, true, false, not, List, [], ◌∷◌, ◌++◌, refl, ap, codes, append_assoc, append-nil}
use Rattle.std.specs.Char.Utf16.{has_unpaired_surrogate}
use Rattle.json.specs.Token.{Token}
use Rattle.json.specs.Print.{escape, escape_byte, print_from}
use Rattle.mdmp_wire.specs.Units.{units_in, utf8_of}
use Rattle.mdmp_lister.specs.declared.name.Name.{Name}
use Rattle.mdmp_lister.specs.declared.name.Name.TheVariants.{Units, Long}
use Rattle.mdmp_lister.specs.declared.name.Name.TheVariants as names
use Rattle.mdmp_print.specs.Json.{bytes_value, lossy_member, name_value, spelled}
use Rattle.mdmp_print.specs.Shown.{IsPrinted}
use Rattle.mdmp_print.specs.JsonPieces.{bytes_value_text, lossy_text, name_value_text, spelled_text}

lossy-then : (b : Bool) (rest : List Token) → print_from true (lossy_member b ++ rest) ≡ lossy_text b ++ print_from true rest
unfolding print_from escape_byte
lossy-then true rest = refl
lossy-then false rest = refl

around : (s l t : List ℕ) → (34 ∷ (s ++ 34 ∷ [])) ++ (l ++ t) ≡ (codes "\"" ++ (s ++ (codes "\"" ++ l))) ++ t
around s l t = simp append_assoc refl

IsPrinted-spelled : (s : List ℕ) (b : Bool) → IsPrinted (spelled s b) (spelled_text s b)
unfolding print_from
IsPrinted-spelled s b = record {
  first = λ rest. ap (λ (x : List ℕ). (34 ∷ (escape s ++ 34 ∷ [])) ++ x) (lossy-then b rest) ∙ around (escape s) (lossy_text b) (print_from true rest);
  next = λ rest. ap (λ (x : List ℕ). 44 ∷ (34 ∷ (escape s ++ 34 ∷ [])) ++ x) (lossy-then b rest)
      ∙ ap (λ (x : List ℕ). 44 ∷ x) (around (escape s) (lossy_text b) (print_from true rest));
}

pub IsPrinted-bytes : (bytes : List ℕ) → IsPrinted (bytes_value bytes) (bytes_value_text bytes)
IsPrinted-bytes bytes = IsPrinted-spelled (utf8_lossy bytes) (not (is_utf8 bytes))

pub IsPrinted-name : (n : Name) → IsPrinted (name_value n) (name_value_text n)
unfolding print_from escape_byte
IsPrinted-name names.None = record { first = λ rest. refl; next = λ rest. refl }
IsPrinted-name (Units units) = IsPrinted-spelled (utf8_of (units_in units)) (has_unpaired_surrogate (units_in units))
IsPrinted-name (Long length) = record { first = λ rest. simp (append_assoc, append-nil) refl; next = λ rest. simp (append_assoc, append-nil) refl }
