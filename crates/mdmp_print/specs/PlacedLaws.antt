-- What a part prints as members of an object.
use Rattle.std.proofs.Common.{◌≡◌, ◌∙◌, ℕ, true, false, List, [], ◌∷◌, ◌++◌, refl, sym, ap, decimal, codes, append_assoc, append-nil}
use Rattle.std.specs.List.{concat}
use Rattle.json.specs.Token.{Token}
use Rattle.json.specs.Print.{escape_byte, print_from}
use Rattle.mdmp_source.specs.declared.location.Extent.{Extent}
use Rattle.mdmp_source.specs.declared.location.Extent.TheVariants.{Empty, Absent, Inside, Outside}
use Rattle.mdmp_print.specs.Escapes.{escape-decimal}
use Rattle.mdmp_print.specs.Json.{of_number, of_wide, part_members}
use Rattle.mdmp_print.specs.Shown.{ArePrinted, IsPrinted}
use Rattle.mdmp_print.specs.JsonPieces.{placed_text}

-- texts one behind the other, in two lots
spread : (a b c d e f g h t : List ℕ) → (concat (a ∷ b ∷ c ∷ d ∷ []) ++ concat (e ∷ f ∷ g ∷ h ∷ [])) ++ t ≡ a ++ (b ++ (c ++ (d ++ (e ++ (f ++ (g ++ (h ++ t)))))))
spread a b c d e f g h t = simp (append_assoc, append-nil) refl

print-placed : (e : Extent) (size offset : ℕ) (rest : List Token)
    → print_from false (part_members of_number e size offset ++ rest) ≡ placed_text [] e size offset ++ print_from true rest
unfolding print_from escape_byte
print-placed Empty size offset rest = refl
print-placed Absent size offset rest = simp (append_assoc, append-nil) refl
print-placed Inside size offset rest =
    sym (spread (codes "\"class\":\"inside\",\"size\":") [] (decimal size) [] (codes ",\"offset\":") [] (decimal offset) [] (print_from true rest))
print-placed Outside size offset rest =
    sym (spread (codes "\"class\":\"outside\",\"size\":") [] (decimal size) [] (codes ",\"offset\":") [] (decimal offset) [] (print_from true rest))

placed-after : (e : Extent) (size offset : ℕ) (rest : List Token)
    → print_from true (part_members of_number e size offset ++ rest) ≡ 44 ∷ print_from false (part_members of_number e size offset ++ rest)
unfolding print_from
placed-after Empty size offset rest = refl
placed-after Absent size offset rest = refl
placed-after Inside size offset rest = refl
placed-after Outside size offset rest = refl

pub IsPrinted-placed : (e : Extent) (size offset : ℕ) → IsPrinted (part_members of_number e size offset) (placed_text [] e size offset)
IsPrinted-placed e size offset = record {
  first = λ rest. print-placed e size offset rest;
  next = λ rest. placed-after e size offset rest ∙ ap (λ (x : List ℕ). 44 ∷ x) (print-placed e size offset rest);
}

-- ---- a range's, in strings

print-wide : (e : Extent) (size offset : ℕ) (rest : List Token)
    → print_from true (part_members of_wide e size offset ++ rest) ≡ (codes "," ++ placed_text (codes "\"") e size offset) ++ print_from true rest
unfolding print_from escape_byte
print-wide Empty size offset rest = refl
print-wide Absent size offset rest = simp (escape-decimal, append_assoc, append-nil) refl
print-wide Inside size offset rest = simp (escape-decimal, append_assoc, append-nil) refl
print-wide Outside size offset rest = simp (escape-decimal, append_assoc, append-nil) refl

pub ArePrinted-range : (e : Extent) (size offset : ℕ) → ArePrinted (λ more. part_members of_wide e size offset ++ more) (codes "," ++ placed_text (codes "\"") e size offset)
ArePrinted-range e size offset = record {
  print = λ more rest.
      ap (print_from true) (append_assoc (part_members of_wide e size offset) more rest) ∙ print-wide e size offset (more ++ rest);
}
