-- What the words of a fault print in an object.
use Rattle.std.proofs.Common.{◌≡◌, ◌∙◌, ℕ, true, List, ◌++◌, Option, Some, None, refl, ap, append_assoc, append-nil}
use Rattle.json.specs.Token.{Token}
use Rattle.json.specs.Print.{escape, escape_byte, print_from}
use Rattle.mdmp_lister.specs.declared.fault.FaultKind.{FaultKind}
use Rattle.mdmp_lister.specs.declared.fault.FaultKind.TheVariants as kinds
use Rattle.mdmp_print.specs.Escapes.{escape-decimal}
use Rattle.mdmp_print.specs.FaultWords.{kind_words}
use Rattle.mdmp_print.specs.JsonLines.{record_member}
use Rattle.mdmp_print.specs.JsonPieces.{record_member_text}
use Rattle.mdmp_print.specs.Shown.{ArePrinted}

pub escape-kind : (k : FaultKind) → escape (kind_words k) ≡ kind_words k
unfolding escape_byte
escape-kind kinds.StreamOutside = refl
escape-kind kinds.ShortStream = refl
escape-kind kinds.BadHeaderSize = refl
escape-kind kinds.BadEntrySize = refl
escape-kind kinds.BadCount = refl
escape-kind kinds.NameLengthOutside = refl
escape-kind kinds.NameOdd = refl
escape-kind kinds.NameUnitsOutside = refl
escape-kind (kinds.Source fault) = refl
escape-kind kinds.Budget = refl

print-item : (k : Option ℕ) (rest : List Token) → print_from true (record_member k ++ rest) ≡ record_member_text k ++ print_from true rest
unfolding print_from escape_byte
print-item None rest = refl
print-item (Some k) rest = simp (escape-decimal, append_assoc, append-nil) refl

-- the number of a record, if there is one
pub ArePrinted-item : (k : Option ℕ) → ArePrinted (λ more. record_member k ++ more) (record_member_text k)
ArePrinted-item k = record {
  print = λ more rest. ap (print_from true) (append_assoc (record_member k) more rest) ∙ print-item k (more ++ rest);
}
