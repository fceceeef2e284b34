-- Texts that may be null, as values of members.
use Rattle.std.proofs.Common.{◌≡◌, ℕ, true, List, ◌∷◌, ◌++◌, Option, Some, None, IfSome, codes, refl}
use Rattle.std.proofs.lemmas.Bool.{and_from}
use Rattle.json.specs.Print.{escape}
use Rattle.json.specs.Token.{key}
use Rattle.mdmp_names.specs.StreamTypes.{stream_name}
use Rattle.mdmp_summary.specs.declared.identity.CodeId.{CodeId}
use Rattle.mdmp_print.specs.Escapes.{escape-stamp_id}
use Rattle.mdmp_print.specs.Ids.{pe_id_of}
use Rattle.mdmp_print.specs.Json.{text_or_null}
use Rattle.mdmp_print.specs.JsonPieces.{text_or_null_text}
use Rattle.mdmp_print.specs.Shown.{ArePrinted, ArePrinted-one, IsPrinted, IsPrinted-member, IsPrinted-null, IsPrinted-string, are_plain, escape-plain, keyed}
use Rattle.mdmp_print.specs.StreamNames.{is_word, stream_name-word, word-plain}

-- a text, if there is one, stands in a string as it is
abbrev pub IsSame : Option (List ℕ) → Type 0
IsSame s = IfSome s (λ t. escape t ≡ t)

IsPrinted-or_null : (s : Option (List ℕ)) → IsSame s → IsPrinted (text_or_null s) (text_or_null_text s)
IsPrinted-or_null None same = IsPrinted-null
IsPrinted-or_null (Some s) same = IsPrinted-string s same

ArePrinted-or_null : (name : List ℕ) (s : Option (List ℕ)) → are_plain name ≡ true → IsSame s
    → ArePrinted (λ more. (key name ∷ text_or_null s) ++ more) (44 ∷ keyed name (text_or_null_text s))
ArePrinted-or_null name s plain same =
    ArePrinted-one (key name ∷ text_or_null s) (keyed name (text_or_null_text s))
    (IsPrinted-member name (text_or_null s) (text_or_null_text s) true (and_from (are_plain name) true plain refl) (λ _. IsPrinted-or_null s same))

same_id : (id : Option CodeId) → IsSame (pe_id_of id)
same_id None = tt
same_id (Some id) = escape-stamp_id id.time_date_stamp id.size_of_image

-- the member that has the code id of a module
pub ArePrinted-code_id : (id : Option CodeId) → ArePrinted (λ more. (key (codes "code_id") ∷ text_or_null (pe_id_of id)) ++ more) (codes ",\"code_id\":" ++ text_or_null_text (pe_id_of id))
ArePrinted-code_id id = ArePrinted-or_null (codes "code_id") (pe_id_of id) refl (same_id id)

same_name : (name : Option (List ℕ)) → IfSome name (λ s. is_word s ≡ true) → IsSame name
same_name None word = tt
same_name (Some s) word = escape-plain s (word-plain s word)

-- the member that has the name of a type of streams
pub ArePrinted-stream_name : (n : ℕ) → ArePrinted (λ more. (key (codes "name") ∷ text_or_null (stream_name n)) ++ more) (codes ",\"name\":" ++ text_or_null_text (stream_name n))
ArePrinted-stream_name n = ArePrinted-or_null (codes "name") (stream_name n) refl (same_name (stream_name n) (stream_name-word n))
