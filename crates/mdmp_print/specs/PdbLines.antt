-- The lines of the CodeView records of modules. `<n>` is a decimal number.
use Rattle.std.specs.Prelude.{ℕ, List, [], ◌∷◌, ◌++◌, Bool, true, false, codes}
use Rattle.std.specs.List.{concat, flat_map}
use Rattle.std.specs.Fmt.{decimal, digits}
use Rattle.uuid.specs.Text.{hyphenated_text, lower, simple_text, upper}
use Rattle.mdmp_wire.specs.CodeView.{CodeViewValue, Rsds, Other, Short}
use Rattle.mdmp_wire.specs.Digits.{hex}
use Rattle.mdmp_wire.specs.Escape.{escaped_bytes}

-- the identity of a symbol file: 8, 4, 4, 4 and 12 hexadecimal digits in lower case, with hyphens between them
abbrev pub guid_text : List ℕ → List ℕ
guid_text guid = hyphenated_text lower guid

-- what a symbol store is asked for: the 32 digits of the identity and those of the age, in upper case
abbrev pub debug_id : List ℕ → ℕ → List ℕ
debug_id guid age = simple_text upper guid ++ digits 16 true age

-- two hexadecimal digits for each of these bytes
abbrev pub digits_text : List ℕ → List ℕ
digits_text bytes = flat_map (hex 2) bytes

-- ` cut` behind a name that no zero byte ended
abbrev pub cut_text : Bool → List ℕ
cut_text true = []
cut_text false = codes " cut"

-- `pdb <guid> age <n> name "<bytes>"[ cut]`, `pdb other <8 digits> size <n>` or `pdb short <n>`, where the 8 digits are the four
-- bytes of the signature, in the order of the file
abbrev pub pdb_line : CodeViewValue → List ℕ
pdb_line (Rsds guid age name ended) = concat (codes "pdb " ∷ guid_text guid ∷ codes " age " ∷ decimal age
    ∷ codes " name \"" ∷ escaped_bytes name ∷ codes "\"" ∷ cut_text ended ∷ codes "\n" ∷ [])
pdb_line (Other signature size) =
    concat (codes "pdb other " ∷ digits_text signature ∷ codes " size " ∷ decimal size ∷ codes "\n" ∷ [])
pdb_line (Short size) = concat (codes "pdb short " ∷ decimal size ∷ codes "\n" ∷ [])
