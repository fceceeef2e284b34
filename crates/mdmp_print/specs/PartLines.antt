-- The lines of parts that lie outside the file, and of the rows of a check that looks at parts.
use Rattle.std.specs.Prelude.{ℕ, List, [], ◌∷◌, ◌++◌, codes}
use Rattle.std.specs.List.{concat}
use Rattle.std.specs.Fmt.{decimal}
use Rattle.json.specs.Token.{Token}
use Rattle.mdmp_print.specs.Forms.{verdict_line_in}
use Rattle.mdmp_print.specs.Json.{object, object_line, of_number, of_text, of_wide}
use Rattle.mdmp_print.specs.JsonLines.{line_of}
use Rattle.mdmp_print.specs.declared.form.LineForm.{LineForm}
use Rattle.mdmp_print.specs.declared.form.LineForm.TheVariants.{Text, Json}
use Rattle.mdmp_summary.specs.declared.check_row.CheckRow.{CheckRow}
use Rattle.mdmp_summary.specs.declared.check_row.CheckRow.TheVariants.{Part, Entry}
use Rattle.mdmp_wire.specs.declared.slot.PartName.{PartName}
use Rattle.mdmp_wire.specs.declared.slot.PartName.TheVariants as parts
use Rattle.mdmp_summary.specs.declared.part.PartOutside.{PartOutside}

-- what a part is called
abbrev pub part_words : PartName → List ℕ
part_words parts.Stack = codes "stack"
part_words parts.Context = codes "context"
part_words parts.CodeView = codes "codeview"
part_words parts.Misc = codes "misc"
part_words parts.Memory = codes "memory"

-- `entry <e> item <k>: <part> outside the file: offset <n> size <n>`
abbrev pub part_text : PartOutside → List ℕ
part_text x = concat (codes "entry " ∷ decimal x.entry ∷ codes " item " ∷ decimal x.index
    ∷ codes ": " ∷ part_words x.part ∷ codes " outside the file: offset " ∷ decimal x.offset ∷ codes " size " ∷ decimal x.size ∷ [])

abbrev pub part_line : PartOutside → List ℕ
part_line x = part_text x ++ codes "\n"

abbrev pub lost_part_members : PartOutside → List (List Token)
lost_part_members x = line_of (codes "part") ∷ of_number (codes "entry") x.entry ∷ of_wide (codes "item") x.index
    ∷ of_text (codes "part") (part_words x.part) ∷ of_wide (codes "offset") x.offset ∷ of_wide (codes "size") x.size ∷ []

abbrev pub part_object : PartOutside → List Token
part_object x = object (lost_part_members x)

-- the line of a part, in either form
abbrev pub part_line_in : LineForm → PartOutside → List ℕ
part_line_in Text x = part_line x
part_line_in Json x = object_line (part_object x)

-- the line of a row: of a part that lies outside, or of the result of an entry
abbrev pub row_line_in : LineForm → CheckRow → List ℕ
row_line_in form (Part x) = part_line_in form x
row_line_in form (Entry row) = verdict_line_in form row.verdict
