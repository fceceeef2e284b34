-- The lines that `list` and `check` print, in either form.
use Rattle.std.specs.Prelude.{ℕ, List, ◌∷◌}
use Rattle.json.specs.Token.{Token, key}
use Rattle.mdmp_wire.specs.CodeView.{CodeViewValue}
use Rattle.mdmp_wire.specs.declared.header.Header.{Header}
use Rattle.mdmp_lister.specs.declared.item.Item.{Item}
use Rattle.mdmp_lister.specs.declared.name.Name.{Name}
use Rattle.mdmp_lister.specs.declared.verdict.Verdict.{Verdict}
use Rattle.mdmp_print.specs.declared.form.LineForm.{LineForm}
use Rattle.mdmp_print.specs.declared.form.LineForm.TheVariants.{Text, Json}
use Rattle.mdmp_print.specs.ItemLines.{item_line}
use Rattle.mdmp_print.specs.Json.{name_value, object_line}
use Rattle.mdmp_print.specs.JsonLines.{dump_object, item_object, pdb_object, verdict_object}
use Rattle.mdmp_print.specs.Lines.{dump_line}
use Rattle.mdmp_print.specs.PdbLines.{pdb_line}
use Rattle.mdmp_print.specs.VerdictLines.{verdict_line}

-- a text for people, or one for programs
abbrev pub in_form : LineForm → List ℕ → List ℕ → List ℕ
in_form Text text object = text
in_form Json text object = object

-- the member of a name
abbrev pub name_member : List ℕ → Name → List Token
name_member k name = key k ∷ name_value name

-- ---- lines

-- of a header
abbrev pub dump_line_in : LineForm → Header → List ℕ
dump_line_in Text h = dump_line h
dump_line_in Json h = object_line (dump_object h)

-- of an item
abbrev pub item_line_in : LineForm → Item → List ℕ
item_line_in Text item = item_line item
item_line_in Json item = object_line (item_object item)

-- of the CodeView record of a module, which is the item of this number in the stream of this entry. The record begins with the
-- bytes `head`, the first 24 or all of it
abbrev pub pdb_line_in : LineForm → ℕ → ℕ → List ℕ → CodeViewValue → List ℕ
pdb_line_in Text entry index head told = pdb_line told
pdb_line_in Json entry index head told = object_line (pdb_object entry index head told)

-- of a verdict
abbrev pub verdict_line_in : LineForm → Verdict → List ℕ
verdict_line_in Text verdict = verdict_line verdict
verdict_line_in Json verdict = object_line (verdict_object verdict)
