-- That `list` and `check` print JSON Lines for programs: one object of JSON on each line, in UTF-8.
use Rattle.std.specs.Prelude.{◌≡◌, ◌≢◌, ℕ, Bool, List, [], ◌∷◌, Option, Some, None, map}
use Rattle.std.specs.List.{All, flat_map}
use Rattle.std.specs.Str.{IsUtf8}
use Rattle.json.specs.Json.{Members, document, object}
use Rattle.json.specs.Print.{print}
use Rattle.json.specs.Token.{Token}
use Rattle.json.specs.Tree.{json_tokens}
use Rattle.mdmp_wire.specs.CodeView.{codeview_of}
use Rattle.mdmp_wire.specs.Header.{header_at}
use Rattle.mdmp_lister.specs.declared.choice.Choice.TheVariants.{All as EveryType}
use Rattle.mdmp_lister.specs.declared.fault.OpenFault.{OpenFault}
use Rattle.mdmp_lister.specs.declared.item.Item.{Item}
use Rattle.mdmp_lister.specs.CodeView.{codeview_head_of}
use Rattle.mdmp_lister.specs.Format.Listing.{listing, verdicts}
use Rattle.mdmp_lister.specs.Format.Refusal.{opening_fault}
use Rattle.mdmp_summary.specs.CheckRows.{check_rows}
use Rattle.mdmp_summary.specs.declared.check_row.CheckRow.{CheckRow}
use Rattle.mdmp_summary.specs.declared.check_row.CheckRow.TheVariants.{Part, Entry}
use Rattle.mdmp_print.specs.Json.{object_line}
use Rattle.mdmp_print.specs.JsonLines.{dump_object, item_object, pdb_object, verdict_object}
use Rattle.mdmp_print.specs.PartLines.{part_object}
use Rattle.mdmp_engines.specs.Symbols.{symbols_of}
use Rattle.mdmp_engines.specs.declared.list.ModuleSymbols.{ModuleSymbols}

-- the grammar of JSON (specs/Json.antt of the crate json) reads the text of these tokens as an object, which has these tokens
abbrev pub IsObjectText : List Token → Type 0
IsObjectText tokens = (members : Members) × ((document (print tokens) ≡ Some (object members)) × (json_tokens (object members) ≡ tokens))

-- these tokens may stand on a line of JSON Lines: their text is that of an object, is UTF-8, and has no line feed in it
pub record IsJsonLine (tokens : List Token) : Type 0 where
  pub reads : IsObjectText tokens
  pub utf8 : IsUtf8 (print tokens)
  pub one_line : All (λ byte. byte ≢ 10) (print tokens)

-- a text is JSON Lines of these objects: the text of each of them and a line feed, one behind the other
pub record AreJsonLines (text : List ℕ) (objects : List (List Token)) : Type 0 where
  pub lines : text ≡ flat_map object_line objects
  pub each : All IsJsonLine objects

-- ---- which objects they are

-- none, where a file cannot be listed
abbrev pub objects_unless_refused : Option OpenFault → List (List Token) → List (List Token)
objects_unless_refused None objects = objects
objects_unless_refused (Some fault) objects = []

-- that of a CodeView record of F, of whose name at most `limit` bytes are fetched
abbrev pub symbols_objects : List ℕ → ℕ → Option ModuleSymbols → List (List Token)
symbols_objects F limit None = []
symbols_objects F limit (Some of) = pdb_object of.place.entry of.place.index (codeview_head_of F of.location) (codeview_of F of.location limit) ∷ []

-- that of an item, and behind it that of its CodeView record
abbrev pub item_objects : Bool → List ℕ → ℕ → Item → List (List Token)
item_objects pdb F limit item = item_object item ∷ symbols_objects F limit (symbols_of pdb item)

-- those of `list`: that of the header, and those of each item of the listing
abbrev pub list_objects : Bool → List ℕ → ℕ → List (List Token)
list_objects pdb F limit = objects_unless_refused (opening_fault F EveryType)
    (dump_object (header_at F 0) ∷ flat_map (item_objects pdb F limit) (listing F EveryType limit).items)

-- that of a row of a check that looks at parts
abbrev pub row_object : CheckRow → List Token
row_object (Part part) = part_object part
row_object (Entry row) = verdict_object row.verdict

-- those of `check --parts`: one for each part outside the file, and one for each entry
abbrev pub parts_objects : List ℕ → ℕ → List (List Token)
parts_objects F limit = objects_unless_refused (opening_fault F EveryType) (map row_object (check_rows F limit))

-- those of `check`: one for each entry
abbrev pub check_objects : List ℕ → ℕ → List (List Token)
check_objects F limit = objects_unless_refused (opening_fault F EveryType) (map verdict_object (verdicts F EveryType limit))
