-- The ids of a module in the object of a summary, with the keys of minidump-stackwalk.
use Rattle.std.specs.Prelude.{ℕ, false, List, [], ◌∷◌, ◌++◌, Option, Some, None, codes, min, take}
use Rattle.std.specs.List.{concat}
use Rattle.std.specs.Fmt.{digits}
use Rattle.uuid.specs.Text.{simple_text, upper}
use Rattle.mdmp_wire.specs.declared.module.ModuleRecord.{ModuleRecord}
use Rattle.mdmp_wire.specs.CodeView.{CodeViewValue, Rsds, Other, Short, codeview_in}
use Rattle.mdmp_lister.specs.declared.codeview.CodeViewBytes.{CodeViewBytes}
use Rattle.mdmp_print.specs.PdbLines.{digits_text}
use Rattle.mdmp_print.specs.Shown.{in_quotes}
use Rattle.mdmp_print.specs.UpperHex.{upper_hex}
use Rattle.mdmp_summary.specs.Identity.{BuildIdValue, build_id_in, code_id_of, debug_id_built, pdb20_in}
use Rattle.mdmp_summary.specs.declared.identity.CodeId.{CodeId}
use Rattle.mdmp_summary.specs.declared.identity.Pdb20.{Pdb20}
use Rattle.mdmp_summary_lines.specs.JsonText.{bytes_string}

-- a number in eight hexadecimal digits in upper case, and one in digits in lower case without zeros in front: `%08X%x`
abbrev pub id_text : ℕ → ℕ → List ℕ
id_text first second = upper_hex 8 first ++ digits 16 false second

-- the time and the size of a PE file
abbrev pub pe_id_text : Option CodeId → List ℕ
pe_id_text (Some id) = in_quotes (id_text id.time_date_stamp id.size_of_image)
pe_id_text None = codes "null"

-- the first 20 bytes of a build id, or else the id of a PE file
abbrev pub code_id_text : Option BuildIdValue → ModuleRecord → List ℕ
code_id_text (Some id) fields = in_quotes (digits_text (take 20 id.bytes))
code_id_text None fields = pe_id_text (code_id_of fields)

-- an identity and an age
abbrev pub guid_age_text : List ℕ → ℕ → List ℕ
guid_age_text guid age = in_quotes (simple_text upper guid ++ digits 16 false age)

abbrev pub pdb20_text : Option Pdb20 → List ℕ
pdb20_text (Some pdb) = in_quotes (id_text pdb.time pdb.age)
pdb20_text None = codes "null"

abbrev pub built_or_pdb20_text : Option BuildIdValue → Option Pdb20 → List ℕ
built_or_pdb20_text (Some id) pdb = guid_age_text (debug_id_built id.bytes).guid (debug_id_built id.bytes).age
built_or_pdb20_text None pdb = pdb20_text pdb

-- the debug id of a record with these first bytes and this size: of the kind RSDS its own, else that of a build id or of NB10
abbrev pub debug_id_text : CodeViewValue → List ℕ → ℕ → List ℕ
debug_id_text (Rsds guid age name ended) head size = guid_age_text guid age
debug_id_text (Other signature all) head size = built_or_pdb20_text (build_id_in head size) (pdb20_in head size)
debug_id_text (Short all) head size = codes "null"

-- the name of the symbol file
abbrev pub debug_file_text : CodeViewValue → List ℕ
debug_file_text (Rsds guid age name ended) = bytes_string name
debug_file_text (Other signature size) = codes "null"
debug_file_text (Short size) = codes "null"

abbrev pub ids_text : (code file debug : List ℕ) → List ℕ
ids_text code file debug =
    concat (codes ",\"code_id\":" ∷ code ∷ codes ",\"debug_file\":" ∷ file ∷ codes ",\"debug_id\":" ∷ debug ∷ codes "}" ∷ [])

-- the ids of a module whose CodeView record tells this, has `size` bytes, and begins with `head`
abbrev pub told_ids_text : ModuleRecord → (head : List ℕ) → (size : ℕ) → CodeViewValue → List ℕ
told_ids_text fields head size told =
    ids_text (code_id_text (build_id_in head size) fields) (debug_file_text told) (debug_id_text told head size)

-- the ids of a module with a CodeView record of `size` bytes, of which `head` are the first 24, or all if it has fewer, and `rest`
-- were read behind them
abbrev pub codeview_ids_text : ModuleRecord → (head rest : List ℕ) → (size : ℕ) → List ℕ
codeview_ids_text fields head rest size = told_ids_text fields head size (codeview_in head rest size)

-- of a module whose CodeView record was read, or is not inside the file
abbrev pub module_ids_text : ModuleRecord → Option CodeViewBytes → List ℕ
module_ids_text fields (Some bytes) = codeview_ids_text fields (take (min bytes.size 24) bytes.head) bytes.rest.now bytes.size
module_ids_text fields None = ids_text (code_id_text None fields) (codes "null") (codes "null")
