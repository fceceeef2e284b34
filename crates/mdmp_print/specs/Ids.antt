-- The ids by which symbol servers know a module, as they are printed.
use Rattle.std.specs.Prelude.{ℕ, List, ◌++◌, Option, Some, None, false}
use Rattle.std.specs.Fmt.{digits}
use Rattle.mdmp_summary.specs.Identity.{debug_id_built}
use Rattle.mdmp_summary.specs.declared.identity.CodeId.{CodeId}
use Rattle.mdmp_print.specs.PdbLines.{debug_id, digits_text}
use Rattle.mdmp_print.specs.UpperHex.{upper_hex}

-- `%08X%x`: a time in eight digits of upper case, and a number behind it in lower case, without zeros in front
abbrev pub stamp_id : ℕ → ℕ → List ℕ
stamp_id time n = upper_hex 8 time ++ digits 16 false n

-- the code id of a PE file, if a module has one
abbrev pub pe_id_of : Option CodeId → Option (List ℕ)
pe_id_of None = None
pe_id_of (Some id) = Some (stamp_id id.time_date_stamp id.size_of_image)

-- a build id: two digits of lower case for each of its bytes
abbrev pub build_id_text : List ℕ → List ℕ
build_id_text bytes = digits_text bytes

-- the debug id that Breakpad makes of a build id
abbrev pub build_debug_id : List ℕ → List ℕ
build_debug_id bytes = debug_id (debug_id_built bytes).guid (debug_id_built bytes).age
