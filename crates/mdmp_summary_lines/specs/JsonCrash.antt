-- The crash in the object of a summary.
use Rattle.std.specs.Prelude.{ℕ, List, [], ◌∷◌, ◌++◌, Option, Some, None, codes}
use Rattle.std.specs.List.{concat}
use Rattle.std.specs.Fmt.{decimal}
use Rattle.mdmp_wire.specs.declared.exception.ExceptionRecord.{ExceptionRecord}
use Rattle.mdmp_wire.specs.declared.module.ModuleRecord.{ModuleRecord}
use Rattle.mdmp_wire.specs.declared.system.SystemRecord.{SystemRecord}
use Rattle.mdmp_lister.specs.declared.name.Name.{Name}
use Rattle.mdmp_print.specs.Versions.{file_version_text}
use Rattle.mdmp_print.specs.Shown.{in_quotes}
use Rattle.mdmp_summary.specs.declared.context.Registers.{Registers}
use Rattle.mdmp_summary.specs.declared.reach.AccessKind.{AccessKind}
use Rattle.mdmp_summary.specs.declared.reach.AccessKind.TheVariants.{Execute, Read, Unknown, Write}
use Rattle.mdmp_summary.specs.declared.reach.Reached.{Reached}
use Rattle.mdmp_summary.specs.declared.summary.Crash.{Crash}
use Rattle.mdmp_summary.specs.declared.summary.PlaceInModule.{PlaceInModule}
use Rattle.mdmp_summary_lines.specs.JsonText.{decimal_string, file_string, prefixed_string, name_string, word_or_null}
use Rattle.mdmp_summary_lines.specs.NumberWords.{code_flags_name, code_name}

-- ---- how

abbrev pub registers_object_text : Option Registers → List ℕ
registers_object_text (Some registers) = concat (
    codes "{\"instruction\":" ∷ prefixed_string 16 registers.instruction
    ∷ codes ",\"stack\":" ∷ prefixed_string 16 registers.stack
    ∷ codes ",\"frame\":" ∷ prefixed_string 16 registers.frame ∷ codes "}" ∷ [])
registers_object_text None = codes "null"

abbrev pub access_word_text : AccessKind → List ℕ
access_word_text Read = codes "\"read\""
access_word_text Write = codes "\"write\""
access_word_text Execute = codes "\"execute\""
access_word_text Unknown = codes "null"

-- the address that the thread tried to reach, and how
abbrev pub reached_object_text : Option Reached → List ℕ
reached_object_text (Some reached) =
    concat (codes "{\"address\":" ∷ prefixed_string 16 reached.address ∷ codes ",\"access\":" ∷ access_word_text reached.access ∷ codes "}" ∷ [])
reached_object_text None = codes "null"

-- ---- where

-- the name, up to its last part
abbrev pub whole_name_text : Name → List ℕ
whole_name_text name = concat (codes "\"name\":" ∷ name_string name ∷ codes ",\"file\":" ∷ [])

-- its last part, and the version
abbrev pub file_and_version_text : ModuleRecord → Name → List ℕ
file_and_version_text fields name = concat (
    file_string name
    ∷ codes ",\"version\":" ∷ in_quotes (file_version_text fields.version_info.file_version_ms fields.version_info.file_version_ls) ∷ [])

-- `"name":<name>,"file":<its last part>,"version":"<a>.<b>.<c>.<d>"`
abbrev pub module_members_text : ModuleRecord → Name → List ℕ
module_members_text fields name = whole_name_text name ++ file_and_version_text fields name

-- a module and how many bytes an address is above its base
abbrev pub place_object_text : Option PlaceInModule → Name → List ℕ
place_object_text (Some place) name =
    concat (codes "{" ∷ module_members_text place.fields name ∷ codes ",\"offset\":" ∷ decimal_string place.offset ∷ codes "}" ∷ [])
place_object_text None name = codes "null"

-- ---- the crash

-- the code, its flags, their names and the thread, up to its name
abbrev pub crash_code_text : Option SystemRecord → ExceptionRecord → List ℕ
crash_code_text system fields = concat (
    codes "{\"code\":" ∷ prefixed_string 8 fields.exception_code
    ∷ codes ",\"code_name\":" ∷ word_or_null (code_name system fields.exception_code)
    ∷ codes ",\"flags\":" ∷ prefixed_string 8 fields.exception_flags
    ∷ codes ",\"flags_name\":" ∷ word_or_null (code_flags_name system fields.exception_code fields.exception_flags)
    ∷ codes ",\"thread\":" ∷ decimal fields.thread_id ∷ codes ",\"thread_name\":" ∷ [])

-- the address that ran, the exception's own, the registers, and what was reached, up to the modules
abbrev pub crash_addresses_text : Crash → List ℕ
crash_addresses_text crash = concat (
    codes ",\"address\":" ∷ prefixed_string 16 crash.address
    ∷ codes ",\"exception_address\":" ∷ prefixed_string 16 crash.exception.fields.exception_address
    ∷ codes ",\"registers\":" ∷ registers_object_text crash.registers
    ∷ codes ",\"reached\":" ∷ reached_object_text crash.reached ∷ codes ",\"module\":" ∷ [])

-- the crash up to the modules, with the name of its thread
abbrev pub crash_front_text : Option SystemRecord → Crash → Name → List ℕ
crash_front_text system crash thread = crash_code_text system crash.exception.fields ++ (name_string thread ++ crash_addresses_text crash)

-- the module that holds the address that ran, or the nearest one
abbrev pub crash_places_text : Crash → Name → List ℕ
crash_places_text crash owner = place_object_text crash.holder owner ++ (codes ",\"near\":" ++ (place_object_text crash.near owner ++ codes "}"))

-- the crash, with the names of its thread and of the module that holds the address that ran, or of the nearest one
abbrev pub crash_members_text : Option SystemRecord → Crash → (owner thread : Name) → List ℕ
crash_members_text system crash owner thread = crash_front_text system crash thread ++ crash_places_text crash owner

-- the crash, if there is one
abbrev pub crash_object_text : Option SystemRecord → Option Crash → (owner thread : Name) → List ℕ
crash_object_text system (Some crash) owner thread = crash_members_text system crash owner thread
crash_object_text system None owner thread = codes "null"
