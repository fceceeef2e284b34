-- The end of the object of a summary: the crash, with the keys of minidump-stackwalk.
use Rattle.std.specs.Prelude.{ℕ, List, [], ◌∷◌, ◌++◌, Option, Some, None, codes}
use Rattle.std.specs.List.{concat}
use Rattle.mdmp_wire.specs.declared.exception.ExceptionRecord.{ExceptionRecord}
use Rattle.mdmp_wire.specs.declared.system.SystemRecord.{SystemRecord}
use Rattle.mdmp_print.specs.Shown.{in_quotes}
use Rattle.mdmp_summary.specs.declared.reach.Reached.{Reached}
use Rattle.mdmp_summary.specs.declared.summary.Crash.{Crash}
use Rattle.mdmp_summary_lines.specs.JsonText.{prefixed_string, index_or_null}
use Rattle.mdmp_summary_lines.specs.NumberWords.{code_flags_name, code_text, name_behind}

-- `<code> / <flags>`: the name of the code, or its number, and the name of the flags, if they have one
abbrev pub type_text : Option SystemRecord → ExceptionRecord → List ℕ
type_text system fields =
    code_text system fields.exception_code ++ name_behind (codes " / ") (code_flags_name system fields.exception_code fields.exception_flags)

-- the address that the thread tried to reach, or that of the exception
abbrev pub fault_address : Option Reached → ExceptionRecord → ℕ
fault_address (Some reached) fields = reached.address
fault_address None fields = fields.exception_address

-- how and where, and the index of the thread among the threads, if it is one of them
abbrev pub crash_info_text : Option SystemRecord → Option Crash → Option ℕ → List ℕ
crash_info_text system (Some crash) index = concat (
    codes "{\"type\":" ∷ in_quotes (type_text system crash.exception.fields)
    ∷ codes ",\"address\":" ∷ prefixed_string 16 (fault_address crash.reached crash.exception.fields)
    ∷ codes ",\"crashing_thread\":" ∷ index_or_null index ∷ codes "}" ∷ [])
crash_info_text system None index = codes "null"

-- the end of the threads and of the object, and a line feed
abbrev pub summary_end_text : Option Crash → Option SystemRecord → Option ℕ → List ℕ
summary_end_text crash system index = concat (codes "],\"crash_info\":" ∷ crash_info_text system crash index ∷ codes "}\n" ∷ [])
