-- The object of a summary, up to its modules.
use Rattle.std.specs.Prelude.{ℕ, List, [], ◌∷◌, ◌++◌, Option, Some, None, codes}
use Rattle.std.specs.List.{concat}
use Rattle.std.specs.Fmt.{decimal}
use Rattle.mdmp_wire.specs.declared.module.ModuleRecord.{ModuleRecord}
use Rattle.mdmp_wire.specs.declared.system.SystemRecord.{SystemRecord}
use Rattle.mdmp_lister.specs.declared.fault.ListFault.{ListFault}
use Rattle.mdmp_lister.specs.declared.name.Name.{Name}
use Rattle.mdmp_print.specs.FaultWords.{list_fault_text}
use Rattle.mdmp_print.specs.PartLines.{part_text}
use Rattle.mdmp_print.specs.Shown.{in_quotes}
use Rattle.mdmp_summary.specs.declared.gathering.ItemCounts.{ItemCounts}
use Rattle.mdmp_summary.specs.declared.part.PartOutside.{PartOutside}
use Rattle.mdmp_summary.specs.declared.summary.FileSummary.{FileSummary}
use Rattle.mdmp_summary_lines.specs.JsonCrash.{crash_object_text, module_members_text}
use Rattle.mdmp_summary_lines.specs.JsonSystem.{system_info_text, system_object_text}
use Rattle.mdmp_summary_lines.specs.JsonText.{bytes_string, decimal_string}
use Rattle.mdmp_summary_lines.specs.declared.names.SummaryNames.{SummaryNames}

-- the name of the file
abbrev pub file_member_text : List ℕ → List ℕ
file_member_text file = concat (codes "{\"line\":\"summary\",\"file\":" ∷ bytes_string file ∷ codes ",\"status\":\"OK\"" ∷ [])

-- the time of the dump and the system
abbrev pub time_and_system_text : ℕ → Option SystemRecord → List ℕ
time_and_system_text time system = concat (
    codes ",\"time\":" ∷ decimal time
    ∷ codes ",\"system_info\":" ∷ system_info_text system
    ∷ codes ",\"system\":" ∷ system_object_text system ∷ [])

-- the first module
abbrev pub program_object_text : Option ModuleRecord → Name → List ℕ
program_object_text (Some fields) name = concat (codes "{" ∷ module_members_text fields name ∷ codes "}" ∷ [])
program_object_text None name = codes "null"

abbrev pub counts_object_text : ItemCounts → List ℕ
counts_object_text counts = concat (
    codes "{\"streams\":" ∷ decimal_string counts.streams
    ∷ codes ",\"threads\":" ∷ decimal_string counts.threads
    ∷ codes ",\"modules\":" ∷ decimal_string counts.modules
    ∷ codes ",\"exceptions\":" ∷ decimal_string counts.exceptions
    ∷ codes ",\"ranges\":" ∷ decimal_string counts.ranges
    ∷ codes ",\"memory\":" ∷ decimal_string counts.memory ∷ codes "}" ∷ [])

abbrev pub first_error_text : Option ListFault → List ℕ
first_error_text (Some fault) = in_quotes (list_fault_text fault)
first_error_text None = codes "null"

abbrev pub first_outside_text : Option PartOutside → List ℕ
first_outside_text (Some part) = in_quotes (part_text part)
first_outside_text None = codes "null"

-- the main module is the first one
abbrev pub main_module_text : Option ModuleRecord → List ℕ
main_module_text (Some program) = codes "0"
main_module_text None = codes "null"

-- how much there is, whether the file is good, and which module is the program
abbrev pub health_members_text : FileSummary → List ℕ
health_members_text summary = concat (
    codes ",\"counts\":" ∷ counts_object_text summary.counts
    ∷ codes ",\"bad_entries\":" ∷ decimal summary.bad.count ∷ codes ",\"first_error\":" ∷ first_error_text summary.bad.first
    ∷ codes ",\"parts_outside\":" ∷ decimal summary.outside.count ∷ codes ",\"first_outside\":" ∷ first_outside_text summary.outside.first
    ∷ codes ",\"main_module\":" ∷ main_module_text summary.program ∷ codes ",\"modules\":[" ∷ [])

-- the time, the system and the crash, up to the program
abbrev pub before_program_text : FileSummary → SummaryNames → List ℕ
before_program_text summary names = concat (
    time_and_system_text summary.header.time_date_stamp summary.system
    ∷ codes ",\"crash\":" ∷ crash_object_text summary.system summary.crash names.owner names.thread
    ∷ codes ",\"program\":" ∷ [])

-- the program, and the members behind it
abbrev pub from_program_text : FileSummary → Name → List ℕ
from_program_text summary program = program_object_text summary.program program ++ health_members_text summary

-- the members of a summary of the file with this name, and the names that it tells, up to the first of the modules
abbrev pub summary_head_text : List ℕ → FileSummary → SummaryNames → List ℕ
summary_head_text file summary names = file_member_text file ++ (before_program_text summary names ++ from_program_text summary names.program)
