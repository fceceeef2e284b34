-- The lines of a summary.
use Rattle.std.specs.Prelude.{ℕ, ◌==◌, List, [], ◌∷◌, ◌++◌, Option, Some, None, codes, if◌then◌else◌}
use Rattle.std.specs.List.{concat}
use Rattle.std.specs.Fmt.{decimal}
use Rattle.mdmp_wire.specs.declared.module.ModuleRecord.{ModuleRecord}
use Rattle.mdmp_wire.specs.declared.system.SystemRecord.{SystemRecord}
use Rattle.mdmp_lister.specs.declared.name.Name.{Name}
use Rattle.mdmp_print.specs.Versions.{build_text}
use Rattle.mdmp_summary.specs.declared.gathering.ItemCounts.{ItemCounts}
use Rattle.mdmp_summary.specs.declared.summary.Crash.{Crash}
use Rattle.mdmp_summary.specs.declared.summary.FileSummary.{FileSummary}
use Rattle.mdmp_summary_lines.specs.CrashText.{crash_text}
use Rattle.mdmp_summary_lines.specs.FileNames.{file_text}
use Rattle.mdmp_summary_lines.specs.HealthText.{health_text}
use Rattle.mdmp_summary_lines.specs.NumberWords.{architecture_text, platform_text}
use Rattle.mdmp_summary_lines.specs.declared.names.SummaryNames.{SummaryNames}

-- `<file>: `
abbrev pub named_file : List ℕ → List ℕ
named_file file = concat (file ∷ codes ": " ∷ [])

-- the lines of the crash, if there is one
abbrev pub crash_or_none : Option SystemRecord → Option Crash → SummaryNames → List ℕ
crash_or_none system (Some crash) names = crash_text system crash names.owner names.thread
crash_or_none system None names = codes "no crash"

abbrev pub first_text : FileSummary → SummaryNames → List ℕ
first_text summary names = crash_or_none summary.system summary.crash names

-- the program, if there is one
abbrev pub program_text : Option ModuleRecord → Name → List ℕ
program_text (Some program) name = concat (codes "\n  program " ∷ file_text name ∷ [])
program_text None name = []

-- `system <platform> <version>, <architecture>, processors <n>`, if it is known
abbrev pub system_text : Option SystemRecord → List ℕ
system_text (Some system) = concat (
    codes "\n  system " ∷ platform_text system.platform_id
    ∷ codes " " ∷ build_text system.major_version system.minor_version system.build_number
    ∷ codes ", " ∷ architecture_text system.processor_architecture
    ∷ codes ", processors " ∷ decimal system.number_of_processors ∷ [])
system_text None = []

-- a time of 0 is none
abbrev pub written_text : ℕ → List ℕ
written_text time =
    if time == 0 then codes "\n  written not set"
    else concat (codes "\n  written " ∷ decimal time ∷ codes " seconds after 1970 in UTC" ∷ [])

abbrev pub counts_text : ItemCounts → List ℕ
counts_text counts = concat (
    codes "\n  streams " ∷ decimal counts.streams
    ∷ codes " threads " ∷ decimal counts.threads
    ∷ codes " modules " ∷ decimal counts.modules
    ∷ codes " exceptions " ∷ decimal counts.exceptions
    ∷ codes " ranges " ∷ decimal counts.ranges
    ∷ codes " memory " ∷ decimal counts.memory ∷ [])

-- the lines behind those of the crash and the program
abbrev pub tail_text : FileSummary → List ℕ
tail_text summary = concat (
    system_text summary.system ∷ written_text summary.header.time_date_stamp ∷ counts_text summary.counts
    ∷ health_text summary.bad summary.outside ∷ codes "\n" ∷ [])

-- the lines of a summary of the file with this name, and the names that it tells
abbrev pub summary_text : List ℕ → FileSummary → SummaryNames → List ℕ
summary_text file summary names =
    named_file file ++ (first_text summary names ++ (program_text summary.program names.program ++ tail_text summary))
