-- Whether a file is good.
use Rattle.std.specs.Prelude.{ℕ, ◌==◌, List, [], ◌∷◌, Option, Some, None, codes, if◌then◌else◌}
use Rattle.std.specs.List.{concat}
use Rattle.std.specs.Fmt.{decimal}
use Rattle.mdmp_lister.specs.declared.fault.ListFault.{ListFault}
use Rattle.mdmp_print.specs.FaultWords.{list_fault_text}
use Rattle.mdmp_print.specs.PartLines.{part_text}
use Rattle.mdmp_summary.specs.declared.bad_entries.BadEntries.{BadEntries}
use Rattle.mdmp_summary.specs.declared.part.PartOutside.{PartOutside}
use Rattle.mdmp_summary.specs.declared.part.PartsOutside.{PartsOutside}

abbrev pub bad_count_text : ℕ → List ℕ
bad_count_text count = if count == 1 then codes "1 bad entry" else concat (decimal count ∷ codes " bad entries" ∷ [])

abbrev pub parts_count_text : ℕ → List ℕ
parts_count_text count = if count == 1 then codes "1 part" else concat (decimal count ∷ codes " parts" ∷ [])

-- the first error, or else the first part outside the file, or that there is neither
abbrev pub file_health : Option ListFault → Option PartOutside → (bad outside : ℕ) → List ℕ
file_health (Some fault) part bad outside = concat (codes "\n  file damaged, " ∷ bad_count_text bad ∷ codes ": " ∷ list_fault_text fault ∷ [])
file_health None (Some part) bad outside =
    concat (codes "\n  file readable, " ∷ parts_count_text outside ∷ codes " outside the file: " ∷ part_text part ∷ [])
file_health None None bad outside = codes "\n  file good"

abbrev pub health_text : BadEntries → PartsOutside → List ℕ
health_text bad outside = file_health bad.first outside.first bad.count outside.count
