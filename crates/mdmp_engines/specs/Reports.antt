-- How what a command comes to is reported: a line, and the exit status.
use Rattle.std.specs.Prelude.{◌≡◌, ◌⊎◌, ◌∷◌, ℕ, zero, suc, List, [], Result, Ok, Err, codes}
use Rattle.std.specs.List.{concat}
use Rattle.mdmp_source.specs.Output.{OutState, PutsAll, PutsPrefix}
use Rattle.mdmp_engines.specs.declared.fault.ToolFault.{ToolFault}
use Rattle.mdmp_engines.specs.CheckText.{bad_text}
use Rattle.mdmp_engines.specs.Faults.{fault_text, exit_status}
use Rattle.mdmp_print.specs.Lines.{error_line}

-- a line was told: all of it, or the first part where the output refused
abbrev pub IsLineTold : OutState → List ℕ → OutState → Type 0
IsLineTold before text after = PutsAll before (error_line text) after ⊎ PutsPrefix before (error_line text) after

-- status 0 where all went well, and nothing is told; or the fault is told, and the status is its own
abbrev pub IsEnd : {T : Type 0} → Result T ToolFault → ℕ → OutState → OutState → Type 0
IsEnd (Ok x) status before after = (status ≡ 0) × (after ≡ before)
IsEnd (Err fault) status before after = (status ≡ exit_status fault) × IsLineTold before (fault_text fault) after

-- of a check: where entries are bad the status is 1, and how many is told
abbrev pub IsCheckEnd : Result ℕ ToolFault → ℕ → OutState → OutState → Type 0
IsCheckEnd (Ok zero) status before after = (status ≡ 0) × (after ≡ before)
IsCheckEnd (Ok (suc n)) status before after = (status ≡ 1) × IsLineTold before (bad_text (suc n)) after
IsCheckEnd (Err fault) status before after = IsEnd {T = ℕ} (Err fault) status before after

-- `<file>: <words>`
abbrev pub file_fault_text : List ℕ → ToolFault → List ℕ
file_fault_text file fault = concat (file ∷ codes ": " ∷ fault_text fault ∷ [])

-- of the summary of a file of this name: where entries are bad the status is 1, and nothing is told but the summary
abbrev pub IsSummaryEnd : List ℕ → Result ℕ ToolFault → ℕ → OutState → OutState → Type 0
IsSummaryEnd file (Ok zero) status before after = (status ≡ 0) × (after ≡ before)
IsSummaryEnd file (Ok (suc n)) status before after = (status ≡ 1) × (after ≡ before)
IsSummaryEnd file (Err fault) status before after = (status ≡ exit_status fault) × IsLineTold before (file_fault_text file fault) after
