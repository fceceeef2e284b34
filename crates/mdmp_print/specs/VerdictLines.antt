-- The lines of verdicts.
use Rattle.std.specs.Prelude.{ℕ, List, [], ◌∷◌, ◌++◌, Option, Some, None, codes}
use Rattle.std.specs.List.{concat}
use Rattle.std.specs.Fmt.{decimal}
use Rattle.mdmp_lister.specs.declared.fault.ListFault.{ListFault}
use Rattle.mdmp_lister.specs.declared.verdict.Verdict.{Verdict}
use Rattle.mdmp_print.specs.FaultWords.{list_fault_text}

-- of entry e: `entry <e>: ok`, or what is said of its fault
abbrev pub judged_text : ℕ → Option ListFault → List ℕ
judged_text e None = concat (codes "entry " ∷ decimal e ∷ codes ": ok" ∷ [])
judged_text e (Some fault) = list_fault_text fault

-- the line of a verdict
abbrev pub verdict_line : Verdict → List ℕ
verdict_line v = judged_text v.entry v.fault ++ codes "\n"
