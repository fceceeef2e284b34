-- The lines of a summary do not depend on where the units of its names are lent from.
use Rattle.std.proofs.Common.{◌≡◌, ℕ, List, [], ◌++◌, Option, Some, None, ap, ap₂, codes, refl}
use Rattle.mdmp_wire.specs.declared.module.ModuleRecord.{ModuleRecord}
use Rattle.mdmp_wire.specs.declared.system.SystemRecord.{SystemRecord}
use Rattle.mdmp_lister.specs.Format.Name.{plain_name}
use Rattle.mdmp_lister.specs.declared.name.Name.{Name}
use Rattle.mdmp_lister.specs.declared.name.Name.TheVariants.{Units, Long}
use Rattle.mdmp_lister.specs.declared.name.Name.TheVariants as names
use Rattle.mdmp_summary.specs.declared.summary.Crash.{Crash}
use Rattle.mdmp_summary.specs.declared.summary.FileSummary.{FileSummary}
use Rattle.mdmp_summary.specs.declared.summary.PlaceInModule.{PlaceInModule}
use Rattle.mdmp_summary_lines.specs.CrashText.{details_text, held_text, offset_in_module, near_place_text, thread_name_text}
use Rattle.mdmp_summary_lines.specs.FileNames.{file_text}
use Rattle.mdmp_summary_lines.specs.SummaryText.{crash_or_none, named_file, program_text, summary_text, tail_text}
use Rattle.mdmp_summary_lines.specs.declared.names.SummaryNames.{SummaryNames}
use Rattle.mdmp_print.specs.Json.{prefixed_hex}
use Rattle.mdmp_engines.specs.KeptNames.{plain_names}

file-plain : (n : Name) → file_text (plain_name n) ≡ file_text n
file-plain names.None = refl
file-plain (Units units) = refl
file-plain (Long length) = refl

thread-plain : (n : Name) → thread_name_text (plain_name n) ≡ thread_name_text n
thread-plain names.None = refl
thread-plain (Units units) = refl
thread-plain (Long length) = refl

place-plain : (code : List ℕ) (near : Option PlaceInModule) (address thread : ℕ) (n : Name)
    → near_place_text code near address thread (plain_name n) ≡ near_place_text code near address thread n
place-plain code (Some near) address thread n =
    ap (λ (t : List ℕ). code ++ (codes " at " ++ (prefixed_hex 16 address ++ (codes " near " ++ (t ++ offset_in_module near thread))))) (file-plain n)
place-plain code None address thread n = refl

held-plain : (code : List ℕ) (holder : Option PlaceInModule) (crash : Crash) (n : Name)
    → held_text code holder crash (plain_name n) ≡ held_text code holder crash n
held-plain code (Some holder) crash n =
    ap (λ (t : List ℕ). code ++ (codes " at " ++ (t ++ offset_in_module holder crash.exception.fields.thread_id))) (file-plain n)
held-plain code None crash n = place-plain code crash.near crash.address crash.exception.fields.thread_id n

crash-plain : (system : Option SystemRecord) (crash : Option Crash) (n : SummaryNames)
    → crash_or_none system crash (plain_names n) ≡ crash_or_none system crash n
crash-plain system (Some crash) n =
    ap₂ (λ (a b : List ℕ). a ++ (b ++ details_text system crash.exception.fields crash.reached crash.registers))
    (held-plain _ crash.holder crash n.owner) (thread-plain n.thread)
crash-plain system None n = refl

program-plain : (program : Option ModuleRecord) (n : Name) → program_text program (plain_name n) ≡ program_text program n
program-plain (Some program) n = ap (λ (t : List ℕ). codes "\n  program " ++ (t ++ [])) (file-plain n)
program-plain None n = refl

pub summary-plain : (file : List ℕ) (s : FileSummary) (n : SummaryNames) → summary_text file s (plain_names n) ≡ summary_text file s n
summary-plain file s n =
    ap₂ (λ (a b : List ℕ). named_file file ++ (a ++ (b ++ tail_text s))) (crash-plain s.system s.crash n) (program-plain s.program n.program)
