-- The first part of an object does not depend on where the units of its names are lent from.
use Rattle.std.proofs.Common.{◌≡◌, ◌∙◌, ℕ, List, [], ◌∷◌, ◌++◌, Option, Some, None, ap, ap₂, codes, refl}
use Rattle.std.specs.List.{concat}
use Rattle.mdmp_wire.specs.declared.module.ModuleRecord.{ModuleRecord}
use Rattle.mdmp_wire.specs.declared.system.SystemRecord.{SystemRecord}
use Rattle.mdmp_lister.specs.Format.Name.{plain_name}
use Rattle.mdmp_lister.specs.declared.name.Name.{Name}
use Rattle.mdmp_lister.specs.declared.name.Name.TheVariants as names
use Rattle.mdmp_summary.specs.declared.summary.Crash.{Crash}
use Rattle.mdmp_summary.specs.declared.summary.FileSummary.{FileSummary}
use Rattle.mdmp_summary.specs.declared.summary.PlaceInModule.{PlaceInModule}
use Rattle.mdmp_summary_lines.specs.JsonCrash.{crash_addresses_text, crash_code_text, crash_object_text, place_object_text}
use Rattle.mdmp_summary_lines.specs.JsonHead.{file_member_text, health_members_text, program_object_text, summary_head_text, time_and_system_text}
use Rattle.mdmp_summary_lines.specs.JsonText.{name_string}
use Rattle.mdmp_summary_lines.specs.declared.names.SummaryNames.{SummaryNames}
use Rattle.mdmp_engines.proofs.ObjectIds.{name_plain}
use Rattle.mdmp_engines.specs.KeptNames.{plain_names}

place-plain : (place : Option PlaceInModule) (n : Name) → place_object_text place (plain_name n) ≡ place_object_text place n
place-plain (Some place) names.None = refl
place-plain (Some place) (names.Units units) = refl
place-plain (Some place) (names.Long length) = refl
place-plain None n = refl

program-plain : (program : Option ModuleRecord) (n : Name) → program_object_text program (plain_name n) ≡ program_object_text program n
program-plain (Some program) names.None = refl
program-plain (Some program) (names.Units units) = refl
program-plain (Some program) (names.Long length) = refl
program-plain None n = refl

crash-plain : (system : Option SystemRecord) (crash : Option Crash) (owner thread : Name)
    → crash_object_text system crash (plain_name owner) (plain_name thread) ≡ crash_object_text system crash owner thread
crash-plain system (Some crash) owner thread =
    ap (λ (t : List ℕ). (crash_code_text system crash.exception.fields ++ (t ++ crash_addresses_text crash)) ++ (place_object_text crash.holder (plain_name owner) ++ (codes ",\"near\":" ++ (place_object_text crash.near (plain_name owner) ++ codes "}")))) (name_plain thread)
    ∙ ap₂ (λ (a b : List ℕ). (crash_code_text system crash.exception.fields ++ (name_string thread ++ crash_addresses_text crash)) ++ (a ++ (codes ",\"near\":" ++ (b ++ codes "}")))) (place-plain crash.holder owner) (place-plain crash.near owner)
crash-plain system None owner thread = refl

pub head-plain : (file : List ℕ) (s : FileSummary) (n : SummaryNames) → summary_head_text file s (plain_names n) ≡ summary_head_text file s n
head-plain file s n =
    ap₂ (λ (a b : List ℕ). file_member_text file ++ (concat (time_and_system_text s.header.time_date_stamp s.system ∷ codes ",\"crash\":" ∷ a ∷ codes ",\"program\":" ∷ []) ++ (b ++ health_members_text s)))
    (crash-plain s.system s.crash n.owner n.thread) (program-plain s.program n.program)
