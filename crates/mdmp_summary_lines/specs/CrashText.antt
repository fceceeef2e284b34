-- The lines of a crash.
use Rattle.std.specs.Prelude.{ℕ, ◌==◌, List, [], ◌∷◌, ◌++◌, Option, Some, None, codes, false, length, if◌then◌else◌}
use Rattle.std.specs.List.{concat}
use Rattle.std.specs.Fmt.{decimal, digits}
use Rattle.mdmp_wire.specs.declared.exception.ExceptionRecord.{ExceptionRecord}
use Rattle.mdmp_wire.specs.declared.system.SystemRecord.{SystemRecord}
use Rattle.mdmp_wire.specs.Units.{units_in}
use Rattle.mdmp_lister.specs.declared.name.Name.{Name}
use Rattle.mdmp_lister.specs.declared.name.Name.TheVariants.{Units, Long}
use Rattle.mdmp_lister.specs.declared.name.Name.TheVariants as names
use Rattle.mdmp_print.specs.ItemLines.{name_text}
use Rattle.mdmp_print.specs.Json.{prefixed_hex}
use Rattle.mdmp_summary.specs.declared.context.Registers.{Registers}
use Rattle.mdmp_summary.specs.declared.reach.AccessKind.{AccessKind}
use Rattle.mdmp_summary.specs.declared.reach.AccessKind.TheVariants.{Execute, Read, Unknown, Write}
use Rattle.mdmp_summary.specs.declared.reach.Reached.{Reached}
use Rattle.mdmp_summary.specs.declared.summary.Crash.{Crash}
use Rattle.mdmp_summary.specs.declared.summary.PlaceInModule.{PlaceInModule}
use Rattle.mdmp_summary_lines.specs.FileNames.{file_text}
use Rattle.mdmp_summary_lines.specs.NumberWords.{code_text, flags_text}

-- `0x` and hexadecimal digits without zeros in front
abbrev pub short_hex : ℕ → List ℕ
short_hex n = codes "0x" ++ digits 16 false n

-- ---- what crashed where

-- `+<offset>, thread <id>`, behind the name of a module
abbrev pub offset_in_module : PlaceInModule → ℕ → List ℕ
offset_in_module place thread = concat (codes "+" ∷ short_hex place.offset ∷ codes ", thread " ∷ decimal thread ∷ [])

-- `<code> at <address> near <module>+<offset>, thread <id>`, or no module if none is near
abbrev pub near_place_text : List ℕ → Option PlaceInModule → (address thread : ℕ) → Name → List ℕ
near_place_text code (Some near) address thread owner =
    code ++ (codes " at " ++ (prefixed_hex 16 address ++ (codes " near " ++ (file_text owner ++ offset_in_module near thread))))
near_place_text code None address thread owner = concat (code ∷ codes " at " ∷ prefixed_hex 16 address ∷ codes ", thread " ∷ decimal thread ∷ [])

-- of a crash that no module holds
abbrev pub near_text : List ℕ → Crash → Name → List ℕ
near_text code crash owner = near_place_text code crash.near crash.address crash.exception.fields.thread_id owner

-- `<code> at <module>+<offset>, thread <id>` if a module holds the address that ran
abbrev pub held_text : List ℕ → Option PlaceInModule → Crash → Name → List ℕ
held_text code (Some holder) crash owner =
    code ++ (codes " at " ++ (file_text owner ++ offset_in_module holder crash.exception.fields.thread_id))
held_text code None crash owner = near_text code crash owner

abbrev pub headline_text : Option SystemRecord → Crash → Name → List ℕ
headline_text system crash owner = held_text (code_text system crash.exception.fields.exception_code) crash.holder crash owner

-- the name of the thread in double quotes, if it has one that was read and is not empty
abbrev pub thread_name_text : Name → List ℕ
thread_name_text (Units units) = if length (units_in units) == 0 then [] else codes " " ++ (name_text (Units units) ++ [])
thread_name_text names.None = []
thread_name_text (Long length) = []

-- ---- how

abbrev pub access_text : AccessKind → List ℕ
access_text Read = codes " by a read"
access_text Write = codes " by a write"
access_text Execute = codes " by execution"
access_text Unknown = []

abbrev pub reached_text : Option Reached → List ℕ
reached_text (Some reached) = concat (codes "\n  reached " ∷ prefixed_hex 16 reached.address ∷ access_text reached.access ∷ [])
reached_text None = []

abbrev pub registers_text : Option Registers → List ℕ
registers_text (Some registers) = concat (
    codes " instruction " ∷ prefixed_hex 16 registers.instruction
    ∷ codes " stack " ∷ prefixed_hex 16 registers.stack
    ∷ codes " frame " ∷ prefixed_hex 16 registers.frame ∷ [])
registers_text None = []

-- the lines of the code and the flags, of what was reached, and of the address and the registers
abbrev pub details_text : Option SystemRecord → ExceptionRecord → Option Reached → Option Registers → List ℕ
details_text system fields reached registers = concat (
    codes "\n  code " ∷ prefixed_hex 8 fields.exception_code
    ∷ codes " flags " ∷ prefixed_hex 8 fields.exception_flags ∷ flags_text system fields.exception_code fields.exception_flags
    ∷ reached_text reached
    ∷ codes "\n  address " ∷ prefixed_hex 16 fields.exception_address ∷ registers_text registers ∷ [])

-- what crashed where, in which thread, and how
abbrev pub crash_text : Option SystemRecord → Crash → (owner thread : Name) → List ℕ
crash_text system crash owner thread =
    headline_text system crash owner ++ (thread_name_text thread ++ details_text system crash.exception.fields crash.reached crash.registers)
