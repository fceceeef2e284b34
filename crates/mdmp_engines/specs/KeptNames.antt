-- The names of a summary, as they are read from a file.
use Rattle.std.specs.Prelude.{◌≡◌, ℕ, ◌+◌, List, length, Option, Some, None, Result, Ok, Err}
use Rattle.mdmp_source.specs.Source.{IsTold, SourceState}
use Rattle.mdmp_wire.specs.Units.{units_over}
use Rattle.mdmp_wire.specs.declared.module.ModuleRecord.{ModuleRecord}
use Rattle.mdmp_wire.specs.declared.thread_name.ThreadNameRecord.{ThreadNameRecord}
use Rattle.mdmp_lister.specs.Format.Name.{name_at, plain_name}
use Rattle.mdmp_lister.specs.Walker.{WalkerState}
use Rattle.mdmp_lister.specs.declared.fault.Fault.{Fault}
use Rattle.mdmp_lister.specs.declared.meter.Amount.{Amount}
use Rattle.mdmp_lister.specs.declared.name.Name.{Name}
use Rattle.mdmp_lister.specs.declared.name.Name.TheVariants as names
use Rattle.mdmp_summary.specs.Spending.{ReadsOutside}
use Rattle.mdmp_summary.specs.declared.summary.Crash.{Crash}
use Rattle.mdmp_summary.specs.declared.summary.FileSummary.{FileSummary}
use Rattle.mdmp_summary.specs.declared.summary.PlaceInModule.{PlaceInModule}
use Rattle.mdmp_summary_lines.specs.declared.names.SummaryNames.{SummaryNames}
use Rattle.mdmp_engines.specs.declared.fault.ToolFault.{ToolFault}
use Rattle.mdmp_engines.specs.declared.fault.ToolFault.TheVariants as tool
use Rattle.mdmp_engines.specs.declared.kept_name.KeptName.{KeptName}
use Rattle.mdmp_engines.specs.declared.kept_name.KeptName.TheVariants as kept
use Rattle.mdmp_engines.specs.declared.kept_name.KeptNames.{KeptNames}

-- ---- names at RVAs

-- a name that is not good is none. A record that is listed has a good one
abbrev pub good_name : Result Name Fault → Name
good_name (Ok name) = name
good_name (Err fault) = names.None

-- the name at an RVA of F, where one of more than `limit` bytes is told by its length
abbrev pub told_name : List ℕ → (limit rva : ℕ) → Name
told_name F limit rva = good_name (name_at F rva limit)

-- no name stands at 0
abbrev pub module_rva : Option ModuleRecord → ℕ
module_rva (Some m) = m.module_name_rva
module_rva None = 0

-- of the module that holds the address that ran, or else of the nearest one
abbrev pub place_rva : (holder near : Option PlaceInModule) → ℕ
place_rva (Some holder) near = holder.fields.module_name_rva
place_rva None (Some near) = near.fields.module_name_rva
place_rva None None = 0

abbrev pub crash_rva : Option Crash → ℕ
crash_rva (Some crash) = place_rva crash.holder crash.near
crash_rva None = 0

abbrev pub name_record_rva : Option ThreadNameRecord → ℕ
name_record_rva (Some record_of) = record_of.rva_of_thread_name
name_record_rva None = 0

abbrev pub thread_rva : Option Crash → ℕ
thread_rva (Some crash) = name_record_rva crash.thread_name
thread_rva None = 0

-- the names that a summary of F tells
abbrev pub told_names : List ℕ → ℕ → FileSummary → SummaryNames
told_names F limit summary = record {
  program = told_name F limit (module_rva summary.program);
  owner = told_name F limit (crash_rva summary.crash);
  thread = told_name F limit (thread_rva summary.crash);
}

-- ---- names that are kept

abbrev pub kept_name : {Z : Type 0} → KeptName Z → Name
kept_name kept.None = names.None
kept_name (kept.Units units) = names.Units (units_over units.bytes.items)
kept_name (kept.Long length) = names.Long length

abbrev pub kept_names : {Z : Type 0} → KeptNames Z → SummaryNames
kept_names k = record { program = kept_name k.program; owner = kept_name k.owner; thread = kept_name k.thread }

-- names, whatever place their units are lent from
abbrev pub plain_names : SummaryNames → SummaryNames
plain_names n = record { program = plain_name n.program; owner = plain_name n.owner; thread = plain_name n.thread }

-- ---- what is read for them

-- how many bytes are read for a name at most: its length, and its own if it is kept
abbrev pub name_bytes : Name → ℕ
name_bytes names.None = 4
name_bytes (names.Units units) = 4 + length units.bytes.now
name_bytes (names.Long length) = 4

-- for the three of a summary
abbrev pub told_bytes : SummaryNames → ℕ
told_bytes n = name_bytes n.program + (name_bytes n.owner + name_bytes n.thread)

-- and for three names of at most `limit` bytes
abbrev pub names_room : ℕ → ℕ
names_room limit = 4 + limit + (4 + limit + (4 + limit))

-- what a name costs whose reading ended so
abbrev pub kept_name_cost : {Z : Type 0} → ℕ → Result (KeptName Z) ToolFault → Amount
kept_name_cost limit (Ok kept) = record { bytes = name_bytes (kept_name kept); calls = 2 }
kept_name_cost limit (Err fault) = record { bytes = 4 + limit; calls = 2 }

-- three names of so many bytes together
abbrev pub names_cost : ℕ → Amount
names_cost bytes = record { bytes = bytes; calls = 6 }

-- the names of a summary were read: at most three of `limit` bytes, and of a known file those that it tells
pub record ReadsNames (limit : ℕ) (told : List ℕ → SummaryNames) (old new : WalkerState) : Type 0 where
  pub most : ReadsOutside (names_cost (names_room limit)) old new
  pub all : (file : List ℕ) → old.list.source.store.content ≡ Some file → ReadsOutside (names_cost (told_bytes (told file))) old new

-- or one was not
abbrev pub EndsNames : {T : Type 0} → ℕ → (List ℕ → SummaryNames) → Result T ToolFault → WalkerState → WalkerState → Type 0
EndsNames limit told (Ok kept) old new = ReadsNames limit told old new
EndsNames limit told (Err fault) old new = ReadsOutside (names_cost (names_room limit)) old new

-- memory ran out, or the store failed since
abbrev pub IsNameFault : SourceState → SourceState → ToolFault → Type 0
IsNameFault old new tool.Memory = Unit {0}
IsNameFault old new (tool.Source fault) = IsTold fault old new
IsNameFault old new fault = ⊥
