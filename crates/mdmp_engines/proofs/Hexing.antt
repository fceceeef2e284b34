-- A run of `hex`, from its parts.
use Rattle.std.proofs.Common.{◌≡◌, [], ℕ, List, Some, None, ap}
use Rattle.std.specs.Prelude.{Result, Ok, Err}
use Rattle.mdmp_map.specs.declared.range.Range.{Range}
use Rattle.mdmp_source.specs.Output.{OutState}
use Rattle.mdmp_source.specs.OutputLaws.{PutsAll-nothing}
use Rattle.mdmp_lister.specs.declared.fault.FaultKind.{FaultKind}
use Rattle.mdmp_lister.specs.declared.fault.FaultKind.TheVariants as kinds
use Rattle.mdmp_lister.specs.declared.fault.ListFault.{ListFault}
use Rattle.mdmp_lister.specs.Fault.{IsUnobtained}
use Rattle.mdmp_lister.specs.Format.Listing.{Run}
use Rattle.mdmp_lister.specs.Format.Ranges.{ranges_of}
use Rattle.mdmp_engines.specs.declared.fault.ToolFault.{ToolFault}
use Rattle.mdmp_engines.specs.declared.fault.ToolFault.TheVariants.{List as BadList, Source, Out, Memory}
use Rattle.mdmp_engines.proofs.Engining.{StopsShort-none, StopsShort-nothing}
use Rattle.mdmp_engines.specs.HexRuns.{HexesMemory, HexesRun, run_hex_text}
use Rattle.mdmp_print.specs.HexText.{hex_text}
use Rattle.mdmp_engines.specs.Telling.{listing_told, told_by}

-- what was printed by the ranges of all items
pub HexesRun-printed : (F : List ℕ) (ranges : List Range) (left : Run) (address count : ℕ) (before after : OutState) (r : Result (Unit {0}) ToolFault) → left.fault ≡ None → ranges ≡ ranges_of left.items
    → HexesMemory F ranges address count before r after → HexesRun F left address count before r after
HexesRun-printed F ranges left address count before after r none same puts = by r puts where
  whole : hex_text F ranges address count ≡ run_hex_text F left address count
  whole = rw none (ap (λ (x : List Range). hex_text F x address count) same)

  by : (r : Result (Unit {0}) ToolFault) → HexesMemory F ranges address count before r after → HexesRun F left address count before r after
  by (Ok x) puts = record { ends = none; writes = rw (← whole) puts }
  by (Err Out) puts = record { ends = none; writes = rw (← whole) puts }
  by (Err (Source fault)) puts = record { ends = tt; writes = StopsShort-none before after puts }
  by (Err fault) puts = absurd puts

-- the run has a fault, or the store has one: nothing is written
HexesRun-told : (F : List ℕ) (left : Run) (address count : ℕ) (before : OutState) (fault : ListFault) (kind : FaultKind) → ((IsUnobtained kind → ⊥) → left.fault ≡ Some fault)
    → HexesRun F left address count before (Err (told_by kind fault)) before
HexesRun-told F left address count before fault kind ends = by kind ends where
  faulty : left.fault ≡ Some fault → HexesRun F left address count before (Err (BadList fault)) before
  faulty is = record { ends = is; writes = rw is (PutsAll-nothing before) }

  by : (kind : FaultKind) → ((IsUnobtained kind → ⊥) → left.fault ≡ Some fault) → HexesRun F left address count before (Err (told_by kind fault)) before
  by (kinds.Source f) ends = record { ends = tt; writes = StopsShort-nothing before [] }
  by kinds.Budget ends = record { ends = tt; writes = StopsShort-nothing before [] }
  by kinds.StreamOutside ends = faulty (ends (λ x. x))
  by kinds.ShortStream ends = faulty (ends (λ x. x))
  by kinds.BadHeaderSize ends = faulty (ends (λ x. x))
  by kinds.BadEntrySize ends = faulty (ends (λ x. x))
  by kinds.BadCount ends = faulty (ends (λ x. x))
  by kinds.NameLengthOutside ends = faulty (ends (λ x. x))
  by kinds.NameOdd ends = faulty (ends (λ x. x))
  by kinds.NameUnitsOutside ends = faulty (ends (λ x. x))

pub HexesRun-faulty : (F : List ℕ) (left : Run) (address count : ℕ) (before : OutState) (fault : ListFault) → ((IsUnobtained fault.kind → ⊥) → left.fault ≡ Some fault)
    → HexesRun F left address count before (Err (listing_told fault)) before
HexesRun-faulty F left address count before fault = HexesRun-told F left address count before fault fault.kind

-- there was no memory for the bytes
pub HexesRun-wanting : (F : List ℕ) (left : Run) (address count : ℕ) (before : OutState) → left.fault ≡ None → HexesRun F left address count before (Err Memory) before
HexesRun-wanting F left address count before none = record { ends = none; writes = PutsAll-nothing before }
