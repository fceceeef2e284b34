-- What a run of `hex` answers, and what it leaves written.
use Rattle.std.specs.Prelude.{◌≡◌, ℕ, List, [], Option, Some, None, Result, Ok, Err}
use Rattle.mdmp_map.specs.declared.range.Range.{Range}
use Rattle.mdmp_source.specs.Output.{OutState, PutsAll, PutsPrefix}
use Rattle.mdmp_lister.specs.declared.fault.ListFault.{ListFault}
use Rattle.mdmp_lister.specs.Format.Listing.{Run, listing, memory_lists}
use Rattle.mdmp_lister.specs.Format.Refusal.{opening_fault}
use Rattle.mdmp_lister.specs.Format.Ranges.{ranges_of}
use Rattle.mdmp_engines.specs.declared.fault.ToolFault.{ToolFault}
use Rattle.mdmp_engines.specs.declared.fault.ToolFault.TheVariants.{List as BadList, Source, Budget, Out, Memory}
use Rattle.mdmp_engines.specs.Engines.{Runs, RunsThrough, WritesText, at_the_end, unless_refused}
use Rattle.mdmp_print.specs.HexText.{hex_text}

-- the text of so many addresses by some ranges was written; where the store failed nothing was
abbrev pub HexesMemory : List ℕ → List Range → ℕ → ℕ → OutState → Result (Unit {0}) ToolFault → OutState → Type 0
HexesMemory F ranges address length before (Ok _) after = PutsAll before (hex_text F ranges address length) after
HexesMemory F ranges address length before (Err (Source fault)) after = PutsAll before [] after
HexesMemory F ranges address length before (Err Out) after = PutsPrefix before (hex_text F ranges address length) after
HexesMemory F ranges address length before (Err _) after = ⊥

-- what may end the printing of the bytes by the ranges of a run: they are printed only if the run has no fault, and only then memory is
-- taken for them
abbrev pub HexEnds : Run → Result (Unit {0}) ToolFault → Type 0
HexEnds run (Ok x) = run.fault ≡ None
HexEnds run (Err (BadList fault)) = run.fault ≡ Some fault
HexEnds run (Err (Source fault)) = Unit {0}
HexEnds run (Err (Budget offset size)) = Unit {0}
HexEnds run (Err Memory) = run.fault ≡ None
HexEnds run (Err Out) = run.fault ≡ None
HexEnds run (Err fault) = ⊥

-- a text that is printed where a listing has no fault
abbrev pub unless_faulty : Option ListFault → List ℕ → List ℕ
unless_faulty None text = text
unless_faulty (Some fault) text = []

-- the bytes of F at so many addresses from this one on, by the ranges of a run that has no fault
abbrev pub run_hex_text : List ℕ → Run → ℕ → ℕ → List ℕ
run_hex_text F run address length = unless_faulty run.fault (hex_text F (ranges_of run.items) address length)

-- the bytes were printed by the ranges of a run, unless it has a fault
pub record HexesRun (F : List ℕ) (run : Run) (address length : ℕ) (before : OutState) (answer : Result (Unit {0}) ToolFault) (after : OutState) : Type 0 where
  pub ends : HexEnds run answer
  pub writes : WritesText at_the_end (run_hex_text F run address length) before answer after

-- all that is printed of F: nothing where it is refused, or its memory lists have a fault
abbrev pub file_hex_text : List ℕ → ℕ → ℕ → ℕ → List ℕ
file_hex_text F limit address length = unless_refused (opening_fault F memory_lists) (run_hex_text F (listing F memory_lists limit) address length)

-- a run of `hex` over F, of which no text is printed before all is read
abbrev pub Hexes : List ℕ → ℕ → ℕ → ℕ → OutState → Result (Unit {0}) ToolFault → OutState → Type 0
Hexes F limit address length = Runs F memory_lists (HexEnds (listing F memory_lists limit)) at_the_end (file_hex_text F limit address length)

-- the same through blocks
abbrev pub HexesThrough : List ℕ → ℕ → ℕ → ℕ → OutState → Result (Unit {0}) ToolFault → OutState → Type 0
HexesThrough F limit address length = RunsThrough F memory_lists (HexEnds (listing F memory_lists limit)) at_the_end (file_hex_text F limit address length)
