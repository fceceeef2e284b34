-- What a run of `list` answers, and what it leaves written.
use Rattle.std.specs.Prelude.{◌≡◌, ◌<◌, ◌≤◌, ◌+◌, ◌++◌, ℕ, Bool, true, false, List, Option, None, Some, Result, Ok, Err, IfOk, length, take}
use Rattle.std.specs.Option.{option_map}
use Rattle.mdmp_source.specs.Count.{raised}
use Rattle.mdmp_source.specs.Output.{OutState, PutsAll, PutsPrefix}
use Rattle.mdmp_lister.specs.declared.choice.Choice.TheVariants.{All}
use Rattle.mdmp_lister.specs.Format.Listing.{Run, listing, nothing, only_fault}
use Rattle.mdmp_lister.specs.Lister.{ListerState, tail}
use Rattle.mdmp_lister.specs.Sink.{names_of_all}
use Rattle.mdmp_summary.specs.InEntry.{StandsInChosen}
use Rattle.mdmp_engines.specs.declared.fault.ToolFault.{ToolFault}
use Rattle.mdmp_engines.specs.declared.fault.ToolFault.TheVariants.{List as BadList, Source, Budget, AsideLimit, Out}
use Rattle.mdmp_wire.specs.declared.header.Header.{Header}
use Rattle.mdmp_lister.specs.declared.item.Item.{Item}
use Rattle.mdmp_lister.specs.Requested.{IsRequested, OnlyReadsAside}
use Rattle.mdmp_engines.specs.Causes.{EndsByBudget, KeepsAside}
use Rattle.mdmp_engines.specs.Engines.{Runs, RunsThrough, StopsShort, WritesText, up_to_a_fault}
use Rattle.mdmp_engines.specs.ReadThrough.{HasRequested, IsSameRun}
use Rattle.mdmp_print.specs.Forms.{dump_line_in}
use Rattle.mdmp_print.specs.declared.form.LineForm.{LineForm}
use Rattle.mdmp_engines.specs.Symbols.{IsRecordAmong, IsRecordAt, symbols_bytes, symbols_read, symbols_taken, taken_bytes}
use Rattle.mdmp_engines.specs.declared.list.ModuleSymbols.{ModuleSymbols}
use Rattle.mdmp_engines.specs.Text.{run_text, list_text, next_lines}

-- what may end the printing of a run: its fault, or none; the store's, the budget's or the output's; or the limit of what is read of
-- CodeView records, which is told of one of its items
abbrev pub ListEnds : Bool → ℕ → Run → Result (Unit {0}) ToolFault → Type 0
ListEnds pdb limit run (Ok x) = run.fault ≡ None
ListEnds pdb limit run (Err (BadList fault)) = run.fault ≡ Some fault
ListEnds pdb limit run (Err (Source fault)) = Unit {0}
ListEnds pdb limit run (Err (Budget offset size)) = Unit {0}
ListEnds pdb limit run (Err (AsideLimit offset size)) = IsRecordAmong pdb limit run.items offset size
ListEnds pdb limit run (Err Out) = Unit {0}
ListEnds pdb limit run (Err fault) = ⊥

-- the items of a run over F were printed, all of them up to its fault or none
pub record ListsRun (form : LineForm) (pdb : Bool) (F : List ℕ) (limit : ℕ) (run : Run) (before : OutState) (answer : Result (Unit {0}) ToolFault) (after : OutState) : Type 0 where
  pub ends : ListEnds pdb limit run answer
  pub writes : WritesText up_to_a_fault (run_text form pdb F limit run) before answer after

-- the same behind the line of a header
pub record ListsFile (form : LineForm) (pdb : Bool) (F : List ℕ) (limit : ℕ) (h : Header) (run : Run) (before : OutState) (answer : Result (Unit {0}) ToolFault)
    (after : OutState) : Type 0 where
  pub ends : ListEnds pdb limit run answer
  pub writes : WritesText up_to_a_fault (dump_line_in form h ++ run_text form pdb F limit run) before answer after

-- the line of a CodeView record was printed; or its bytes were not read, and nothing was; or the output refused in it
abbrev pub PutsSymbols : ℕ → Option ModuleSymbols → List ℕ → OutState → Result (Unit {0}) ToolFault → OutState → Type 0
PutsSymbols limit symbols text before (Ok x) after = PutsAll before text after
PutsSymbols limit symbols text before (Err (Source fault)) after = after ≡ before
PutsSymbols limit symbols text before (Err (AsideLimit offset size)) after = IsRecordAt limit symbols offset size × (after ≡ before)
PutsSymbols limit symbols text before (Err Out) after = PutsPrefix before text after
PutsSymbols limit symbols text before (Err fault) after = ⊥

-- of what is left of a run over F the lines of its next item were printed; or nothing was, since no item is left, the fault
-- stands there or the budget was reached; or the store failed or the output refused in these lines
abbrev pub ListsNext : LineForm → Bool → List ℕ → ℕ → Run → OutState → Result Bool ToolFault → OutState → Type 0
ListsNext form pdb F limit left before (Ok true) after = (0 < length left.items) × PutsAll before (next_lines form pdb F limit left) after
ListsNext form pdb F limit left before (Ok false) after = (left ≡ nothing) × (after ≡ before)
ListsNext form pdb F limit left before (Err (BadList fault)) after = (left ≡ only_fault fault) × (after ≡ before)
ListsNext form pdb F limit left before (Err (Source fault)) after = StopsShort before (next_lines form pdb F limit left) after
ListsNext form pdb F limit left before (Err (Budget offset size)) after = after ≡ before
ListsNext form pdb F limit left before (Err (AsideLimit offset size)) after = IsRecordAmong pdb limit (take 1 left.items) offset size × StopsShort before (next_lines form pdb F limit left) after
ListsNext form pdb F limit left before (Err Out) after = PutsPrefix before (next_lines form pdb F limit left) after
ListsNext form pdb F limit left before (Err fault) after = ⊥

-- and one item fewer is left
pub record IsBehindNext (old new : ListerState) : Type 0 where
  pub left : new.left ≡ option_map tail old.left
  pub going : new.stop ≡ None
  pub falls : new.work < old.work
  pub stands : StandsInChosen old → StandsInChosen new

-- what giving the next item reads beside the listing: its CodeView record, if such are told
pub record ReadsNext (pdb : Bool) (old new : ListerState) : Type 0 where
  pub most : new.counts.aside.bytes ≤ old.counts.aside.bytes + (24 + old.limit)
  pub none : pdb ≡ false → new.counts.aside.bytes ≤ old.counts.aside.bytes
  pub known : (left : Run) → old.left ≡ Some left → new.counts.aside.bytes ≤ old.counts.aside.bytes + symbols_bytes pdb old.limit (take 1 left.items)

-- that item was given by a request within the budget, with what was read aside behind it; or there was none to give
abbrev pub RequestsNext : ListerState → Result Bool ToolFault → ListerState → Type 0
RequestsNext old (Ok true) new = (x : Item) × ((m : ListerState) × (IsRequested old x m × OnlyReadsAside m new))
RequestsNext old (Ok false) new = HasRequested {T = Bool} old (Ok false) new
RequestsNext old (Err fault) new = HasRequested {T = Bool} old (Err fault) new

-- a list that ends by a fault of the listing has read nothing beside it, and one that ends by the limit of what is read aside nothing
-- of the CodeView record that it tells
abbrev pub RestsAside : {T : Type 0} → ListerState → Result T ToolFault → ListerState → Type 0
RestsAside old (Err (BadList fault)) new = new.counts.aside ≡ old.counts.aside
RestsAside old (Err (AsideLimit offset size)) new = new.counts.aside ≡ old.counts.aside
RestsAside old answer new = Unit {0}

-- no more than that was read of a CodeView record; and what was read of one of a known file was counted, unless the list ended there
pub record ReadsSymbols {T : Type 0} (limit : ℕ) (symbols : Option ModuleSymbols) (old : ListerState) (answer : Result T ToolFault) (new : ListerState) : Type 0 where
  pub most : new.counts.aside.bytes ≤ old.counts.aside.bytes + symbols_read limit symbols
  pub rests : RestsAside old answer new
  pub taken : (file : List ℕ) → old.source.store.content ≡ Some file → IfOk answer (λ _. raised old.counts.aside.bytes (symbols_taken file limit symbols) ≤ new.counts.aside.bytes)

-- what giving the next item reads, for the listing and beside it
pub record ReadsRequested (pdb : Bool) (old : ListerState) (answer : Result Bool ToolFault) (new : ListerState) : Type 0 where
  pub beside : ReadsNext pdb old new
  pub requests : RequestsNext old answer new
  pub rests : RestsAside old answer new
  pub taken : (file : List ℕ) → old.source.store.content ≡ Some file → (left : Run) → old.left ≡ Some left
      → IfOk answer (λ _. raised old.counts.aside.bytes (taken_bytes file pdb old.limit (take 1 left.items)) ≤ new.counts.aside.bytes)

-- how many names were reached then: those of the item, and where there is a fault maybe one
abbrev pub NamesNext : Run → Result Bool ToolFault → ℕ → ℕ → Type 0
NamesNext left (Ok more) old new = new ≡ old + names_of_all (take 1 left.items)
NamesNext left (Err fault) old new = new ≤ old + names_of_all (take 1 left.items) + 1

-- and giving all that is left
pub record ReadsLeft (pdb : Bool) (old new : ListerState) : Type 0 where
  pub none : pdb ≡ false → new.counts.aside.bytes ≤ old.counts.aside.bytes
  pub known : (left : Run) → old.left ≡ Some left → new.counts.aside.bytes ≤ old.counts.aside.bytes + symbols_bytes pdb old.limit left.items

-- how the lines of all items that are left leave their lister: the same run, which kept to its limits, and no more names than its
-- items have and one more
pub record LeavesLines {T : Type 0} (pdb : Bool) (most : Option ℕ) (old : ListerState) (result : Result T ToolFault) (new : ListerState) : Type 0 where
  pub same : IsSameRun old new
  pub over : EndsByBudget old result new
  pub aside : KeepsAside most result new
  pub read : ReadsLeft pdb old new
  pub requests : HasRequested old result new
  pub names : (left : Run) → old.left ≡ Some left → new.counts.names ≤ old.counts.names + names_of_all left.items + 1

-- a run of `list` over F, of which the text is printed while it is read: with `pdb` the CodeView records of modules are told
abbrev pub Lists : LineForm → Bool → List ℕ → ℕ → OutState → Result (Unit {0}) ToolFault → OutState → Type 0
Lists form pdb F limit = Runs F All (ListEnds pdb limit (listing F All limit)) up_to_a_fault (list_text form pdb F limit)

-- the same through blocks
abbrev pub ListsThrough : LineForm → Bool → List ℕ → ℕ → OutState → Result (Unit {0}) ToolFault → OutState → Type 0
ListsThrough form pdb F limit = RunsThrough F All (ListEnds pdb limit (listing F All limit)) up_to_a_fault (list_text form pdb F limit)
