-- What a copy answers, and what it leaves written.
use Rattle.std.specs.Prelude.{◌≡◌, ◌<◌, ◌≤◌, ◌+◌, ◌*◌, ◌⊎◌, ◌==◌, ◌||◌, ℕ, Bool, List, [], ◌∷◌, Option, Some, None, Result, Ok, Err, IfOk, IsFalse, IsTrue, nat_lt, if◌then◌else◌}
use Rattle.mdmp_source.specs.Count.{raised}
use Rattle.mdmp_source.specs.Source.{SourceState}
use Rattle.mdmp_source.specs.Output.{HasRefused, OutState, PutsAll, PutsPrefix}
use Rattle.mdmp_lister.specs.declared.choice.Choice.TheVariants.{Types}
use Rattle.mdmp_lister.specs.declared.fault.OpenFault.TheVariants.{TooShort}
use Rattle.mdmp_lister.specs.declared.fault.OpenFault.TheVariants as opening
use Rattle.mdmp_lister.specs.declared.limits.Limits.{Limits}
use Rattle.mdmp_lister.specs.Format.Kind.{is_known}
use Rattle.mdmp_lister.specs.Format.Listing.{entry_count}
use Rattle.mdmp_lister.specs.Format.Refusal.{directory_refusal}
use Rattle.mdmp_lister.specs.Meter.{KeepsTo, is_passed}
use Rattle.mdmp_lister.specs.Opening.{IsBareRefusal}
use Rattle.mdmp_dump.specs.declared.dump.Dump.{Dump}
use Rattle.mdmp_dump.specs.declared.fault.ReadFault.{ReadFault}
use Rattle.mdmp_dump.specs.declared.fault.ReadFault.TheVariants as reads
use Rattle.mdmp_dump.specs.declared.view.ViewFault.{ViewFault}
use Rattle.mdmp_dump.specs.declared.view.ViewFault.TheVariants as view
use Rattle.mdmp_dump.specs.EntryWalk.{WalkState}
use Rattle.mdmp_dump.specs.FileRefusal.{view_refusal}
use Rattle.mdmp_dump.specs.InFile.{dump_in}
use Rattle.mdmp_dump.specs.LaysOut.{LaysOut}
use Rattle.mdmp_dump.specs.Opening.{EndsOpening, FetchesWithin, HasSpentOpening, HoldsWithin, IsLimited, copy_bound, opening_bound}
use Rattle.mdmp_dump.specs.Shape.{IsViewOf, ViewShape}
use Rattle.mdmp_writer.specs.Layout.{layout_fault, shape_fault, size_answer, written_size}
use Rattle.mdmp_writer.specs.Passes.{all_asks, all_costs}
use Rattle.mdmp_writer.specs.Writing.{GoesOut}
use Rattle.mdmp_writer.specs.Written.{written}
use Rattle.mdmp_engines.specs.declared.fault.ToolFault.{ToolFault}
use Rattle.mdmp_engines.specs.declared.fault.ToolFault.TheVariants as tool
use Rattle.mdmp_engines.specs.Causes.{HasOutCause, IsListTold, IsOfFile, MayChange}
use Rattle.mdmp_engines.specs.Engines.{StopsShort}

-- ---- types

-- comments, and numbers of the process: no offsets into the file
abbrev pub is_plain_type : ℕ → Bool
is_plain_type t = t == 10 || t == 11 || t == 15

-- streams of this type are copied: unused ones, those whose records are known, plain ones, and those of users
abbrev pub is_copied : ℕ → Bool
is_copied t = t == 0 || is_known t || is_plain_type t || nat_lt 65535 t

-- the first of some types whose streams are not copied
unfoldable pub first_not_copied : List ℕ → Option ℕ
first_not_copied [] = None
first_not_copied (t ∷ ts) = if is_copied t then first_not_copied ts else Some t

-- the type that an answer refuses, or none
abbrev pub refused_type : {T : Type 0} → Result T ToolFault → Option ℕ
refused_type (Err (tool.NotCopied t)) = Some t
refused_type answer = None

-- ---- writing

-- a view of this shape was written, whatever it gives: the size, or the reason why it can't be written, is that of the shape,
-- and then nothing went out. It stops only where the output refused, or behind a fault of the view, which a reliable one has
-- not, and then the output is not at fault.
abbrev pub IsShapeCopied : ViewShape → OutState → Result ℕ ToolFault → OutState → Type 0
IsShapeCopied shape before (Ok size) after = (size_answer shape.streams ≡ Ok size) × (after.failures ≡ before.failures)
IsShapeCopied shape before (Err (tool.Layout fault)) after = (size_answer shape.streams ≡ Err fault) × (after ≡ before)
IsShapeCopied shape before (Err tool.Out) after = (shape_fault shape.streams ≡ None) × HasRefused before.failures after.failures
IsShapeCopied shape before (Err (tool.Source fault)) after =
    (shape_fault shape.streams ≡ None) × IsFalse shape.is_reliable × (after.failures ≡ before.failures)
IsShapeCopied shape before (Err fault) after = ⊥

-- a dump was copied: all its bytes went out, or a first part of them, up to a refusal of the output or to a fault of the store;
-- or nothing, where it can't be written
abbrev pub IsDumpCopied : {Z : Type 0} → Dump Z → OutState → Result ℕ ToolFault → OutState → Type 0
IsDumpCopied d before (Ok size) after = (layout_fault d ≡ None) × ((size ≡ written_size d) × PutsAll before (written d) after)
IsDumpCopied d before (Err tool.Out) after = (layout_fault d ≡ None) × PutsPrefix before (written d) after
IsDumpCopied d before (Err (tool.Source fault)) after = (layout_fault d ≡ None) × StopsShort before (written d) after
IsDumpCopied d before (Err (tool.Layout fault)) after = (layout_fault d ≡ Some fault) × (after ≡ before)
IsDumpCopied d before (Err fault) after = ⊥

-- a fault of the store that is told of a copy is the one that its view answered last
abbrev pub IsToldByView : Result ℕ ToolFault → Option ViewFault → Type 0
IsToldByView (Err (tool.Source fault)) last = last ≡ Some (view.Source fault)
IsToldByView answer last = Unit {0}

-- ---- of whatever file

-- the fault is a record's: a part outside the file, or a name that is too long
abbrev pub IsRecordRefusal : ReadFault → Type 0
IsRecordRefusal (reads.PartOutside e k part offset size) = Unit {0}
IsRecordRefusal (reads.NameTooLong e k length) = Unit {0}
IsRecordRefusal fault = ⊥

-- a file of `size` bytes that is refused may be, and what is told of it is its own: of its opening no count of ranges, of its
-- listing no fault of the store, of a record its part or its name; and nothing is read aside
abbrev pub IsCopyRefusal : ℕ → Result ℕ ToolFault → Type 0
IsCopyRefusal size (Err (tool.Opening fault)) = IsOfFile fault × IsBareRefusal size fault
IsCopyRefusal size (Err (tool.List fault)) = IsListTold size fault
IsCopyRefusal size (Err (tool.Reading fault)) = IsRecordRefusal fault
IsCopyRefusal size (Err (tool.AsideLimit offset len)) = ⊥
IsCopyRefusal size answer = Unit {0}

-- nothing went out where the file is refused, where its dump can't be written, without memory and where a type is not copied
abbrev pub IsQuietCopy : Result ℕ ToolFault → Type 0 → Type 0
IsQuietCopy (Ok size) untouched = Unit {0}
IsQuietCopy (Err tool.Out) untouched = Unit {0}
IsQuietCopy (Err (tool.Source fault)) untouched = Unit {0}
IsQuietCopy (Err fault) untouched = untouched

-- the size, or the reason why there is none, is that of some view
abbrev pub IsOfShape : ViewShape → Result ℕ ToolFault → Type 0
IsOfShape shape (Ok size) = size_answer shape.streams ≡ Ok size
IsOfShape shape (Err (tool.Layout fault)) = size_answer shape.streams ≡ Err fault
IsOfShape shape (Err tool.Out) = shape_fault shape.streams ≡ None
IsOfShape shape answer = Unit {0}

pub record HasShape (before : OutState) (answer : Result ℕ ToolFault) (after : OutState) : Type 0 where
  pub shape : ViewShape
  pub size : IsOfShape shape answer
  -- as many bytes went out as it answers, which begin with the header and the directory of that view
  pub out : IfOk answer (λ size. GoesOut shape size before after)

-- nothing was written through a view
abbrev pub IsUnopened : Result ℕ ToolFault → Type 0
IsUnopened (Ok size) = ⊥
IsUnopened (Err tool.Out) = ⊥
IsUnopened (Err (tool.Layout fault)) = ⊥
IsUnopened answer = Unit {0}

-- what was fetched for a copy: to open a view of this shape the header, the directory and what a pass over each stream costs;
-- to write it two passes more at most, and the bytes of names, parts and raw streams
pub record HasSpent (Z : Type 0) (types : List ℕ) (window : ℕ) (old : SourceState) (answer : Result ℕ ToolFault) (new : SourceState) : Type 0 where
  pub shape : ViewShape
  pub size : IsOfShape shape answer
  -- the walk under the view, which was opened over that source through a window of so many bytes
  pub walk : WalkState
  pub held : walk.held ≡ window + 12 * walk.header.number_of_streams
  pub start : walk.start ≡ old.fetched
  pub source : walk.source ≡ new
  -- how many entries the directory has
  pub entries : ℕ
  pub entries_are : entries ≡ walk.header.number_of_streams
  pub fetched : new.fetched ≤ old.fetched + (32 + 12 * entries + 3 * all_costs shape + all_asks shape)
  -- of a known file they are its own
  pub costs : (file : List ℕ) → old.store.content ≡ Some file → 32 + 12 * entries + all_costs shape ≡ opening_bound file (Types types)
  pub asks : (file : List ℕ) → old.store.content ≡ Some file → IsViewOf (dump_in {Z = Z} file (Types types)) shape

-- where nothing was written through it, no more than for the opening of one
pub data SpendsCopy (Z : Type 0) (types : List ℕ) (window : ℕ) (old : SourceState) (answer : Result ℕ ToolFault) (new : SourceState) : Type 0 where
  unopened : IsUnopened answer → HasSpentOpening (Types types) old new → SpendsCopy Z types window old answer new
  spent : HasSpent Z types window old answer new → SpendsCopy Z types window old answer new

-- ---- budgets

-- no budget is told
abbrev pub TellsNoBudget : Result ℕ ToolFault → Type 0
TellsNoBudget (Err (tool.Budget offset size)) = ⊥
TellsNoBudget (Err (tool.CopyBudget needed)) = ⊥
TellsNoBudget answer = Unit {0}

-- a copy is refused for its budget where it needs more
abbrev pub IsOverCopy : Option ℕ → Result ℕ ToolFault → Type 0
IsOverCopy budget (Err (tool.CopyBudget needed)) = IsTrue (is_passed budget needed)
IsOverCopy budget answer = Unit {0}

-- of a file whose copy may fetch so many bytes, and whose opening so many: it was copied, or begun to be, only within the
-- budget, and refused only beyond it
abbrev pub IsWithinCopy : Option ℕ → ℕ → ℕ → Result ℕ ToolFault → Type 0
IsWithinCopy budget all opened (Ok size) = KeepsTo budget all
IsWithinCopy budget all opened (Err tool.Out) = KeepsTo budget all
IsWithinCopy budget all opened (Err (tool.Layout fault)) = KeepsTo budget all
IsWithinCopy budget all opened (Err (tool.CopyBudget needed)) = IsTrue (is_passed budget all)
IsWithinCopy budget all opened (Err (tool.Budget offset size)) = IsTrue (is_passed budget opened)
IsWithinCopy budget all opened answer = Unit {0}

-- where the budget ends the opening of a view of F, it is told what it has no room for: the header, the directory, or the first stream
abbrev pub TellsPlace : Option ℕ → (window : ℕ) → List ℕ → List ℕ → Result ℕ ToolFault → Type 0
TellsPlace budget window F types (Err (tool.Budget offset size)) = EndsOpening budget window F (Types types) offset size
TellsPlace budget window F types answer = Unit {0}

-- what is told of a budget, if the file is read through a window of so many bytes; the opening of a known file is refused for it only
-- if it has no room for that, and for 16 bytes more for each entry
pub record TellsCopyBudget (Z : Type 0) (types : List ℕ) (budget : Option ℕ) (window : ℕ) (content : Option (List ℕ)) (answer : Result ℕ ToolFault) : Type 0 where
  pub unlimited : budget ≡ None → TellsNoBudget answer
  pub over : IsOverCopy budget answer
  pub of_file : (file : List ℕ) → content ≡ Some file → IsWithinCopy budget (copy_bound Z file (Types types)) (opening_bound file (Types types) + 16 * entry_count file) answer
  pub place : (file : List ℕ) → content ≡ Some file → TellsPlace budget window file types answer

-- the limit of memory is reported only if a copy would hold more. If the content is known, a copy is within it if it began, ran out of
-- memory, or met an error after the directory.
abbrev pub TellsCopyMemory : Limits → Option (List ℕ) → Result ℕ ToolFault → Type 0
TellsCopyMemory limits content (Err (tool.MemoryLimit held)) = IsLimited limits content (reads.Opening (opening.MemoryLimit held))
TellsCopyMemory limits content (Ok size) = HoldsWithin limits content
TellsCopyMemory limits content (Err tool.Memory) = HoldsWithin limits content
TellsCopyMemory limits content (Err tool.Out) = HoldsWithin limits content
TellsCopyMemory limits content (Err (tool.Layout fault)) = HoldsWithin limits content
TellsCopyMemory limits content (Err (tool.CopyBudget needed)) = HoldsWithin limits content
TellsCopyMemory limits content (Err (tool.List fault)) = HoldsWithin limits content
TellsCopyMemory limits content (Err (tool.Reading fault)) = HoldsWithin limits content
TellsCopyMemory limits content answer = Unit {0}

-- nothing was written, and no fault of the store told
abbrev pub IsRefusedFirst : Result ℕ ToolFault → Type 0
IsRefusedFirst (Err (tool.Source fault)) = ⊥
IsRefusedFirst answer = IsUnopened answer

-- what was fetched is within the budget: where nothing was written, whatever the file, and of a known file in all
pub record SpendsWithin (budget : Option ℕ) (old : SourceState) (answer : Result ℕ ToolFault) (new : SourceState) : Type 0 where
  pub refused : IsRefusedFirst answer → FetchesWithin budget old new
  pub of_file : (file : List ℕ) → old.store.content ≡ Some file → FetchesWithin budget old new

-- ---- of a file that is known

module _ (Z : Type 0) where
  -- there is no reason why F gives no view of its streams of these types; it lays out their dump, which was copied
  pub record IsCopy (F : List ℕ) (types : List ℕ) (limit : ℕ) (before : OutState) (answer : Result ℕ ToolFault) (after : OutState) : Type 0 where
    pub within : view_refusal F (Types types) limit ≡ None
    pub laid_out : LaysOut F (Types types) (dump_in {Z = Z} F (Types types))
    pub copied : IsDumpCopied (dump_in {Z = Z} F (Types types)) before answer after

  -- what an answer says of F: its dump was copied, all of it or up to a refusal of the output; or it can't be written; or there
  -- is no view of F, for the first reason. Behind a fault of the store nothing went out, or a first part of the dump. Memory
  -- was wanting, or would pass its limit, only where the header and the place of the directory are good. A copy that needs more
  -- than its budget tells how much it needs.
  abbrev pub EndsOf : List ℕ → List ℕ → ℕ → OutState → Result ℕ ToolFault → OutState → Type 0
  EndsOf F types limit before (Ok size) after = IsCopy F types limit before (Ok size) after
  EndsOf F types limit before (Err tool.Out) after = IsCopy F types limit before (Err tool.Out) after
  EndsOf F types limit before (Err (tool.Layout fault)) after = IsCopy F types limit before (Err (tool.Layout fault)) after
  EndsOf F types limit before (Err (tool.Source fault)) after = (after ≡ before) ⊎ IsCopy F types limit before (Err (tool.Source fault)) after
  EndsOf F types limit before (Err (tool.Opening fault)) after = view_refusal F (Types types) limit ≡ Some (reads.Opening fault)
  EndsOf F types limit before (Err (tool.List fault)) after = view_refusal F (Types types) limit ≡ Some (reads.List fault)
  EndsOf F types limit before (Err (tool.Reading fault)) after = view_refusal F (Types types) limit ≡ Some fault
  EndsOf F types limit before (Err (tool.Budget offset size)) after = Unit {0}
  EndsOf F types limit before (Err tool.Memory) after = directory_refusal F ≡ None
  EndsOf F types limit before (Err (tool.MemoryLimit held)) after = directory_refusal F ≡ None
  EndsOf F types limit before (Err (tool.AsideLimit offset size)) after = ⊥
  EndsOf F types limit before (Err (tool.CopyBudget needed)) after =
      (view_refusal F (Types types) limit ≡ None) × (needed ≡ raised 0 (copy_bound Z F (Types types)))
  EndsOf F types limit before (Err (tool.NotCopied t)) after = Unit {0}

  -- a copy of the streams of these types out of a store of `file_size` bytes, whose content may be known
  pub record Copies (content : Option (List ℕ)) (file_size : ℕ) (types : List ℕ) (limit : ℕ) (before : OutState) (answer : Result ℕ ToolFault)
      (after : OutState) : Type 0 where
    -- a type is refused exactly where one of them is not copied, and then the first of those
    pub refuses : first_not_copied types ≡ refused_type answer
    -- else a file that is too short is told as that
    pub short : file_size < 32 → first_not_copied types ≡ None → answer ≡ Err (tool.Opening (TooShort file_size))
    pub refusal : IsCopyRefusal file_size answer
    pub quiet : IsQuietCopy answer (after ≡ before)
    pub out_cause : HasOutCause before answer after
    pub changed : MayChange content answer
    pub of_shape : HasShape before answer after
    pub of_file : (file : List ℕ) → content ≡ Some file → EndsOf file types limit before answer after
