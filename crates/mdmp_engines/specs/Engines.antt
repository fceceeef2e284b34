-- What every command over a listing promises, whatever it prints.
use Rattle.std.specs.Prelude.{◌≡◌, ◌≢◌, ◌<◌, ◌+◌, ◌⊎◌, ◌++◌, ℕ, List, [], Option, Some, None, Result, Ok, Err}
use Rattle.mdmp_source.specs.Output.{HasRefused, OutState, PutsAll, PutsPrefix, TakesPrefix, refused_once}
use Rattle.mdmp_source.specs.Source.{SourceState, FetchesSome}
use Rattle.mdmp_source.specs.Store.{StoreState, IsGood}
use Rattle.mdmp_lister.specs.declared.choice.Choice.{Choice}
use Rattle.mdmp_lister.specs.declared.fault.OpenFault.{OpenFault}
use Rattle.mdmp_lister.specs.declared.fault.OpenFault.TheVariants.{TooShort}
use Rattle.mdmp_lister.specs.Following as following
use Rattle.mdmp_lister.specs.Format.Listing.{listing}
use Rattle.mdmp_lister.specs.Lister.{ListerState}
use Rattle.mdmp_wire.specs.Header.{header_at}
use Rattle.mdmp_lister.specs.Format.Refusal.{directory_refusal, opening_fault}
use Rattle.mdmp_engines.specs.declared.fault.ToolFault.{ToolFault}
use Rattle.mdmp_engines.specs.declared.fault.ToolFault.TheVariants.{Opening, List as BadList, Source, Budget, Out, Memory, MemoryLimit, AsideLimit}
use Rattle.mdmp_engines.specs.Causes.{HasOutCause, HasSourceCause, IsListTold, IsNoSourceFault, IsRefusal, MayChange}

-- ---- what is written, by the class of the answer

-- when a command prints
pub data Pace : Type 0 where
  -- while it reads, up to the first fault of the listing
  up_to_a_fault : Pace
  -- while it reads, also behind such a fault, of which its text tells
  past_faults : Pace
  -- once all is read
  at_the_end : Pace

-- the first part of a text was written, without a refusal
pub record StopsShort (before : OutState) (text : List ℕ) (after : OutState) : Type 0 where
  pub took : TakesPrefix before.taken text after.taken
  pub steady : after.failures ≡ before.failures

-- what may be out of a text where its reading ended early: of one that is printed while it is read the first part
abbrev pub early_text : Pace → List ℕ → List ℕ
early_text up_to_a_fault text = text
early_text past_faults text = text
early_text at_the_end text = []

-- a fault of the listing ends a command so, but never one that goes on behind it
abbrev pub EndsAtFault : Pace → Type 0 → Type 0
EndsAtFault up_to_a_fault ends = ends
EndsAtFault past_faults ends = ⊥
EndsAtFault at_the_end ends = ends

-- the text was written, up to the fault of the listing that ends it or whole; nothing where the file is refused or memory is
-- wanting; the first part of it behind a fault of the store or the budget, if it is printed early; else the first part up to a
-- refusal
abbrev pub WritesText : {T : Type 0} → Pace → List ℕ → OutState → Result T ToolFault → OutState → Type 0
WritesText pace text before (Ok x) after = PutsAll before text after
WritesText pace text before (Err (BadList fault)) after = EndsAtFault pace (PutsAll before text after)
WritesText pace text before (Err (Opening fault)) after = PutsAll before [] after
WritesText pace text before (Err Memory) after = PutsAll before [] after
WritesText pace text before (Err (MemoryLimit held)) after = PutsAll before [] after
WritesText pace text before (Err (Source fault)) after = StopsShort before (early_text pace text) after
WritesText pace text before (Err (Budget offset size)) after = StopsShort before (early_text pace text) after
WritesText pace text before (Err (AsideLimit offset size)) after = StopsShort before (early_text pace text) after
WritesText pace text before (Err Out) after = PutsPrefix before text after
WritesText pace text before (Err fault) after = ⊥

-- ---- what a command is given

-- a lister that was opened for this choice of a file, and has given nothing
pub record IsOpened (choice : Choice) (lister : ListerState) : Type 0 where
  pub choice_is : lister.choice ≡ choice
  pub passed : lister.passed ≡ 0
  pub stop : lister.stop ≡ None
  pub standing : lister.standing ≡ following.through
  pub ranges : lister.ranges ≡ []
  pub header_is : (file : List ℕ) → lister.source.store.content ≡ Some file → lister.header ≡ header_at file 0
  pub left : (file : List ℕ) → lister.source.store.content ≡ Some file → lister.left ≡ Some (listing file choice lister.limit)
  -- nothing was read aside, and no name was reached
  pub aside : lister.counts.aside.bytes ≡ 0
  pub names : lister.counts.names ≡ 0

-- ---- what an answer says of the file

-- a file F is refused with this fault; or memory was wanting, and its header and directory are good; or it can be opened,
-- and then Ends says what may end a command over it
abbrev pub Says : {T : Type 0} → List ℕ → Choice → (Result T ToolFault → Type 0) → Result T ToolFault → Type 0
Says F choice Ends (Err (Opening fault)) = opening_fault F choice ≡ Some fault
Says F choice Ends (Err Memory) = directory_refusal F ≡ None
Says F choice Ends (Err (MemoryLimit held)) = directory_refusal F ≡ None
Says F choice Ends (Err (Source fault)) = Unit {0}
Says F choice Ends (Err (Budget offset size)) = Unit {0}
Says F choice Ends answer = (opening_fault F choice ≡ None) × Ends answer

-- a text that is printed where a file can be listed
abbrev pub unless_refused : Option OpenFault → List ℕ → List ℕ
unless_refused None text = text
unless_refused (Some fault) text = []

-- a run over F: what its answer says of F, and that the text was written as far as that answer tells
pub record Runs {T : Type 0} (F : List ℕ) (choice : Choice) (Ends : Result T ToolFault → Type 0) (pace : Pace) (text : List ℕ) (before : OutState)
    (answer : Result T ToolFault) (after : OutState) : Type 0 where
  pub says : Says F choice Ends answer
  pub writes : WritesText pace text before answer after

-- ---- the same through blocks

-- what an output has taken is a first part of these bytes
pub record IsFirstPart (taken : Option (List ℕ)) (whole : List ℕ) : Type 0 where
  pub out : List ℕ
  pub rest : List ℕ
  pub known : taken ≡ Some out
  pub splits : whole ≡ out ++ rest

-- the output refused once, and what it has taken is a first part of what it had taken before and the text
pub record RefusesWithin (before : OutState) (text : List ℕ) (after : OutState) : Type 0 where
  pub within : (start : List ℕ) → before.taken ≡ Some start → IsFirstPart after.taken (start ++ text)
  pub refused : HasRefused before.failures after.failures

-- a run through blocks, of which the last is flushed, and may be refused behind any answer of the run
abbrev pub RunsThrough : {T : Type 0} → List ℕ → Choice → (Result T ToolFault → Type 0) → Pace → List ℕ → OutState → Result T ToolFault → OutState → Type 0
RunsThrough F choice Ends pace text before (Err Out) after = RefusesWithin before text after
RunsThrough F choice Ends pace text before answer after = Runs F choice Ends pace text before answer after

-- nothing is pending, but where the output refused
abbrev pub IsFlushed : {T : Type 0} → Result T ToolFault → List ℕ → Type 0
IsFlushed (Err Out) pending = Unit {0}
IsFlushed answer pending = pending ≡ []

-- what a run answers after the flush: the same, or the output's fault where the flush was refused. Behind a run that the
-- output refused nothing is asked of it again.
pub data EndsFlushed {T : Type 0} (answer flushed : Result T ToolFault) (before after : OutState) : Type 0 where
  stands : flushed ≡ answer → after.failures ≡ before.failures → EndsFlushed answer flushed before after
  refused : answer ≢ Err Out → flushed ≡ Err Out → after.failures ≡ refused_once before.failures → EndsFlushed answer flushed before after

-- ---- of whatever file

-- how a run reaches its output: directly, or through blocks, of which the last is flushed
pub data Way : Type 0 where
  directly : Way
  in_blocks : Way

-- a file of so few bytes is told as that, unless the flush was refused
abbrev pub IsTooShort : {T : Type 0} → Way → ℕ → Result T ToolFault → Type 0
IsTooShort directly size answer = answer ≡ Err (Opening (TooShort size))
IsTooShort in_blocks size answer = (answer ≡ Err (Opening (TooShort size))) ⊎ (answer ≡ Err Out)

-- nothing was written: the output is as it was; the one behind blocks took nothing and did not refuse
abbrev pub IsUntouched : Way → OutState → OutState → Type 0
IsUntouched directly before after = after ≡ before
IsUntouched in_blocks before after = PutsAll before [] after

-- so it is, if nothing is printed early
abbrev pub UnlessEarly : Pace → Type 0 → Type 0
UnlessEarly up_to_a_fault untouched = Unit {0}
UnlessEarly past_faults untouched = Unit {0}
UnlessEarly at_the_end untouched = untouched

-- nothing was written where the file is refused or memory is wanting; nor, where all is read before the first byte is
-- printed, behind a fault of the listing, of the store or of the budget. No fault of the listing ends a command that goes on behind it.
abbrev pub IsQuiet : {T : Type 0} → Pace → Result T ToolFault → Type 0 → Type 0
IsQuiet pace (Ok x) untouched = Unit {0}
IsQuiet pace (Err Out) untouched = Unit {0}
IsQuiet pace (Err (Opening fault)) untouched = untouched
IsQuiet pace (Err Memory) untouched = untouched
IsQuiet pace (Err (MemoryLimit held)) untouched = untouched
IsQuiet pace (Err (BadList fault)) untouched = EndsAtFault pace (UnlessEarly pace untouched)
IsQuiet pace (Err (Source fault)) untouched = UnlessEarly pace untouched
IsQuiet pace (Err (Budget offset size)) untouched = UnlessEarly pace untouched
IsQuiet pace (Err (AsideLimit offset size)) untouched = UnlessEarly pace untouched
IsQuiet pace (Err fault) untouched = ⊥

-- what every command answers over a store of this size, and how it leaves its output
pub record Tells {T : Type 0} (way : Way) (pace : Pace) (store : StoreState) (size : ℕ) (before : OutState) (answer : Result T ToolFault)
    (after : OutState) : Type 0 where
  -- over a good store all bytes are obtained
  pub good : (file : List ℕ) → IsGood store file → IsNoSourceFault answer
  pub refusal : IsRefusal size answer
  pub short : size < 32 → IsTooShort way size answer
  pub quiet : IsQuiet pace answer (IsUntouched way before after)
  pub out_cause : HasOutCause before answer after
  pub changed : MayChange store.content answer

-- and how it leaves its source
pub record ReadsSource {T : Type 0} (old : SourceState) (answer : Result T ToolFault) (new : SourceState) : Type 0 where
  pub cause : HasSourceCause old answer new
  pub fetches : FetchesSome old new

-- ---- behind the opening

-- what ends the part of a command behind the opening, over a file of `size` bytes: no fault of the opening, and of the listing
-- only the file's own, if its pace lets one end it; where nothing was written the output is untouched, which is ⊥ where some
-- text is out already
abbrev pub IsBehind : {T : Type 0} → Pace → ℕ → Result T ToolFault → Type 0 → Type 0
IsBehind pace size (Ok x) untouched = Unit {0}
IsBehind pace size (Err Out) untouched = Unit {0}
IsBehind pace size (Err Memory) untouched = untouched
IsBehind pace size (Err (BadList fault)) untouched = IsListTold size fault × EndsAtFault pace (UnlessEarly pace untouched)
IsBehind pace size (Err (Source fault)) untouched = UnlessEarly pace untouched
IsBehind pace size (Err (Budget offset len)) untouched = UnlessEarly pace untouched
IsBehind pace size (Err (AsideLimit offset len)) untouched = UnlessEarly pace untouched
IsBehind pace size (Err fault) untouched = ⊥

-- and how that part leaves its source and its output
pub record Leaves {T : Type 0} (pace : Pace) (untouched : Type 0) (old : SourceState) (before : OutState) (answer : Result T ToolFault) (new : SourceState)
    (after : OutState) : Type 0 where
  pub good : (file : List ℕ) → IsGood old.store file → IsNoSourceFault answer
  pub behind : IsBehind pace old.size answer untouched
  pub reads : ReadsSource old answer new
  pub out_cause : HasOutCause before answer after
