-- What a command over a source prints and tells, and its exit status.
use Rattle.std.specs.Prelude.{◌≡◌, ℕ, Bool, true, false, List, Some, Result, Err}
use Rattle.mdmp_source.specs.Output.{OutState}
use Rattle.mdmp_source.specs.Source.{SourceState}
use Rattle.mdmp_source.specs.Store.{IsGood}
use Rattle.mdmp_lister.specs.declared.limits.Limits.{Limits}
use Rattle.mdmp_lister.specs.Format.Refusal.{opening_fault}
use Rattle.mdmp_engines.specs.declared.fault.ToolFault.{ToolFault}
use Rattle.mdmp_engines.specs.declared.fault.ToolFault.TheVariants.{Memory}
use Rattle.mdmp_print.specs.declared.form.LineForm.{LineForm}
use Rattle.mdmp_print.specs.declared.form.LineForm.TheVariants.{Json, Text}
use Rattle.mdmp_words.specs.declared.number_words.Span.{Span}
use Rattle.mdmp_engines.specs.Causes.{HasOutCause, IsNoSourceFault}
use Rattle.mdmp_engines.specs.CheckParts.{ChecksPartsThrough}
use Rattle.mdmp_engines.specs.CheckRuns.{ChecksThrough}
use Rattle.mdmp_engines.specs.Copying.{Copies, SpendsCopy, SpendsWithin, TellsCopyBudget, TellsCopyMemory, first_not_copied}
use Rattle.mdmp_engines.specs.Engines.{Pace, ReadsSource, RunsThrough, Tells, unless_refused, at_the_end, in_blocks, past_faults, up_to_a_fault}
use Rattle.mdmp_engines.specs.ReadThrough.{IsReadThrough, Access, check_access, hex_access, list_access}
use Rattle.mdmp_engines.specs.HexRuns.{HexesThrough}
use Rattle.mdmp_engines.specs.ObjectRuns.{IsObjectThrough, IsQuietObject, PrintsObject}
use Rattle.mdmp_engines.specs.Reports.{IsCheckEnd, IsEnd, IsSummaryEnd}
use Rattle.mdmp_engines.specs.Runs.{ListsThrough}
use Rattle.mdmp_engines.specs.SummaryRuns.{IsQuietSummary, IsSummedThrough, Summarizes}

-- ---- commands

-- a command has run and read its file so: this is its engine, and this is told of its answer
pub record HasRun {T : Type 0} (access : Access) (End : Result T ToolFault → ℕ → OutState → OutState → Type 0) (Through : List ℕ → OutState → Result T ToolFault → OutState → Type 0)
    (pace : Pace) (old : SourceState) (before err_before : OutState) (status : ℕ) (new : SourceState) (after err_after : OutState) : Type 0 where
  pub answer : Result T ToolFault
  pub ends : End answer status err_before err_after
  pub writes : (file : List ℕ) → old.store.content ≡ Some file → Through file before answer after
  pub tells : Tells in_blocks pace old.store old.size before answer after
  pub reads : ReadsSource old answer new
  pub through : IsReadThrough access old answer new

-- a command that prints this text, which may end so, has run through blocks
abbrev pub HasRunThrough : {T : Type 0} → Access → (Result T ToolFault → ℕ → OutState → OutState → Type 0) → (List ℕ → ℕ → Result T ToolFault → Type 0) → (List ℕ → ℕ → List ℕ)
    → SourceState → OutState → OutState → ℕ → SourceState → OutState → OutState → Type 0
HasRunThrough access End Ends text =
    HasRun access End
    (λ file. RunsThrough file access.choice (Ends file access.limits.name) access.pace (unless_refused (opening_fault file access.choice) (text file access.limits.name)))
    access.pace

-- `check`, `list` and `hex` have run so, within these limits
abbrev pub HasChecked : LineForm → Limits → SourceState → OutState → OutState → ℕ → SourceState → OutState → OutState → Type 0
HasChecked form limits = HasRun (check_access limits) IsCheckEnd (λ file. ChecksThrough form file limits.name) past_faults

-- `check --parts` has run so
abbrev pub HasCheckedParts : LineForm → Limits → SourceState → OutState → OutState → ℕ → SourceState → OutState → OutState → Type 0
HasCheckedParts form limits = HasRun (check_access limits) IsCheckEnd (λ file. ChecksPartsThrough form file limits.name) past_faults

-- one of both, by whether parts are looked at
abbrev pub HasCheckedSo : Bool → LineForm → Limits → SourceState → OutState → OutState → ℕ → SourceState → OutState → OutState → Type 0
HasCheckedSo true form limits = HasCheckedParts form limits
HasCheckedSo false form limits = HasChecked form limits

abbrev pub HasPrintedList : LineForm → Bool → Limits → SourceState → OutState → OutState → ℕ → SourceState → OutState → OutState → Type 0
HasPrintedList form pdb limits = HasRun (list_access pdb limits) IsEnd (λ file. ListsThrough form pdb file limits.name) up_to_a_fault

abbrev pub HasPrintedMemory : Span → Limits → SourceState → OutState → OutState → ℕ → SourceState → OutState → OutState → Type 0
HasPrintedMemory span limits = HasRun (hex_access span.length limits) IsEnd (λ file. HexesThrough file limits.name span.address span.length) at_the_end

-- the lines of a summary were printed, within these limits
pub record IsSummarizedText (name : List ℕ) (limits : Limits) (old : SourceState) (before : OutState) (answer : Result ℕ ToolFault) (new : SourceState) (after : OutState) : Type 0 where
  pub summarizes : (file : List ℕ) → old.store.content ≡ Some file → Summarizes name file limits before answer after
  pub good : (file : List ℕ) → IsGood old.store file → IsNoSourceFault answer
  pub reads : ReadsSource old answer new
  pub through : IsSummedThrough limits old answer new
  pub quiet : IsQuietSummary answer (after ≡ before)
  pub out_cause : HasOutCause before answer after

-- or its object was
pub record IsObjectPrinted (name : List ℕ) (limits : Limits) (old : SourceState) (before : OutState) (answer : Result ℕ ToolFault) (new : SourceState) (after : OutState) : Type 0 where
  pub prints : (file : List ℕ) → old.store.content ≡ Some file → PrintsObject name file limits before answer after
  pub good : (file : List ℕ) → IsGood old.store file → IsNoSourceFault answer
  pub reads : ReadsSource old answer new
  pub through : IsObjectThrough limits old before answer new after
  pub quiet : IsQuietObject answer (after ≡ before)
  pub out_cause : HasOutCause before answer after

-- unless there was no memory for the block in which it is gathered
pub data IsSummarizedObject (name : List ℕ) (limits : Limits) (old : SourceState) (before : OutState) (answer : Result ℕ ToolFault) (new : SourceState) (after : OutState) : Type 0 where
  wanting : answer ≡ Err Memory → new ≡ old → after ≡ before → IsSummarizedObject name limits old before answer new after
  printed : IsObjectPrinted name limits old before answer new after → IsSummarizedObject name limits old before answer new after

abbrev pub IsSummarized : LineForm → (name : List ℕ) → Limits → SourceState → OutState → Result ℕ ToolFault → SourceState → OutState → Type 0
IsSummarized Text name limits old before answer new after = IsSummarizedText name limits old before answer new after
IsSummarized Json name limits old before answer new after = IsSummarizedObject name limits old before answer new after

-- the summary of a file was printed in this form, within these limits, under one name, and an error was told behind another
pub record HasSummarizedAs (form : LineForm) (printed told : List ℕ) (limits : Limits) (old : SourceState) (before err_before : OutState) (status : ℕ) (new : SourceState) (after err_after : OutState) : Type 0 where
  pub answer : Result ℕ ToolFault
  pub ends : IsSummaryEnd told answer status err_before err_after
  pub summarizes : IsSummarized form printed limits old before answer new after

-- both are the file's name
abbrev pub HasSummarized : LineForm → List ℕ → Limits → SourceState → OutState → OutState → ℕ → SourceState → OutState → OutState → Type 0
HasSummarized form name = HasSummarizedAs form name name

-- the streams of these types were copied, within these limits
pub record HasCopied (Z : Type 0) (types : List ℕ) (limits : Limits) (old : SourceState) (before err_before : OutState) (status : ℕ) (new : SourceState) (after err_after : OutState) : Type 0 where
  pub answer : Result ℕ ToolFault
  pub ends : IsEnd answer status err_before err_after
  pub copies : Copies Z old.store.content old.size types limits.name before answer after
  pub good : (file : List ℕ) → IsGood old.store file → IsNoSourceFault answer
  pub reads : ReadsSource old answer new
  pub unread : (t : ℕ) → first_not_copied types ≡ Some t → new ≡ old
  pub spends : SpendsCopy Z types limits.window old answer new
  pub budget : TellsCopyBudget Z types limits.budget limits.window old.store.content answer
  pub within : SpendsWithin limits.budget old answer new
  pub memory : TellsCopyMemory limits old.store.content answer
