-- How the words of a command line end.
use Rattle.std.specs.Prelude.{◌≡◌, ◌⊎◌, ◌∷◌, ◌+◌, ℕ, Bool, List, [], Option, Some, None, IsTrue, true, false, codes, map, max, unwrap_or}
use Rattle.std.specs.List.{concat}
use Rattle.std.specs.Str.{bytes_eq}
use denote.Ref.{Bor}
use Rattle.mdmp_source.specs.Output.{OutState, PutsAll, PutsPrefix, unlent}
use Rattle.mdmp_source.specs.Source.{SourceState}
use Rattle.mdmp_source.specs.declared.fault.SourceFault.TheVariants.{Failed as FailedSource}
use Rattle.mdmp_disk.specs.Disk.{DiskState, FileAt, FileState, IsOpenedFile, IsPresent, KeepsOthers, after_reading, bytes_of_file, make_counted, open_counted, opened_once, present, open_refused}
use Rattle.mdmp_disk.specs.Input.{IsInput, MayRefuseInput}
use Rattle.mdmp_disk.specs.declared.input.InputRefused.{InputRefused}
use Rattle.mdmp_disk.specs.declared.input.InputRefused.TheVariants.{Failed, TooLong, Memory as LacksMemory}
use Rattle.mdmp_lister.specs.declared.limits.Limits.{Limits}
use Rattle.mdmp_print.specs.declared.form.LineForm.{LineForm}
use Rattle.mdmp_print.specs.declared.form.LineForm.TheVariants.{Json, Text}
use Rattle.mdmp_tool.specs.Commands.{HasCheckedSo, HasCopied, HasPrintedMemory, HasPrintedList, HasSummarizedAs}
use Rattle.mdmp_engines.specs.Copying.{first_not_copied}
use Rattle.mdmp_engines.specs.Faults.{fault_text, exit_status}
use Rattle.mdmp_engines.specs.Reports.{IsLineTold, file_fault_text}
use Rattle.mdmp_tool.specs.BadWordText.{bad_word_text}
use Rattle.mdmp_tool.specs.Shown.{shown}
use Rattle.mdmp_words.specs.Invocations.{AsksFor, AsksNothing, IsValid}
use Rattle.mdmp_engines.specs.declared.fault.ToolFault.{ToolFault}
use Rattle.mdmp_engines.specs.declared.fault.ToolFault.TheVariants.{Memory, MemoryLimit, NotCopied, Out, Source}
use Rattle.mdmp_words.specs.declared.invocation.Invocation.{Invocation}
use Rattle.mdmp_words.specs.declared.invocation.Invocation.TheVariants as asks
use Rattle.mdmp_words.specs.declared.invocation.Command.{Command}
use Rattle.mdmp_words.specs.declared.invocation.Command.TheVariants as commands

-- both outputs, before and after
pub record Outputs : Type 0 where
  pub out : OutState
  pub err : OutState

-- the disk, before and after
pub record DiskChange : Type 0 where
  pub old : DiskState
  pub new : DiskState

-- ---- before a file is read

-- a line was told, this is the status, and nothing was written
pub record Refuses (wanted : ℕ) (text : List ℕ) (before : Outputs) (status : ℕ) (after : Outputs) : Type 0 where
  pub own : status ≡ wanted
  pub quiet : after.out ≡ before.out
  pub told : IsLineTold before.err text after.err

abbrev pub RefusesFault : ToolFault → Outputs → ℕ → Outputs → Type 0
RefusesFault fault = Refuses (exit_status fault) (fault_text fault)

-- a file of this name could not be opened, or made: it is told without control characters
abbrev pub unopened_text : List ℕ → List ℕ
unopened_text name = concat (codes "cannot open " ∷ shown name ∷ [])

abbrev pub unmade_text : List ℕ → List ℕ
unmade_text name = concat (codes "cannot create " ∷ shown name ∷ [])

-- this text, which explains the words, went to the errors, and nothing was written
pub record Explains (text : List ℕ) (before : Outputs) (status : ℕ) (after : Outputs) : Type 0 where
  pub two : status ≡ 2
  pub quiet : after.out ≡ before.out
  pub told : PutsAll before.err text after.err ⊎ PutsPrefix before.err text after.err

-- this text, which was asked for, was written
pub record Helps (text : List ℕ) (before : Outputs) (status : ℕ) (after : Outputs) : Type 0 where
  pub zero : status ≡ 0
  pub written : PutsAll before.out text after.out
  pub quiet : after.err ≡ before.err

-- or the output refused it, and that was told
pub record HelpsInPart (text : List ℕ) (before : Outputs) (status : ℕ) (after : Outputs) : Type 0 where
  pub own : status ≡ exit_status Out
  pub cut : PutsPrefix before.out text after.out
  pub told : IsLineTold before.err (fault_text Out) after.err

-- ---- commands

-- a source over a file of which this is known, of which nothing was fetched
pub record IsOver (file : FileAt) (source : SourceState) : Type 0 where
  pub store : IsOpenedFile file source.store
  pub fetched : source.fetched ≡ 0

-- no reliable file is known to be there, so its opening may be refused
abbrev pub MayRefuse : FileAt → Type 0
MayRefuse found = (file : FileState) → found ≡ present file → IsTrue file.is_reliable → ⊥

-- what a command over a source did: to the source, to both outputs, and its status
abbrev pub Running : Type 1
Running = SourceState → OutState → OutState → ℕ → SourceState → OutState → OutState → Type 0

-- this was printed of a file of which that is known
pub record Prints (Printed : Running) (found : FileAt) (before : Outputs) (status : ℕ) (after : Outputs) : Type 0 where
  pub old : SourceState
  pub new : SourceState
  pub opened : IsOver found old
  pub printed : Printed old before.out before.err status new after.out after.err

-- how something ends that prints this of a source
pub data EndsSource (Printed : Running) (old : SourceState) (before : Outputs) (status : ℕ) (after : Outputs) : Type 0 where
  wanting_source : RefusesFault Memory before status after → EndsSource Printed old before status after
  printed_source : (new : SourceState) → Printed old before.out before.err status new after.out after.err → EndsSource Printed old before status after

-- how a command ends that prints this of the file of this name: the disk was asked for that file,
-- once, and for nothing else
pub data EndsFile (Printed : Running) (file : List ℕ) (disk : DiskChange) (before : Outputs) (status : ℕ) (after : Outputs) : Type 0 where
  unopened : disk.new ≡ open_refused disk.old → MayRefuse (disk.old.files file) → Refuses 3 (unopened_text file) before status after
      → EndsFile Printed file disk before status after
  wanting : disk.new ≡ opened_once disk.old → RefusesFault Memory before status after → EndsFile Printed file disk before status after
  printed : disk.new ≡ opened_once disk.old → Prints Printed (disk.old.files file) before status after → EndsFile Printed file disk before status after

-- the name of standard input
abbrev pub input_name : List ℕ
input_name = codes "-"

abbrev pub is_input : List ℕ → Bool
is_input name = bytes_eq name input_name

-- how many bytes of standard input are read at most: as many as the limit of memory says, or 64 MiB
abbrev pub input_most : Limits → ℕ
input_most limits = unwrap_or limits.memory 67108864

-- why standard input of at most so many bytes was not read, as it is told: as a fault of a file, or of memory
abbrev pub input_fault : ℕ → InputRefused → ToolFault
input_fault most (Failed at) = Source (FailedSource at)
input_fault most TooLong = MemoryLimit (most + 1)
input_fault most LacksMemory = Memory

-- a file of these bytes, which is opened and read without fail
abbrev pub input_file : List ℕ → FileAt
input_file bytes = present (record { bytes = Some bytes; is_reliable = true; fail_at = None })

-- how a command ends that prints this of standard input: the disk was asked for that, once, and for nothing else, and the
-- command prints what it prints of a file of these bytes. A fault of the input has this text
pub data EndsInput (Printed : Running) (text : ToolFault → List ℕ) (limits : Limits) (disk : DiskChange) (before : Outputs) (status : ℕ) (after : Outputs) : Type 0 where
  unread_input : (why : InputRefused) → disk.new ≡ after_reading false disk.old → MayRefuseInput disk.old.input (input_most limits) why
      → Refuses (exit_status (input_fault (input_most limits) why)) (text (input_fault (input_most limits) why)) before status after
      → EndsInput Printed text limits disk before status after
  wanting_input : disk.new ≡ after_reading true disk.old → RefusesFault Memory before status after → EndsInput Printed text limits disk before status after
  printed_input : (bytes : List ℕ) → disk.new ≡ after_reading true disk.old → IsInput disk.old.input (input_most limits) bytes
      → Prints Printed (input_file bytes) before status after → EndsInput Printed text limits disk before status after

-- how a command ends that prints this of the file of this name, or of standard input
pub data EndsPrint (Printed : Running) (text : ToolFault → List ℕ) (limits : Limits) (file : List ℕ) (disk : DiskChange) (before : Outputs) (status : ℕ) (after : Outputs) : Type 0 where
  of_file : is_input file ≡ false → EndsFile Printed file disk before status after → EndsPrint Printed text limits file disk before status after
  of_input : is_input file ≡ true → EndsInput Printed text limits disk before status after → EndsPrint Printed text limits file disk before status after

-- the streams of these types were copied out of one file into another, which was made under a name that had none, and holds
-- what was copied; every other file is as it was
pub record CopiesTo (Z : Type 0) (types : List ℕ) (limits : Limits) (file target : List ℕ) (disk : DiskChange) (before : Outputs) (status : ℕ) (after : Outputs) : Type 0 where
  pub old : SourceState
  pub new : SourceState
  pub written : OutState
  pub opened : IsOver (disk.old.files file) old
  pub vacant : IsPresent (disk.old.files target) → ⊥
  pub copied : HasCopied Z types limits old (record { taken = disk.old.blank; failures = unlent 0 }) before.err status new written after.err
  pub holds : bytes_of_file (disk.new.files target) ≡ written.taken
  pub others : KeepsOthers disk.old target disk.new
  pub same_blank : disk.new.blank ≡ disk.old.blank
  pub counted : disk.new.requests ≡ make_counted true (open_counted true disk.old.requests)
  pub quiet : after.out ≡ before.out

-- how a command ends that copies these types of one file to another: a type that is not copied is told before a file is opened,
-- and no file is made where that one is not opened
pub data EndsCopy (Z : Type 0) (types : List ℕ) (limits : Limits) (file target : List ℕ) (disk : DiskChange) (before : Outputs) (status : ℕ) (after : Outputs) : Type 0 where
  refused : (t : ℕ) → first_not_copied types ≡ Some t → disk.new ≡ disk.old → RefusesFault (NotCopied t) before status after
      → EndsCopy Z types limits file target disk before status after
  unread : first_not_copied types ≡ None → disk.new ≡ open_refused disk.old → MayRefuse (disk.old.files file)
      → Refuses 3 (unopened_text file) before status after → EndsCopy Z types limits file target disk before status after
  unmade : first_not_copied types ≡ None → disk.new ≡ open_refused (opened_once disk.old) → Refuses 3 (unmade_text target) before status after
      → EndsCopy Z types limits file target disk before status after
  copied : first_not_copied types ≡ None → CopiesTo Z types limits file target disk before status after → EndsCopy Z types limits file target disk before status after

-- ---- summaries

-- how something ends that changes the disk, writes to both outputs, and has a status
abbrev pub CommandEnding : Type 1
CommandEnding = DiskChange → Outputs → ℕ → Outputs → Type 0

-- it ends as the first of two does, and from there on as the second: its status is the worse one
pub record EndsInTurn (First Second : CommandEnding) (disk : DiskChange) (before : Outputs) (status : ℕ) (after : Outputs) : Type 0 where
  pub between : DiskState
  pub written : Outputs
  pub first_status : ℕ
  pub second_status : ℕ
  pub first : First (record { old = disk.old; new = between }) before first_status written
  pub second : Second (record { old = between; new = disk.new }) written second_status after
  pub worst : status ≡ max first_status second_status

-- nothing was done
pub record EndsIdle (disk : DiskChange) (before : Outputs) (status : ℕ) (after : Outputs) : Type 0 where
  pub zero : status ≡ 0
  pub same_disk : disk.new ≡ disk.old
  pub quiet : after ≡ before

-- the name under which the summary of a file is printed: without control characters, but in an object as it is
abbrev pub printed_name : LineForm → List ℕ → List ℕ
printed_name Text file = shown file
printed_name Json file = file

-- the summary of the file of this name, or of standard input; an error is told behind the name without control characters
abbrev pub EndsFileSummary : LineForm → Limits → List ℕ → CommandEnding
EndsFileSummary form limits file = EndsPrint (HasSummarizedAs form (printed_name form file) (shown file) limits) (file_fault_text input_name) limits file

-- the summary of each of these files, in their order
abbrev pub EndsSummaries : LineForm → Limits → List (List ℕ) → CommandEnding
EndsSummaries form limits [] = EndsIdle
EndsSummaries form limits (file ∷ files) = EndsInTurn (EndsFileSummary form limits file) (EndsSummaries form limits files)

-- ---- commands

abbrev pub EndsCommand : Type 0 → Command → Limits → List ℕ → DiskChange → Outputs → ℕ → Outputs → Type 0
EndsCommand Z (commands.Check form parts) limits file disk before status after = EndsPrint (HasCheckedSo parts form limits) fault_text limits file disk before status after
EndsCommand Z (commands.List form pdb) limits file disk before status after = EndsPrint (HasPrintedList form pdb limits) fault_text limits file disk before status after
EndsCommand Z (commands.Hex span) limits file disk before status after = EndsPrint (HasPrintedMemory span limits) fault_text limits file disk before status after
EndsCommand Z (commands.Copy target types) limits file disk before status after = EndsCopy Z types limits file target.now disk before status after

-- ---- words

-- how that ends which some words ask for
abbrev pub EndsAsked : Type 0 → Invocation → DiskChange → Outputs → ℕ → Outputs → Type 0
EndsAsked Z (asks.Run file limits command) disk before status after = EndsCommand Z command limits file.now disk before status after
EndsAsked Z (asks.Summarize files limits form) disk before status after = EndsSummaries form limits (map (λ file. file.now) files.items) disk before status after
EndsAsked Z (asks.Help text) disk before status after = (disk.new ≡ disk.old) × (Helps text.bytes.items before status after ⊎ HelpsInPart text.bytes.items before status after)
EndsAsked Z (asks.Refused text) disk before status after = (disk.new ≡ disk.old) × Explains text.bytes.items before status after
EndsAsked Z (asks.BadWord bad) disk before status after = (disk.new ≡ disk.old) × Refuses 2 (bad_word_text bad.place bad.word.now) before status after
EndsAsked Z asks.InvalidValue disk before status after = (disk.new ≡ disk.old) × Refuses 2 (codes "bad command line") before status after
EndsAsked Z asks.Memory disk before status after = (disk.new ≡ disk.old) × RefusesFault Memory before status after

-- what the words ask for, by how clap parts them, and that it ends so; no words ask for nothing that is run or helped
pub record EndsWords (Z : Type 0) (words : List (Bor (List ℕ))) (disk : DiskChange) (before : Outputs) (status : ℕ) (after : Outputs) : Type 0 where
  pub asked : Invocation
  pub valid : IsValid asked
  pub asks : AsksFor (map (λ word. word.now) words) asked
  pub empty : words ≡ [] → AsksNothing asked
  pub ends : EndsAsked Z asked disk before status after
