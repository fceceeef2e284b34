-- How a command ends that printed a source over a file, or over the bytes of standard input.
use Rattle.std.proofs.Common.{◌≡◌, ℕ, List, true, Some}
use Rattle.mdmp_source.specs.Source.{SourceState}
use Rattle.mdmp_source.specs.Store.{IsNew, StoreState}
use Rattle.mdmp_disk.specs.Disk.{IsOpenedFile, after_reading, opened_once}
use Rattle.mdmp_disk.specs.Input.{IsInput}
use Rattle.mdmp_engines.specs.declared.fault.ToolFault.{ToolFault}
use Rattle.mdmp_lister.specs.declared.limits.Limits.{Limits}
use Rattle.mdmp_tool.specs.Words.{DiskChange, EndsFile, EndsInput, EndsSource, Outputs, Running, input_most, printed, printed_input, printed_source, wanting, wanting_input, wanting_source}

module _ (Printed : Running) (disk : DiskChange) (before : Outputs) (status : ℕ) (after : Outputs) (old : SourceState) (store : StoreState)
    (over : old.store ≡ store) (unread : (old.fetched ≡ 0) × (old.calls ≡ 0)) where
  pub file_ends : (file : List ℕ) → disk.new ≡ opened_once disk.old → IsOpenedFile (disk.old.files file) store → EndsSource Printed old before status after
      → EndsFile Printed file disk before status after
  file_ends file asked opened (wanting_source told) = wanting asked told
  file_ends file asked opened (printed_source new done) =
      printed asked (record { old = old; new = new; opened = record { store = rw over opened; fetched = unread.0 }; printed = done })

  pub input_ends : (text : ToolFault → List ℕ) (limits : Limits) (bytes : List ℕ) → disk.new ≡ after_reading true disk.old
      → IsInput disk.old.input (input_most limits) bytes → IsNew store (Some bytes) true → EndsSource Printed old before status after
      → EndsInput Printed text limits disk before status after
  input_ends text limits bytes asked input given (wanting_source told) = wanting_input asked told
  input_ends text limits bytes asked input given (printed_source new done) =
      printed_input bytes asked input (record { old = old; new = new; opened = record { store = rw over given; fetched = unread.0 }; printed = done })
