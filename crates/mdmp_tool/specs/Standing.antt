-- What stands under the name of a copy, of a disk that knows what the files take that it makes.
use Rattle.std.specs.Prelude.{◌≡◌, ◌⊎◌, ℕ, List, [], Option, Some, Result, Ok, Err}
use Rattle.mdmp_lister.specs.declared.choice.Choice.TheVariants.{Types}
use Rattle.mdmp_dump.specs.InFile.{dump_in}
use Rattle.mdmp_dump.specs.LaysOut.{LaysOut}
use Rattle.mdmp_writer.specs.Written.{written}
use Rattle.mdmp_disk.specs.Disk.{DiskState, bytes_of_file}
use Rattle.mdmp_engines.specs.declared.fault.ToolFault.{ToolFault}
use Rattle.mdmp_engines.specs.declared.fault.ToolFault.TheVariants.{Out, Source}
use Rattle.mdmp_engines.specs.Reports.{IsEnd}
use Rattle.mdmp_engines.specs.Engines.{IsFirstPart}
use Rattle.mdmp_tool.specs.Words.{DiskChange, Outputs}

-- a disk that knows the bytes of the file of this name, and what files take that it makes
pub record Knows (disk : DiskState) (name bytes : List ℕ) : Type 0 where
  pub file : bytes_of_file (disk.files name) ≡ Some bytes
  pub blank : disk.blank ≡ Some []

module _ (Z : Type 0) (F types : List ℕ) where
  -- these are the bytes of the dump that F lays out of the streams of these types
  abbrev pub IsWhole : Option (List ℕ) → Type 0
  IsWhole bytes = LaysOut F (Types types) (dump_in {Z = Z} F (Types types)) × (bytes ≡ Some (written (dump_in {Z = Z} F (Types types))))

  -- or a first part of them
  abbrev pub IsPartOfCopy : Option (List ℕ) → Type 0
  IsPartOfCopy bytes = LaysOut F (Types types) (dump_in {Z = Z} F (Types types)) × IsFirstPart bytes (written (dump_in {Z = Z} F (Types types)))

  -- all went well, and they are whole; behind a fault of the output they are a first part, and behind one of the store too, or
  -- there are none; or it ended otherwise, and there are none
  abbrev pub Stands : Result ℕ ToolFault → Option (List ℕ) → Type 0
  Stands (Ok size) bytes = IsWhole bytes
  Stands (Err Out) bytes = IsPartOfCopy bytes
  Stands (Err (Source fault)) bytes = (bytes ≡ Some []) ⊎ IsPartOfCopy bytes
  Stands (Err fault) bytes = bytes ≡ Some []

-- that stands under the name of the copy, by the answer that is told
pub record CopyStands (Z : Type 0) (F types target : List ℕ) (disk : DiskChange) (before : Outputs) (status : ℕ) (after : Outputs) : Type 0 where
  pub answer : Result ℕ ToolFault
  pub ends : IsEnd answer status before.err after.err
  pub stands : Stands Z F types answer (bytes_of_file (disk.new.files target))
