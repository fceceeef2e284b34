-- What is read of the CodeView record of a module.
use Rattle.std.specs.Prelude.{◌≡◌, ◌≤◌, ◌+◌, ◌-◌, ℕ, List, Option, None, Some, Result, Ok, Err, min, take}
use Rattle.mdmp_source.specs.Range.{bytes_at}
use Rattle.mdmp_source.specs.declared.fault.SourceFault.{SourceFault}
use Rattle.mdmp_source.specs.declared.location.Extent.{Extent}
use Rattle.mdmp_source.specs.declared.location.Extent.TheVariants.{Empty, Absent, Inside, Outside}
use Rattle.mdmp_source.specs.declared.location.Location.{Location}
use Rattle.mdmp_lister.specs.declared.meter.Amount.{Amount}
use Rattle.mdmp_lister.specs.CodeView.{AreFetched, codeview_fetches, codeview_most, fetched_behind}
use Rattle.mdmp_summary.specs.Visiting.{nothing_read}
use Rattle.mdmp_summary.specs.declared.codeview_reading.SymbolsRead.{SymbolsRead}

-- the first bytes of a record of F
abbrev pub symbols_head : List ℕ → Location → List ℕ
symbols_head F at = bytes_at F at.rva (min at.size 24)

-- and those after them that are read, where there is room for so many: none of a record of another kind than RSDS
abbrev pub symbols_rest : List ℕ → Location → ℕ → List ℕ
symbols_rest F at room = bytes_at F (at.rva + 24) (fetched_behind (symbols_head F at) at.size room)

-- ---- bytes that were read

pub record IsSymbolsAt (F : List ℕ) (at : Location) (room : ℕ) (read : SymbolsRead) (buffer : List ℕ) : Type 0 where
  pub head : take (min read.size 24) read.head ≡ symbols_head F at
  pub rest : take read.rest buffer ≡ symbols_rest F at room
  pub size_is : read.size ≡ at.size

-- a record of F of this class was read, if it is inside
abbrev pub AreSymbolsOf : List ℕ → Location → ℕ → Extent → Option SymbolsRead → List ℕ → Type 0
AreSymbolsOf F at room Inside (Some read) buffer = IsSymbolsAt F at room read buffer
AreSymbolsOf F at room Inside None buffer = ⊥
AreSymbolsOf F at room Empty (Some read) buffer = ⊥
AreSymbolsOf F at room Empty None buffer = Unit {0}
AreSymbolsOf F at room Absent (Some read) buffer = ⊥
AreSymbolsOf F at room Absent None buffer = Unit {0}
AreSymbolsOf F at room Outside (Some read) buffer = ⊥
AreSymbolsOf F at room Outside None buffer = Unit {0}

abbrev pub FitsBuffer : ℕ → Option SymbolsRead → Type 0
FitsBuffer room (Some read) = read.rest ≤ room
FitsBuffer room None = Unit {0}

-- ---- of any file

-- what a read of a record of this class gives, whatever its bytes are: of one that is inside its first 24 and, of the kind RSDS, those
-- after them, or the store failed; of another there is none
abbrev pub TellsSymbols : Extent → Location → ℕ → Result (Option SymbolsRead) SourceFault → Type 0
TellsSymbols Inside at room (Ok (Some read)) = AreFetched at room read.head read.rest read.size
TellsSymbols Inside at room (Ok None) = ⊥
TellsSymbols Inside at room (Err fault) = Unit {0}
TellsSymbols class at room answer = answer ≡ Ok None

-- ---- how many bytes are read, and in how many calls

-- of a record at most: all of them, or its first 24 and those that there is room for
abbrev pub symbols_bound : Location → ℕ → Amount
symbols_bound at room = record { bytes = codeview_most at room; calls = 2 }

-- by what is given: of no record nothing; else its first 24 bytes, or all if it has fewer, by one call, and those after them that are
-- given by a second one, if there are any. If the store fails, no more than may be read at most
abbrev pub symbols_amount : Location → ℕ → Result (Option SymbolsRead) SourceFault → Amount
symbols_amount at room (Ok None) = nothing_read
symbols_amount at room (Ok (Some read)) = record { bytes = min at.size 24 + read.rest; calls = codeview_fetches read.rest }
symbols_amount at room (Err fault) = symbols_bound at room

-- of those after the first 24, of which so many are given
abbrev pub rest_cost : Location → ℕ → Result ℕ SourceFault → Amount
rest_cost at room (Ok n) = record { bytes = n; calls = min 1 n }
rest_cost at room (Err fault) = record { bytes = min (at.size - 24) room; calls = 1 }
