-- What is read of a CodeView record.
use Rattle.std.specs.Prelude.{◌≡◌, ◌≤◌, ◌+◌, ◌-◌, ◌==◌, ℕ, List, Result, Ok, Err, IfOk, drop, length, min, replicate, take, if◌then◌else◌}
use Rattle.mdmp_source.specs.Count.{raised}
use Rattle.mdmp_source.specs.Range.{bytes_at}
use Rattle.mdmp_source.specs.declared.fault.SourceFault.{SourceFault}
use Rattle.mdmp_source.specs.declared.location.Location.{Location}
use Rattle.mdmp_wire.specs.CodeView.{CodeViewValue, codeview_in, codeview_of, rsds_signature}
use Rattle.mdmp_wire.specs.Number.{number_at}
use Rattle.mdmp_lister.specs.declared.codeview.CodeViewBytes.{CodeViewBytes}
use Rattle.mdmp_lister.specs.declared.codeview.CodeViewRead.{CodeViewRead}
use Rattle.mdmp_lister.specs.Fetching.{ReadsBeside}
use Rattle.mdmp_lister.specs.Lister.{ListerState, ReadsAside}
use Rattle.mdmp_lister.specs.Meter.{BooksAside, MeterState}

-- the first 24 bytes of a record, or all of them if it has fewer
abbrev pub codeview_head : CodeViewBytes → List ℕ
codeview_head bytes = take (min bytes.size 24) bytes.head

-- what the fetched bytes of a record tell
abbrev pub codeview_told : CodeViewBytes → CodeViewValue
codeview_told bytes = codeview_in (codeview_head bytes) bytes.rest.now bytes.size

-- the same, where those behind its first 24 stand at the front of a buffer
abbrev pub codeview_read : List ℕ → CodeViewRead → CodeViewValue
codeview_read buffer read = codeview_in (take (min read.size 24) read.head) (take read.rest buffer) read.size

-- the first bytes of the record at a location of F
abbrev pub codeview_head_of : List ℕ → Location → List ℕ
codeview_head_of F at = bytes_at F at.rva (min at.size 24)

-- the bytes `head` are the first of the record at a location of F, and with those behind them they tell what the record does
pub record IsCodeViewOf (F : List ℕ) (at : Location) (room : ℕ) (head behind : List ℕ) (size : ℕ) : Type 0 where
  pub head_is : head ≡ codeview_head_of F at
  pub told : codeview_in head behind size ≡ codeview_of F at room

-- how many bytes behind the first 24 of a record of so many are fetched: of one that begins with `RSDS` as many as there are,
-- and as there is room for; of another none
abbrev pub fetched_behind : List ℕ → ℕ → ℕ → ℕ
fetched_behind head size room = if number_at head 0 4 == rsds_signature then min (size - 24) room else 0

-- the first 24 bytes of a record of so many, behind whose end zeros stand, and how many were fetched behind them
pub record AreFetched (at : Location) (room : ℕ) (head : List ℕ) (rest size : ℕ) : Type 0 where
  pub size_is : size ≡ at.size
  pub zeros : drop (min at.size 24) head ≡ replicate (24 - at.size) 0
  pub rest_is : rest ≡ fetched_behind (take (min at.size 24) head) at.size room

-- the first bytes of a record are fetched by one call, and those behind them, where there are any, by a second one
abbrev pub codeview_fetches : ℕ → ℕ
codeview_fetches rest = 1 + min 1 rest

-- those bytes were fetched, whatever they are, and nothing else
pub record FetchesCodeView (at : Location) (room : ℕ) (read : CodeViewRead) (old new : MeterState) : Type 0 where
  pub fetched : AreFetched at room read.head read.rest read.size
  pub books : BooksAside (codeview_fetches read.rest) (min at.size 24 + read.rest) old new
  pub counted : new.aside.bytes ≡ raised old.aside.bytes (min at.size 24 + read.rest)

-- the bytes of a record of so many that are fetched at most: its first 24, and behind them as many as there is room for
abbrev pub codeview_most : Location → ℕ → ℕ
codeview_most at room = min at.size (24 + room)

-- how many bytes of one are fetched; if the store fails, no more than those
abbrev pub codeview_cost : Location → ℕ → Result CodeViewBytes SourceFault → ℕ
codeview_cost at room (Ok bytes) = min at.size 24 + length bytes.rest.now
codeview_cost at room (Err fault) = codeview_most at room

-- and by how many calls; if the store fails, by at most two
abbrev pub codeview_calls : Result CodeViewBytes SourceFault → ℕ
codeview_calls (Ok bytes) = codeview_fetches (length bytes.rest.now)
codeview_calls (Err fault) = 2

-- the record at a location was read, its end into a buffer of so many bytes
pub record ReadsCodeView (at : Location) (room : ℕ) (buffer : List ℕ) (result : Result CodeViewRead SourceFault) (old new : MeterState) : Type 0 where
  pub reads : ReadsBeside 2 (codeview_most at room) (λ file read. IsCodeViewOf file at room (take (min read.size 24) read.head) (take read.rest buffer) read.size) result old new
  pub held : IfOk result (λ read. read.rest ≤ room)
  pub lent : IfOk result (λ read. read.rest ≤ length buffer)
  pub fetches : IfOk result (λ read. FetchesCodeView at room read old new)

-- a lister read one aside, and unless the store failed it counted just the bytes that were fetched
pub record ReadsRecordAside (at : Location) (room : ℕ) (result : Result CodeViewBytes SourceFault) (old new : ListerState) : Type 0 where
  pub aside : ReadsAside (codeview_calls result) (codeview_cost at room result) result old new
  pub counted : IfOk result (λ bytes. new.counts.aside.bytes ≡ raised old.counts.aside.bytes (codeview_cost at room (Ok bytes)))
