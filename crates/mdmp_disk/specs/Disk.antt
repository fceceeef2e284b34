-- What is known of the files of a disk, and what its calls change.
use Rattle.std.specs.Prelude.{◌≡◌, ℕ, Bool, true, false, List, [], Option, None, IsTrue, option_map}
use Rattle.mdmp_source.specs.Count.{raised}
use Rattle.mdmp_source.specs.Output.{OutState, unlent}
use Rattle.mdmp_source.specs.Store.{StoreState, IsNew}
use Rattle.mdmp_disk.specs.declared.disk.Requests.{Requests}

-- a file: its bytes, where they are known, and whether it is opened and read without fail
pub record FileState : Type 0 where
  pub bytes : Option (List ℕ)
  pub is_reliable : Bool
  -- if that is known: which read of a file fails, counted from 0; or how many bytes standard input gives before it fails
  pub fail_at : Option ℕ

-- what is known of a name
pub data FileAt : Type 0 where
  -- nothing
  unknown : FileAt
  -- that there is no file of this name
  absent : FileAt
  -- the file of this name
  present : FileState → FileAt

-- a disk as its callers see it
pub record DiskState : Type 0 where
  -- what is known of each name
  pub files : List ℕ → FileAt
  -- what standard input still gives, and whether it is read without fail
  pub input : FileState
  -- what a file holds that was just made, where it is known what such files take
  pub blank : Option (List ℕ)
  -- whether a file is being made under a name, and may be closed
  pub is_making : List ℕ → Bool
  -- its calls so far
  pub requests : Requests

-- the bytes of the file of a name, where they are known
abbrev pub bytes_of_file : FileAt → Option (List ℕ)
bytes_of_file unknown = None
bytes_of_file absent = None
bytes_of_file (present file) = file.bytes

-- ---- calls, counted

abbrev pub open_counted : Bool → Requests → Requests
open_counted true before = record before { opened = raised before.opened 1 }
open_counted false before = record before { refused = raised before.refused 1 }

abbrev pub make_counted : Bool → Requests → Requests
make_counted true before = record before { made = raised before.made 1 }
make_counted false before = record before { refused = raised before.refused 1 }

abbrev pub read_counted : Bool → Requests → Requests
read_counted true before = record before { inputs = raised before.inputs 1 }
read_counted false before = record before { refused = raised before.refused 1 }

-- the disk after a call of `open` that succeeded or was refused: its files stay
abbrev pub after_open : Bool → DiskState → DiskState
after_open is_opened before = record before { requests = open_counted is_opened before.requests }

-- the disk after one file was opened, and after one call was refused
abbrev pub opened_once : DiskState → DiskState
opened_once = after_open true

abbrev pub open_refused : DiskState → DiskState
open_refused = after_open false

-- the disk after a call of `read_input` that succeeded or was refused: nothing is left of a known input, and files stay
abbrev pub after_reading : Bool → DiskState → DiskState
after_reading is_read before = record before {
  input = record before.input { bytes = option_map (λ _. []) before.input.bytes };
  requests = read_counted is_read before.requests;
}

-- ---- what a call gives

-- a store over a file of which this is known: it has its bytes, and was not called yet; there is none over no file
abbrev pub IsOpenedFile : FileAt → StoreState → Type 0
IsOpenedFile unknown store = IsNew store None false
IsOpenedFile absent store = ⊥
IsOpenedFile (present file) store = IsNew store file.bytes file.is_reliable

-- a file of this name is known to be there
abbrev pub IsPresent : FileAt → Type 0
IsPresent unknown = ⊥
IsPresent absent = ⊥
IsPresent (present file) = Unit {0}

-- every file of another name is as it was
abbrev pub KeepsOthers : DiskState → List ℕ → DiskState → Type 0
KeepsOthers before name after = (other : List ℕ) → (other ≡ name → ⊥) → after.files other ≡ before.files other

-- a file was made under this name, which had none, and is empty
pub record IsMade (before : DiskState) (name : List ℕ) (made : OutState) (after : DiskState) : Type 0 where
  pub vacant : IsPresent (before.files name) → ⊥
  pub empty : made ≡ record { taken = before.blank; failures = unlent 0 }
  pub making : IsTrue (after.is_making name)
  pub others : KeepsOthers before name after
  pub same_blank : after.blank ≡ before.blank
  pub counted : after.requests ≡ make_counted true before.requests

-- what was taken under this name is the file's bytes
pub record IsClosed (before : DiskState) (name : List ℕ) (made : OutState) (after : DiskState) : Type 0 where
  pub bytes : bytes_of_file (after.files name) ≡ made.taken
  pub others : KeepsOthers before name after
  pub same_blank : after.blank ≡ before.blank
  pub same_requests : after.requests ≡ before.requests
