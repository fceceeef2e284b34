-- A disk in memory, as its callers see it.
use Rattle.std.specs.Prelude.{◌≡◌, ℕ, Bool, true, false, ◌&&◌, List, [], ◌∷◌, Option, Some, None, is_none, if◌then◌else◌}
use Rattle.std.specs.Str.{bytes_eq}
use denote.Ref.{Bor}
use Rattle.mdmp_disk.specs.declared.disk.Requests.{Requests}
use Rattle.mdmp_disk.specs.declared.memory_disk.GivenFile.{GivenFile}
use Rattle.mdmp_disk.specs.declared.memory_disk.GivenInput.{GivenInput}
use Rattle.mdmp_disk.specs.Disk.{DiskState, FileAt, FileState, absent, present, unknown}

-- a file that was given, which is read without fail where no read of it fails
abbrev pub given_file : GivenFile → FileAt
given_file file = present (record { bytes = Some file.bytes.now; is_reliable = is_none file.fail_at; fail_at = file.fail_at })

-- the input that was given, which is read without fail where it does not fail
abbrev pub given_input : GivenInput → FileState
given_input input = record { bytes = Some input.bytes.now; is_reliable = is_none input.fail_at; fail_at = input.fail_at }

-- an input of no bytes, which is read without fail
abbrev pub no_input : FileState
no_input = record { bytes = Some []; is_reliable = true; fail_at = None }

-- a file of these bytes, which may be refused
abbrev pub kept_file : List ℕ → FileAt
kept_file bytes = present (record { bytes = Some bytes; is_reliable = false; fail_at = None })

-- what is known of a name where some files are there: the first of that name
unfoldable pub given_at : List GivenFile → List ℕ → FileAt
given_at [] name = absent
given_at (file ∷ files) name = if bytes_eq file.name.now name then given_file file else given_at files name

-- the same of a file that was found, or was not
abbrev pub known_of : Option GivenFile → FileAt
known_of (Some file) = given_file file
known_of None = absent

-- bytes that are lent, where they are known
abbrev pub IsShown : Option (Bor (List ℕ)) → Option (List ℕ) → Type 0
IsShown (Some lent) wanted = Some lent.now ≡ wanted
IsShown None wanted = None ≡ wanted

-- what is known of a name on a disk of these files, and of one file more where it was made
abbrev pub memory_files : List GivenFile → Bool → List ℕ → List ℕ → List ℕ → FileAt
memory_files given has_made made_name made_bytes name = if has_made && bytes_eq made_name name then kept_file made_bytes else given_at given name

-- a store over a file of which this is known fails in this read: the one that the file says
abbrev pub FailsAsGiven : FileAt → Option ℕ → Type 0
FailsAsGiven unknown place = Unit {0}
FailsAsGiven absent place = Unit {0}
FailsAsGiven (present file) place = place ≡ file.fail_at

-- a disk of these files and this input, and of one file more where it was made
abbrev pub memory_state : List GivenFile → FileState → Bool → List ℕ → List ℕ → Requests → DiskState
memory_state given input has_made made_name made_bytes requests = record {
  input = input;
  files = memory_files given has_made made_name made_bytes;
  blank = Some [];
  is_making = λ name. has_made && bytes_eq made_name name;
  requests = requests;
}
