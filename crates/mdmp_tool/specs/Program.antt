-- How the program ends, by its arguments.
use Rattle.std.specs.Prelude.{◌≡◌, ℕ, List, codes, drop, map}
use Rattle.std.specs.declared.io.ErrorKind.{ErrorKind}
use Rattle.std.specs.declared.io.ErrorKind.TheVariants.{OutOfMemory}
use Rattle.std.specs.declared.string.String.{String}
use denote.Ref.{Bor}
use Rattle.mdmp_disk.specs.declared.disk.Requests.{Requests}
use Rattle.mdmp_disk.specs.System.{no_requests, system}
use Rattle.mdmp_engines.specs.declared.fault.ToolFault.TheVariants.{Memory}
use Rattle.mdmp_tool.specs.Words.{DiskChange, EndsWords, Outputs, Refuses, RefusesFault}

-- the words are the arguments without the first, which is the program's name
abbrev pub words_behind : {Z : Type 0} → List (String Z) → List (List ℕ)
words_behind args = map (λ arg. arg.bytes.items) (drop 1 args)

-- the arguments could not be read: for want of memory, or since one of them is no text, which is a bad command line
pub record EndsUnread (kind : ErrorKind) (before : Outputs) (status : ℕ) (after : Outputs) : Type 0 where
  pub wanting : kind ≡ OutOfMemory → RefusesFault Memory before status after
  pub bad : (kind ≡ OutOfMemory → ⊥) → Refuses 2 (codes "bad command line") before status after

-- it ends as these words say; or memory was wanting for them
pub data EndsGiven (Z : Type 0) (texts : List (List ℕ)) (disk : DiskChange) (before : Outputs) (status : ℕ) (after : Outputs) : Type 0 where
  wanting : disk.new ≡ disk.old → RefusesFault Memory before status after → EndsGiven Z texts disk before status after
  run : (words : List (Bor (List ℕ))) → map (λ word. word.now) words ≡ texts → EndsWords Z words disk before status after → EndsGiven Z texts disk before status after

-- it ends so by some arguments, over the disk of the system
pub data EndsSomehow (Z : Type 0) (before : Outputs) (status : ℕ) (after : Outputs) : Type 0 where
  given : (texts : List (List ℕ)) (requests : Requests) → EndsGiven Z texts (record { old = system no_requests; new = system requests }) before status after
      → EndsSomehow Z before status after
  unread : (kind : ErrorKind) → EndsUnread kind before status after → EndsSomehow Z before status after
