-- What opening a file asks of the system, and what a read at a place asks of the file. The system tells nothing that is known
-- before: the words that begin with `may_` say which answer a call of it may have.
use Rattle.std.specs.Prelude.{◌≡◌, ◌≢◌, ◌+◌, ◌^◌, ◌⊎◌, ℕ, Bool, true, false, List, None, Option, Some, Result, Ok, Err, IfSome, IsErr, nat_lt, if◌then◌else◌}
use Rattle.std.specs.Fs.{metadata_len}
use Rattle.std.specs.declared.fs.attrs.Metadata.{Metadata}
use Rattle.mdmp_source.specs.declared.placed_file.PlacedFile.{PlacedFile}
use Rattle.mdmp_source.specs.declared.store.StoreFailed.{StoreFailed}

-- the size is the length that the metadata of the file tells
abbrev pub HasFileSize : {F : Type 0} → (F → Metadata → Type 0) → F → ℕ → Type 0
HasFileSize may_have file size = (metadata : Metadata) × may_have file metadata × (size ≡ metadata_len metadata)

-- no file was opened: the system did not open it, or opened one that did not tell its metadata, or had no memory for so many bytes
abbrev pub IsOpenRefused : {F : Type 0} → (refused : Type 0) → (may_open may_hide : F → Type 0) → (lacking : Type 0) → Type 0
IsOpenRefused {F = F} refused may_open may_hide lacking = refused ⊎ (((file : F) × may_open file × may_hide file) ⊎ lacking)

-- a file that was sought to this place: where positions are known, the position is that, or was kept if the seek failed
abbrev pub IsFileSought : Option ℕ → Option ℕ → ℕ → Bool → Type 0
IsFileSought before after at true = IfSome before (λ _. after ≡ Some at)
IsFileSought before after at false = IfSome before (λ position. after ≡ Some position)

-- where a file stands behind a read at this place, which failed or gave so many bytes: it is not known to where it
-- failed, and no place is told from 2^64 on
abbrev pub place_behind : {E : Type 0} → ℕ → Result ℕ E → Option ℕ
place_behind at (Ok k) = if nat_lt (at + k) (2 ^ 64) then Some (at + k) else None
place_behind at (Err e) = None

module _ {F : Type 0} (may_seek : F → ℕ → Bool → F → Type 0) (may_read : F → Result ℕ StoreFailed → List ℕ → F → Type 0) where
  -- a file was sought to this place once, and then read once, with this answer; or the seek failed, and it was not read
  abbrev pub ReadsBehindSeek : F → ℕ → Result ℕ StoreFailed → List ℕ → F → Type 0
  ReadsBehindSeek before at result out after = ((between : F) × may_seek before at true between × may_read between result out after)
      ⊎ (may_seek before at false after × IsErr result)

  -- a read at this place had this answer: one read of the file where it stood there, and else one behind one seek. Each byte
  -- of `out` was asked for
  pub record IsFileRead (old : PlacedFile F) (at : ℕ) (result : Result ℕ StoreFailed) (out : List ℕ) (new : PlacedFile F) : Type 0 where
    pub sought : old.place ≢ Some at → ReadsBehindSeek old.file at result out new.file
    pub stands : old.place ≡ Some at → may_read old.file result out new.file
    pub place : new.place ≡ place_behind at result
