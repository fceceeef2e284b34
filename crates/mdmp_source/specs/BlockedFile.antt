-- A file of which small reads are answered from a block.
use Rattle.std.specs.Prelude.{◌≡◌, ◌≤◌, ◌<◌, ℕ, Bool, List, [], None, Result, Ok, Err, IfOk, IsOk, length}
use Rattle.mdmp_source.specs.FileBlock.{FileBlockState, GivesHeld, Holds, IsBlockFilled, used_after}
use Rattle.mdmp_source.specs.Files.{IsFileRead}
use Rattle.mdmp_source.specs.declared.blocked_file.BlockedFile.{BlockedFile}
use Rattle.mdmp_source.specs.declared.store.StoreFailed.{StoreFailed}

-- what a block holds behind a read past it: what it held, and nothing where the read failed
abbrev pub held_past : {E : Type 0} → Result ℕ E → FileBlockState → FileBlockState
held_past (Ok k) block = block
held_past (Err e) block = record block { bytes = [] }

-- the open file
abbrev pub file_of : {F A : Type 0} → BlockedFile F A → F
file_of f = f.file.file

-- nothing was read yet: the block holds nothing and has room for so many bytes, which is all its memory and of which none was
-- written to, and the file stands nowhere that is known
pub record HoldsNoBlock {F A : Type 0} (room : ℕ) (f : BlockedFile F A) : Type 0 where
  pub place : f.file.place ≡ None
  pub block : f.block ≡ record { at = 0; bytes = []; room = room; touched = 0; reach = 0; given = 0; calls = 0 }

module _ {F A : Type 0} (may_seek : F → ℕ → Bool → F → Type 0) (may_read : F → Result ℕ StoreFailed → List ℕ → F → Type 0) where
  -- a read that is answered from the block, which holds the byte at its place: nothing is read
  pub record IsHeldRead (old : BlockedFile F A) (at : ℕ) (result : Result ℕ StoreFailed) (out : List ℕ) (new : BlockedFile F A) : Type 0 where
    pub succeeds : IsOk result
    pub same_file : new.file ≡ old.file
    pub same_block : new.block ≡ used_after result old.block
    pub given : IfOk result (λ k. GivesHeld old.block at k out)

  -- a read for which a block was read at its place, as far as the reach goes, and which is answered from that block
  pub record IsFilledRead (old : BlockedFile F A) (at : ℕ) (result : Result ℕ StoreFailed) (out : List ℕ) (new : BlockedFile F A) : Type 0 where
    pub block : FileBlockState
    pub filled : IsBlockFilled may_seek may_read old.file at (length out) result old.block block new.file
    pub given : IfOk result (λ k. GivesHeld block at k out)
    pub used : new.block ≡ used_after result block

  -- a read past the block
  pub record IsReadPast (old : BlockedFile F A) (at : ℕ) (result : Result ℕ StoreFailed) (out : List ℕ) (new : BlockedFile F A) : Type 0 where
    pub read : IsFileRead may_seek may_read old.file at result out new.file
    pub holds : new.block ≡ held_past result old.block

  -- a read: from the block where that holds the byte at its place, and else of a block, if it is for less than one, or past it
  pub record IsBlockedRead (old : BlockedFile F A) (at : ℕ) (result : Result ℕ StoreFailed) (out : List ℕ) (new : BlockedFile F A) : Type 0 where
    pub held : Holds old.block at → IsHeldRead old at result out new
    pub filled : (Holds old.block at → ⊥) → length out < old.block.room → IsFilledRead old at result out new
    pub past : (Holds old.block at → ⊥) → old.block.room ≤ length out → IsReadPast old at result out new
