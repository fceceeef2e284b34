-- A block of a file, and how it is read.
use Rattle.std.specs.Prelude.{◌≡◌, ◌≤◌, ◌<◌, ◌+◌, ◌-◌, ◌*◌, ◌/◌, ◌%◌, ◌^◌, ◌↔◌, ℕ, Bool, List, [], Result, Ok, Err, IsOk, length, max, min, take}
use Rattle.mdmp_source.specs.Files.{IsFileRead}
use Rattle.mdmp_source.specs.Range.{bytes_at}
use Rattle.mdmp_source.specs.declared.file_block.TheConstants.{CALL_USE, NEW_PLACE}
use Rattle.mdmp_source.specs.declared.placed_file.PlacedFile.{PlacedFile}
use Rattle.mdmp_source.specs.declared.store.StoreFailed.{StoreFailed}

-- a block as its callers see it
pub record FileBlockState : Type 0 where
  -- the bytes held, of which the first stands at the offset `at`
  pub at : ℕ
  pub bytes : List ℕ
  -- how many bytes a read into the block may give: all its memory
  pub room : ℕ
  -- how many bytes its buffer has: no more of its memory was written to
  pub touched : ℕ
  -- how many bytes the last read into the block asked for
  pub reach : ℕ
  -- how many bytes it gave, modulo 2^64, and to how many calls, modulo 2^32
  pub given : ℕ
  pub calls : ℕ

-- the byte at this offset is held
abbrev pub Holds : FileBlockState → ℕ → Type 0
Holds block at = (block.at ≤ at) × (at < block.at + length block.bytes)

-- k bytes that the block holds from this offset on stand at the front of `out`: all of them, or as many as fit
abbrev pub GivesHeld : FileBlockState → ℕ → ℕ → List ℕ → Type 0
GivesHeld block at k out = (k ≡ min (length out) (length block.bytes - (at - block.at)))
    × (take k out ≡ bytes_at block.bytes (at - block.at) k)

-- the block after it gave so many bytes to a call
abbrev pub used_by : ℕ → FileBlockState → FileBlockState
used_by k block = record block { given = (block.given + k) % 2 ^ 64; calls = (block.calls + 1) % 2 ^ 32 }

-- how many bytes of the block its calls used: each those that it was given, and CALL_USE more
abbrev pub used_of : FileBlockState → ℕ
used_of block = block.given + block.calls * CALL_USE

-- the block after a read that was answered from it, or that failed
abbrev pub used_after : {E : Type 0} → Result ℕ E → FileBlockState → FileBlockState
used_after (Ok k) block = used_by k block
used_after (Err e) block = block

-- a read at this offset follows the block: the offset is behind the block's end by less than the block's length, and half
-- of the block was used
pub record IsFollowed (block : FileBlockState) (at : ℕ) : Type 0 where
  pub behind : block.at + length block.bytes ≤ at
  pub near : at < block.at + 2 * length block.bytes
  pub used : length block.bytes / 2 ≤ used_of block

-- the reach of a read into the block, of which so many bytes are wanted: how many bytes the read asks for. If the read follows
-- the block, these are twice as many as the last read asked for, and else as many as at a new place; in both cases not fewer
-- than are wanted, and not more than the block has room for
pub record IsReach (block : FileBlockState) (at wanted reach : ℕ) : Type 0 where
  pub grown : IsFollowed block at → reach ≡ min block.room (max wanted (2 * block.reach))
  pub fallen : (IsFollowed block at → ⊥) → reach ≡ min block.room (max wanted NEW_PLACE)

-- the bytes that a read with this answer put at the front of `out`
abbrev pub given_by : {E : Type 0} → Result ℕ E → List ℕ → List ℕ
given_by (Ok k) out = take k out
given_by (Err e) out = []

-- a file was read at this place into a block, of which so many bytes are wanted: the block holds what the read gave, and
-- nothing if the read failed
pub record IsBlockFilled {F T E : Type 0} (may_seek : F → ℕ → Bool → F → Type 0)
    (may_read : F → Result ℕ StoreFailed → List ℕ → F → Type 0) (file_before : PlacedFile F)
    (at wanted : ℕ) (result : Result T E) (before after : FileBlockState) (file_after : PlacedFile F) : Type 0 where
  pub answer : Result ℕ StoreFailed
  pub bytes : List ℕ
  pub reach : IsReach before at wanted (length bytes)
  pub read : IsFileRead may_seek may_read file_before at answer bytes file_after
  pub at_place : after.at ≡ at
  pub holds : after.bytes ≡ given_by answer bytes
  pub same_room : after.room ≡ before.room
  -- the buffer is lengthened to what the read asked for, and no further
  pub touched : after.touched ≡ max before.touched (length bytes)
  pub asked : after.reach ≡ length bytes
  pub fresh : (after.given ≡ 0) × (after.calls ≡ 0)
  pub fails : IsOk result ↔ IsOk answer
