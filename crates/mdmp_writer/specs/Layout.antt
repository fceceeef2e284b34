-- Where the streams of a dump stand as it is written, and why it can't be: by the sizes that a view tells.
use Rattle.std.specs.Prelude.{◌≡◌, ◌≤◌, ◌⊎◌, ℕ, ◌+◌, ◌*◌, ◌^◌, List, [], ◌∷◌, length, map, Option, Some, None, Result, Ok, Err, Bool, false, ◌==◌, ◌||◌, nat_le, if◌then◌else◌, is_some}
use Rattle.mdmp_lister.specs.Format.Kind.{kind_of}
use Rattle.mdmp_dump.specs.declared.dump.Dump.{Dump}
use Rattle.mdmp_dump.specs.declared.view.Kind.{Kind}
use Rattle.mdmp_dump.specs.declared.view.Kind.TheVariants as kinds
use Rattle.mdmp_dump.specs.Places.{up}
use Rattle.mdmp_dump.specs.Shape.{StreamShape, body_of, room_of, far_of, is_far, shape_seen}
use Rattle.mdmp_dump.specs.View.{DumpSeen, dump_seen}
use Rattle.mdmp_writer.specs.declared.fault.LayoutFault.{LayoutFault}
use Rattle.mdmp_writer.specs.declared.fault.LayoutFault.TheVariants.{RawKnownType, TooLarge}
use Rattle.mdmp_writer.specs.declared.layout.LayoutEnds.{LayoutEnds}
use Rattle.mdmp_writer.specs.declared.layout.StreamRoom.{StreamRoom}

-- ---- sizes

-- what a stream takes: its body, and then its names and parts
abbrev pub block_size : StreamShape → ℕ
block_size s = up (body_of s) + room_of s

unfoldable pub blocks_size : List StreamShape → ℕ
blocks_size [] = 0
blocks_size (s ∷ ss) = block_size s + blocks_size ss

-- what its 64-bit memory takes, behind all streams
abbrev pub far_size : StreamShape → ℕ
far_size s = up (far_of s)

unfoldable pub fars_size : List StreamShape → ℕ
fars_size [] = 0
fars_size (s ∷ ss) = far_size s + fars_size ss

-- ---- places

-- the directory stands behind the header
abbrev pub directory_at : ℕ
directory_at = 32

-- the first stream stands behind the directory
abbrev pub first_block : List StreamShape → ℕ
first_block ss = directory_at + length ss * 12

-- where the last stream ends, and the first 64-bit memory begins
abbrev pub blocks_end : List StreamShape → ℕ
blocks_end ss = first_block ss + blocks_size ss

-- where the file ends
abbrev pub file_size : List StreamShape → ℕ
file_size ss = blocks_end ss + fars_size ss

-- ---- why a dump can't be written

-- raw bytes under the type 0, or under a type whose records are known
abbrev pub is_misnamed : Kind → Bool
is_misnamed (kinds.Raw t) = t == 0 || is_some (kind_of t)
is_misnamed kind = false

-- the number of the first stream that is misnamed, counted from k on
unfoldable pub first_misnamed : ℕ → List StreamShape → Option ℕ
first_misnamed k [] = None
first_misnamed k (s ∷ ss) = if is_misnamed s.kind then Some k else first_misnamed (k + 1) ss

-- the streams end past the last address of 32 bits, or the file past the last of 64
abbrev pub is_too_large : List StreamShape → Bool
is_too_large ss = nat_le (2 ^ 32) (blocks_end ss) || nat_le (2 ^ 64) (file_size ss)

abbrev pub fault_behind : List StreamShape → Option ℕ → Option LayoutFault
fault_behind ss (Some stream) = Some (RawKnownType stream)
fault_behind ss None = if is_too_large ss then Some TooLarge else None

-- the first fault that keeps a dump of this shape from being written, or none
abbrev pub shape_fault : List StreamShape → Option LayoutFault
shape_fault ss = fault_behind ss (first_misnamed 0 ss)

-- how many bytes a dump of this shape has as it is written, or why it can't be
abbrev pub size_or : ℕ → Option LayoutFault → Result ℕ LayoutFault
size_or size None = Ok size
size_or size (Some fault) = Err fault

abbrev pub size_answer : List StreamShape → Result ℕ LayoutFault
size_answer ss = size_or (file_size ss) (shape_fault ss)

-- what a stream of this kind takes, whose body has so many bytes, and whose names and parts so many
abbrev pub stream_room : Kind → ℕ → ℕ → StreamRoom
stream_room kind body parts =
    record { kind = kind; body = body; parts = if is_far kind then 0 else parts; far = up (if is_far kind then parts else 0) }

-- what a stream takes, or that this is too much
abbrev pub IsRoom : StreamShape → Option StreamRoom → Type 0
IsRoom s (Some room) = room ≡ stream_room s.kind (body_of s) s.parts
IsRoom s None = (2 ^ 32 ≤ block_size s) ⊎ (2 ^ 64 ≤ far_size s)

-- where the streams end, and the file
pub record AreEnds (ss : List StreamShape) (ends : LayoutEnds) : Type 0 where
  pub blocks : ends.blocks ≡ blocks_end ss
  pub file : ends.file ≡ file_size ss

-- ---- of a dump

abbrev pub shapes_in : DumpSeen → List StreamShape
shapes_in x = map shape_seen x.streams

module _ {Z : Type 0} where
  -- how many bytes it has as it is written
  abbrev pub written_size : Dump Z → ℕ
  written_size d = file_size (shapes_in (dump_seen d))

  -- the first fault that keeps it from being written, or none
  abbrev pub layout_fault : Dump Z → Option LayoutFault
  layout_fault d = shape_fault (shapes_in (dump_seen d))
