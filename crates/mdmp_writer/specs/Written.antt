-- The bytes of a dump: its header, its directory, a block for each stream, and 64-bit memory.
use Rattle.std.specs.Prelude.{◌≡◌, ℕ, ◌+◌, ◌-◌, ◌*◌, List, [], ◌∷◌, ◌++◌, length, replicate, Option, Some, None, if◌then◌else◌}
use Rattle.mdmp_wire.specs.declared.entry.Entry.{Entry}
use Rattle.mdmp_wire.specs.declared.header.Header.{Header}
use Rattle.mdmp_wire.specs.Entry.{entry_bytes}
use Rattle.mdmp_wire.specs.Header.{header_bytes}
use Rattle.mdmp_wire.specs.HeaderFault.{minidump_signature, minidump_version}
use Rattle.mdmp_wire.specs.Memory64List.{memory64_list_bytes}
use Rattle.mdmp_wire.specs.MemoryInfoList.{memory_info_list_bytes}
use Rattle.mdmp_wire.specs.Number.{le}
use Rattle.mdmp_wire.specs.UnloadedList.{unloaded_list_bytes}
use Rattle.mdmp_lister.specs.declared.form.Form.{Form}
use Rattle.mdmp_lister.specs.declared.form.Form.TheVariants as forms
use Rattle.mdmp_lister.specs.declared.kind.StreamKind.{StreamKind}
use Rattle.mdmp_lister.specs.Format.Kind.{form_of, kind_of, record_size}
use Rattle.mdmp_lister.specs.Format.Shape.{head_cost}
use Rattle.mdmp_dump.specs.declared.dump.Dump.{Dump}
use Rattle.mdmp_dump.specs.declared.view.HeaderFields.{HeaderFields}
use Rattle.mdmp_dump.specs.declared.view.Kind.{Kind}
use Rattle.mdmp_dump.specs.declared.view.Kind.TheVariants as kinds
use Rattle.mdmp_dump.specs.Placed.{bytes_in, fields_room, seen_parts, seen_row}
use Rattle.mdmp_dump.specs.Places.{up, bytes_location}
use Rattle.mdmp_dump.specs.Seen.{Seen}
use Rattle.mdmp_dump.specs.Shape.{ViewShape, StreamShape, body_of, far_of, is_far, shape_seen}
use Rattle.mdmp_dump.specs.View.{DumpSeen, StreamSeen, dump_seen}
use Rattle.mdmp_writer.specs.Layout.{block_size, blocks_end, directory_at, far_size, first_block, shapes_in}

-- ---- padding

-- the zeros behind n bytes, up to a multiple of 4
abbrev pub padding : ℕ → List ℕ
padding n = replicate (up n - n) 0

abbrev pub padded : List ℕ → List ℕ
padded bytes = bytes ++ padding (length bytes)

-- some parts, one behind the other, each padded
unfoldable pub all_padded : List (List ℕ) → List ℕ
all_padded [] = []
all_padded (part ∷ parts) = padded part ++ all_padded parts

-- ---- a stream

-- what stands before records of this size, so many, of a stream of this form whose 64-bit memory begins at a place
abbrev pub head_by_form : Form → ℕ → ℕ → ℕ → List ℕ
head_by_form forms.Counted size count far = le 4 count
head_by_form forms.Single size count far = []
head_by_form forms.Ranges64 size count far = memory64_list_bytes (record { number_of_memory_ranges = count; base_rva = far })
head_by_form forms.Sized32 size count far =
    unloaded_list_bytes (record { size_of_header = head_cost forms.Sized32; size_of_entry = size; number_of_entries = count })
head_by_form forms.Sized64 size count far =
    memory_info_list_bytes (record { size_of_header = head_cost forms.Sized64; size_of_entry = size; number_of_entries = count })

-- the same of a stream of this kind; nothing of one whose records are not known
abbrev pub head_by_kind : Option StreamKind → ℕ → ℕ → List ℕ
head_by_kind (Some kind) count far = head_by_form (form_of kind) (record_size kind) count far
head_by_kind None count far = []

-- of this type
abbrev pub head_text : ℕ → ℕ → ℕ → List ℕ
head_text t count far = head_by_kind (kind_of t) count far

-- the records, where the names and parts of the first one begin at a place, and those of the next behind them
unfoldable pub rows : ℕ → List Seen → List ℕ
rows at [] = []
rows at (x ∷ xs) = seen_row x at ++ rows (at + fields_room x.fields) xs

-- their names and parts, record by record
unfoldable pub parts_of : List Seen → List (List ℕ)
parts_of [] = []
parts_of (x ∷ xs) = seen_parts x ++ parts_of xs

-- a stream without its names and parts, which begin at a place; its 64-bit memory begins at another
abbrev pub body_text_by : Kind → List Seen → List ℕ → ℕ → ℕ → List ℕ
body_text_by kinds.Unused records raw at far = []
body_text_by (kinds.Known t) records raw at far = head_text t (length records) far ++ rows at records
body_text_by (kinds.Raw t) records raw at far = raw

abbrev pub body_text : StreamSeen → ℕ → ℕ → List ℕ
body_text s at far = body_text_by s.kind s.records s.raw at far

-- a stream at a place, and behind it its names and parts: each begins at a multiple of 4
abbrev pub block_text : StreamSeen → ℕ → ℕ → List ℕ
block_text s at far =
    let size = body_of (shape_seen s) in
    body_text s (at + up size) far ++ padding size ++ all_padded (parts_of s.records)

-- ---- 64-bit memory

-- the bytes of its ranges, one behind the other
unfoldable pub ranges_text : List Seen → List ℕ
ranges_text [] = []
ranges_text (x ∷ xs) = bytes_in x 0 ++ ranges_text xs

-- those of a stream, if it is of 64-bit memory
abbrev pub far_text : StreamSeen → List ℕ
far_text s = (if is_far s.kind then ranges_text s.records else []) ++ padding (far_of (shape_seen s))

-- ---- all streams

-- blocks, one behind the other: the first stands at a place, and the first 64-bit memory at another
unfoldable pub blocks : List StreamSeen → ℕ → ℕ → List ℕ
blocks [] at far = []
blocks (s ∷ ss) at far = block_text s at far ++ blocks ss (at + block_size (shape_seen s)) (far + far_size (shape_seen s))

unfoldable pub far_texts : List StreamSeen → List ℕ
far_texts [] = []
far_texts (s ∷ ss) = far_text s ++ far_texts ss

-- the type that a stream has in the directory
abbrev pub type_by : Kind → ℕ
type_by kinds.Unused = 0
type_by (kinds.Known t) = t
type_by (kinds.Raw t) = t

-- the entry of a stream of this kind, whose body has so many bytes, at a place; one without bytes names the address 0
abbrev pub entry_by : Kind → ℕ → ℕ → Entry
entry_by kind body at = record { stream_type = type_by kind; location = bytes_location body at }

abbrev pub written_entry : StreamShape → ℕ → Entry
written_entry s at = entry_by s.kind (body_of s) at

-- the entries of streams, of which the first stands at a place
unfoldable pub directory : List StreamShape → ℕ → List ℕ
directory [] at = []
directory (s ∷ ss) at = entry_bytes (written_entry s at) ++ directory ss (at + block_size s)

-- ---- the file

abbrev pub header_of : HeaderFields → ℕ → Header
header_of h count = record {
  signature = minidump_signature;
  version = minidump_version + 65536 * h.version_high;
  number_of_streams = count;
  stream_directory_rva = directory_at;
  checksum = h.checksum;
  time_date_stamp = h.time;
  flags = h.flags;
}

-- the bytes of a dump as a view gives it
abbrev pub seen_text : DumpSeen → List ℕ
seen_text x =
    let ss = shapes_in x in
    header_bytes (header_of x.header (length ss)) ++ directory ss (first_block ss) ++ blocks x.streams (first_block ss) (blocks_end ss) ++ far_texts x.streams

-- the bytes of a dump
abbrev pub written : {Z : Type 0} → Dump Z → List ℕ
written d = seen_text (dump_seen d)

-- of a view of this shape, whatever it holds: these bytes begin with its header and its directory
pub record BeginsWith (shape : ViewShape) (text : List ℕ) : Type 0 where
  pub rest : List ℕ
  pub is : text ≡ header_bytes (header_of shape.header (length shape.streams)) ++ directory shape.streams (first_block shape.streams) ++ rest
