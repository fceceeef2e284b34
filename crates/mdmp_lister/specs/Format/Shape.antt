-- Where the records of a stream stand.
use Rattle.std.specs.Prelude.{◌≡◌, ◌≤◌, ◌<◌, ℕ, ◌+◌, ◌*◌, List, length, Option, Some, None, Result, Ok, Err, ◌==◌, ◌||◌, ◌&&◌, nat_lt, if◌then◌else◌}
use Rattle.mdmp_source.specs.Range.{IsInside, is_inside}
use Rattle.mdmp_source.specs.declared.location.Location.{Location}
use Rattle.mdmp_wire.specs.declared.entry.Entry.{Entry}
use Rattle.mdmp_wire.specs.Number.{number_at}
use Rattle.mdmp_wire.specs.Memory64List.{memory64_list_at, memory64_list_size}
use Rattle.mdmp_wire.specs.MemoryInfoList.{memory_info_list_at, memory_info_list_size}
use Rattle.mdmp_wire.specs.UnloadedList.{unloaded_list_at, unloaded_list_size}
use Rattle.mdmp_lister.specs.declared.form.Form.{Form}
use Rattle.mdmp_lister.specs.declared.form.Form.TheVariants as forms
use Rattle.mdmp_lister.specs.declared.kind.StreamKind.{StreamKind}
use Rattle.mdmp_lister.specs.declared.shape.Shape.{Shape}
use Rattle.mdmp_lister.specs.declared.fault.Fault.{Fault}
use Rattle.mdmp_lister.specs.declared.fault.FaultKind.TheVariants.{StreamOutside, ShortStream, BadHeaderSize, BadEntrySize, BadCount}
use Rattle.mdmp_lister.specs.Format.Kind.{kind_of, form_of, record_size}

-- ---- heads

-- how many bytes stand before the records of a stream of this form, at least: a single one has no head
abbrev pub head_cost : Form → ℕ
head_cost forms.Counted = 4
head_cost forms.Single = 0
head_cost forms.Ranges64 = memory64_list_size
head_cost forms.Sized32 = unloaded_list_size
head_cost forms.Sized64 = memory_info_list_size

-- how many bytes such a stream has at least, whose records have so many each: those of its head, or of its one record
abbrev pub head_size : Form → ℕ → ℕ
head_size forms.Single record_size = record_size
head_size form record_size = head_cost form

-- ---- shapes, of streams of `size` bytes at `at`

-- a list of records of the same size behind a u32 that counts them, padded to 8 bytes where the stream has
-- exactly 4 bytes more than it needs
abbrev pub counted : ℕ → ℕ → ℕ → ℕ → Result Shape Fault
counted at size record_size count =
    if nat_lt size (4 + count * record_size) then Err (record { kind = BadCount; offset = at; size = count })
    else Ok (record { first = if size == 8 + count * record_size then 8 else 4; stride = record_size; count = count })

-- one record
abbrev pub single : ℕ → Result Shape Fault
single record_size = Ok (record { first = 0; stride = record_size; count = 1 })

-- records of the same size behind a u64 that counts them and a u64 that says where the bytes of ranges begin
abbrev pub ranges64 : ℕ → ℕ → ℕ → ℕ → Result Shape Fault
ranges64 at size record_size count =
    if nat_lt size (16 + count * record_size) then Err (record { kind = BadCount; offset = at; size = count })
    else Ok (record { first = 16; stride = record_size; count = count })

-- records behind a head that says its own size, theirs, and how many there are
abbrev pub sized : ℕ → ℕ → ℕ → ℕ → ℕ → ℕ → ℕ → Result Shape Fault
sized at size head record_size first stride count =
    if nat_lt first head || nat_lt size first then Err (record { kind = BadHeaderSize; offset = at; size = first })
    else if nat_lt 0 count && nat_lt stride record_size then Err (record { kind = BadEntrySize; offset = at + 4; size = stride })
    else if nat_lt size (first + count * stride) then Err (record { kind = BadCount; offset = at + 8; size = count })
    else Ok (record { first = first; stride = stride; count = count })

-- the shape of a stream of this form that has room for its head
abbrev pub shape_behind_head : List ℕ → ℕ → ℕ → ℕ → Form → Result Shape Fault
shape_behind_head F at size record_size forms.Counted = counted at size record_size (number_at F at 4)
shape_behind_head F at size record_size forms.Single = single record_size
shape_behind_head F at size record_size forms.Ranges64 = ranges64 at size record_size (memory64_list_at F at).number_of_memory_ranges
shape_behind_head F at size record_size forms.Sized32 =
    let head = unloaded_list_at F at in
    sized at size (head_cost forms.Sized32) record_size head.size_of_header head.size_of_entry head.number_of_entries
shape_behind_head F at size record_size forms.Sized64 =
    let head = memory_info_list_at F at in
    sized at size (head_cost forms.Sized64) record_size head.size_of_header head.size_of_entry head.number_of_entries

-- the shape of a stream of this form, whose records have so many bytes each
abbrev pub shape_by_form : List ℕ → ℕ → ℕ → ℕ → Form → Result Shape Fault
shape_by_form F at size record_size form =
    if nat_lt size (head_size form record_size) then Err (record { kind = ShortStream; offset = at; size = size })
    else shape_behind_head F at size record_size form

-- the shape of a stream of this kind
unfoldable pub shape_of : List ℕ → ℕ → ℕ → StreamKind → Result Shape Fault
shape_of F at size kind = shape_by_form F at size (record_size kind) (form_of kind)

-- the records of a stream of `size` bytes lie inside it, and no two overlap: a law of every shape
pub record FitsIn (size : ℕ) (kind : StreamKind) (shape : Shape) : Type 0 where
  pub records : shape.first + shape.count * shape.stride ≤ size
  pub stride : 0 < shape.count → record_size kind ≤ shape.stride

-- the records of a list lie behind its head, of at least so many bytes, and inside its stream of `size` bytes, and each has
-- room for `record_size` bytes
pub record IsListIn (size head record_size : ℕ) (shape : Shape) : Type 0 where
  pub fits : shape.first + shape.count * shape.stride ≤ size
  pub stride : 0 < shape.count → record_size ≤ shape.stride
  pub behind : head ≤ shape.first

-- those of a 64-bit memory list stand right behind its head, and each right behind the one before it
pub record IsRangeListIn (size record_size : ℕ) (shape : Shape) : Type 0 where
  pub list : IsListIn size 16 record_size shape
  pub first : shape.first ≡ 16
  pub stride : shape.stride ≡ record_size

-- a stream of this shape lies inside a file of z bytes
pub record IsShapedIn (z : ℕ) (stream : Location) (kind : StreamKind) (shape : Shape) : Type 0 where
  pub inside : IsInside stream.rva stream.size z
  pub fits : FitsIn stream.size kind shape

-- ---- entries of any type

-- the fault of an entry whose location is not inside a file of z bytes, or none: that of an unused entry is not
-- looked at
abbrev pub location_fault : ℕ → Entry → Option Fault
location_fault z e =
    if e.stream_type == 0 || is_inside e.location.rva e.location.size z then None
    else Some (record { kind = StreamOutside; offset = e.location.rva; size = e.location.size })

-- how many records a shape has, or its fault
abbrev pub records_in : Result Shape Fault → Result ℕ Fault
records_in (Ok shape) = Ok shape.count
records_in (Err fault) = Err fault

-- an unused entry has none, and neither has an opaque stream
abbrev pub known_count : List ℕ → ℕ → ℕ → Option StreamKind → Result ℕ Fault
known_count F at size (Some kind) = records_in (shape_of F at size kind)
known_count F at size None = Ok 0

-- how many records an entry has, or its fault
abbrev pub record_count : List ℕ → Entry → Result ℕ Fault
record_count F e = behind (location_fault (length F) e) where
  behind : Option Fault → Result ℕ Fault
  behind (Some fault) = Err fault
  behind None = known_count F e.location.rva e.location.size (kind_of e.stream_type)
