-- The lines of the items of a listing. `<n>` is a decimal number, `<x16>` is `0x` and 16 hexadecimal digits, and `<part>` and
-- `<name>` are the texts of `extent_text` and `name_text`. The name's units are looked at only through their bytes.
use Rattle.std.specs.Prelude.{ℕ, ◌/◌, ◌%◌, min, List, [], ◌∷◌, ◌++◌, take, codes}
use Rattle.std.specs.List.{concat, flat_map}
use Rattle.std.specs.Fmt.{decimal}
use Rattle.mdmp_source.specs.declared.location.Extent.{Extent}
use Rattle.mdmp_source.specs.declared.location.Extent.TheVariants.{Empty, Absent, Inside, Outside}
use Rattle.mdmp_wire.specs.declared.units_ref.UnitsRef.{UnitsRef}
use Rattle.mdmp_wire.specs.Digits.{hex}
use Rattle.mdmp_wire.specs.Escape.{escaped}
use Rattle.mdmp_wire.specs.Units.{units_in}
use Rattle.mdmp_lister.specs.declared.name.Name.{Name}
use Rattle.mdmp_lister.specs.declared.name.Name.TheVariants.{Units, Long}
use Rattle.mdmp_lister.specs.declared.name.Name.TheVariants as names
use Rattle.mdmp_lister.specs.declared.item.StreamItem.{StreamItem}
use Rattle.mdmp_lister.specs.declared.item.ThreadItem.{ThreadItem}
use Rattle.mdmp_lister.specs.declared.item.ModuleItem.{ModuleItem}
use Rattle.mdmp_lister.specs.declared.item.UnloadedItem.{UnloadedItem}
use Rattle.mdmp_lister.specs.declared.item.ExceptionItem.{ExceptionItem}
use Rattle.mdmp_lister.specs.declared.item.SystemItem.{SystemItem}
use Rattle.mdmp_lister.specs.declared.item.MemoryInfoItem.{MemoryInfoItem}
use Rattle.mdmp_lister.specs.declared.item.ThreadNameItem.{ThreadNameItem}
use Rattle.mdmp_lister.specs.declared.item.RangeItem.{RangeItem}
use Rattle.mdmp_lister.specs.declared.item.Item.{Item}
use Rattle.mdmp_lister.specs.declared.item.Item.TheVariants as items

-- ---- parts of a line

-- a word with a size behind it
abbrev pub size_text : List ℕ → ℕ → List ℕ
size_text word size = word ++ decimal size

-- `@<offset>`
abbrev pub offset_text : ℕ → List ℕ
offset_text offset = codes "@" ++ decimal offset

-- a word with a size and an offset behind it
abbrev pub place_text : List ℕ → ℕ → ℕ → List ℕ
place_text word size offset = size_text word size ++ offset_text offset

-- `empty`, `absent <size>`, `inside <size>@<offset>` or `outside <size>@<offset>`
abbrev pub extent_text : Extent → ℕ → ℕ → List ℕ
extent_text Empty size offset = codes "empty"
extent_text Absent size offset = size_text (codes "absent ") size
extent_text Inside size offset = place_text (codes "inside ") size offset
extent_text Outside size offset = place_text (codes "outside ") size offset

-- the escaped units in double quotes
abbrev pub units_text : UnitsRef → List ℕ
units_text units = concat (codes "\"" ∷ escaped (units_in units) ∷ codes "\"" ∷ [])

-- `none`, `long <length>`, or the escaped units in double quotes
abbrev pub name_text : Name → List ℕ
name_text names.None = codes "none"
name_text (Units units) = units_text units
name_text (Long length) = size_text (codes "long ") length

-- ` <x16>`
abbrev pub value_text : ℕ → List ℕ
value_text value = codes " 0x" ++ hex 16 value

-- ` <x16>` for each of these
abbrev pub values_text : List ℕ → List ℕ
values_text values = flat_map value_text values

-- ` <x16>` for as many of the values of an exception as it is said to have, at most fifteen
abbrev pub information_text : ℕ → List ℕ → List ℕ
information_text count values = values_text (take (min count 15) values)

-- ---- lines

-- `stream <entry> type <n> size <n> rva <n>`
abbrev pub entry_line : StreamItem → List ℕ
entry_line s = concat (codes "stream " ∷ decimal s.entry ∷ codes " type " ∷ decimal s.stream_type
    ∷ codes " size " ∷ decimal s.location.size ∷ codes " rva " ∷ decimal s.location.rva ∷ codes "\n" ∷ [])

-- `thread <k> id <n> suspend <n> class <n> priority <n> teb <x16> stack <x16> <part> context <part>`
abbrev pub thread_fields : ThreadItem → List (List ℕ)
thread_fields t = codes "thread " ∷ decimal t.index ∷ codes " id " ∷ decimal t.fields.thread_id
    ∷ codes " suspend " ∷ decimal t.fields.suspend_count ∷ codes " class " ∷ decimal t.fields.priority_class
    ∷ codes " priority " ∷ decimal t.fields.priority ∷ codes " teb 0x" ∷ hex 16 t.fields.teb
    ∷ codes " stack 0x" ∷ hex 16 t.fields.stack.start_of_memory_range
    ∷ codes " " ∷ extent_text t.stack t.fields.stack.memory.size t.fields.stack.memory.rva
    ∷ codes " context " ∷ extent_text t.context t.fields.thread_context.size t.fields.thread_context.rva ∷ codes "\n" ∷ []

-- these, one behind the other
abbrev pub thread_line : ThreadItem → List ℕ
thread_line t = concat (thread_fields t)

-- `module <k> base <x16> size <n> checksum <n> time <n> version <a>.<b>.<c>.<d> cv <part> misc <part> name `, where a, b, c and d
-- are the halves of the two numbers of the file version: the line of a module up to its name
abbrev pub module_fields : ModuleItem → List (List ℕ)
module_fields m = codes "module " ∷ decimal m.index ∷ codes " base 0x" ∷ hex 16 m.fields.base_of_image
    ∷ codes " size " ∷ decimal m.fields.size_of_image ∷ codes " checksum " ∷ decimal m.fields.checksum
    ∷ codes " time " ∷ decimal m.fields.time_date_stamp
    ∷ codes " version " ∷ decimal (m.fields.version_info.file_version_ms / 65536)
    ∷ codes "." ∷ decimal (m.fields.version_info.file_version_ms % 65536)
    ∷ codes "." ∷ decimal (m.fields.version_info.file_version_ls / 65536)
    ∷ codes "." ∷ decimal (m.fields.version_info.file_version_ls % 65536)
    ∷ codes " cv " ∷ extent_text m.codeview m.fields.cv_record.size m.fields.cv_record.rva
    ∷ codes " misc " ∷ extent_text m.misc m.fields.misc_record.size m.fields.misc_record.rva
    ∷ codes " name " ∷ []

-- that, and `<name>`
abbrev pub module_line : ModuleItem → List ℕ
module_line m = concat (module_fields m ++ (name_text m.name ∷ codes "\n" ∷ []))

-- `unloaded <k> base <x16> size <n> checksum <n> time <n> name <name>`
abbrev pub unloaded_line : UnloadedItem → List ℕ
unloaded_line u = concat (codes "unloaded " ∷ decimal u.index ∷ codes " base 0x" ∷ hex 16 u.fields.base_of_image
    ∷ codes " size " ∷ decimal u.fields.size_of_image ∷ codes " checksum " ∷ decimal u.fields.checksum
    ∷ codes " time " ∷ decimal u.fields.time_date_stamp ∷ codes " name " ∷ name_text u.name ∷ codes "\n" ∷ [])

-- `exception thread <n> code 0x<8 digits> flags <n> record <x16> address <x16> parameters <n>[ <x16>]* context <part>`, where
-- the values behind the number of parameters are those of `information_text`
abbrev pub exception_line : ExceptionItem → List ℕ
exception_line x = concat (codes "exception thread " ∷ decimal x.fields.thread_id
    ∷ codes " code 0x" ∷ hex 8 x.fields.exception_code ∷ codes " flags " ∷ decimal x.fields.exception_flags
    ∷ codes " record 0x" ∷ hex 16 x.fields.exception_record ∷ codes " address 0x" ∷ hex 16 x.fields.exception_address
    ∷ codes " parameters " ∷ decimal x.fields.number_parameters
    ∷ information_text x.fields.number_parameters x.fields.exception_information
    ∷ codes " context " ∷ extent_text x.context x.fields.thread_context.size x.fields.thread_context.rva ∷ codes "\n" ∷ [])

-- `system architecture <n> level <n> revision <n> processors <n> product <n> version <major>.<minor>.<build> platform <n>
-- suite <n> csd <name>`
abbrev pub system_line : SystemItem → List ℕ
system_line s = concat (codes "system architecture " ∷ decimal s.fields.processor_architecture
    ∷ codes " level " ∷ decimal s.fields.processor_level ∷ codes " revision " ∷ decimal s.fields.processor_revision
    ∷ codes " processors " ∷ decimal s.fields.number_of_processors ∷ codes " product " ∷ decimal s.fields.product_type
    ∷ codes " version " ∷ decimal s.fields.major_version ∷ codes "." ∷ decimal s.fields.minor_version
    ∷ codes "." ∷ decimal s.fields.build_number ∷ codes " platform " ∷ decimal s.fields.platform_id
    ∷ codes " suite " ∷ decimal s.fields.suite_mask ∷ codes " csd " ∷ name_text s.name ∷ codes "\n" ∷ [])

-- `region <k> base <x16> allocation <x16> initial <n> size <n> state <n> protect <n> type <n>`
abbrev pub region_line : MemoryInfoItem → List ℕ
region_line r = concat (codes "region " ∷ decimal r.index ∷ codes " base 0x" ∷ hex 16 r.fields.base_address
    ∷ codes " allocation 0x" ∷ hex 16 r.fields.allocation_base ∷ codes " initial " ∷ decimal r.fields.allocation_protect
    ∷ codes " size " ∷ decimal r.fields.region_size ∷ codes " state " ∷ decimal r.fields.state
    ∷ codes " protect " ∷ decimal r.fields.protect ∷ codes " type " ∷ decimal r.fields.memory_type ∷ codes "\n" ∷ [])

-- `threadname <k> id <n> name <name>`
abbrev pub thread_name_line : ThreadNameItem → List ℕ
thread_name_line t = concat (codes "threadname " ∷ decimal t.index ∷ codes " id " ∷ decimal t.fields.thread_id
    ∷ codes " name " ∷ name_text t.name ∷ codes "\n" ∷ [])

-- `range <k> start <x16> <part>`
abbrev pub range_line : RangeItem → List ℕ
range_line r = concat (codes "range " ∷ decimal r.index ∷ codes " start 0x" ∷ hex 16 r.start
    ∷ codes " " ∷ extent_text r.extent r.size r.offset ∷ codes "\n" ∷ [])

-- the line of an item
abbrev pub item_line : Item → List ℕ
item_line (items.Stream s) = entry_line s
item_line (items.Thread t) = thread_line t
item_line (items.Module m) = module_line m
item_line (items.Unloaded u) = unloaded_line u
item_line (items.Exception x) = exception_line x
item_line (items.System s) = system_line s
item_line (items.MemoryInfo r) = region_line r
item_line (items.ThreadName t) = thread_name_line t
item_line (items.Range r) = range_line r
