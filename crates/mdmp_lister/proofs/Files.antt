-- The bytes of worked files.
use Rattle.std.specs.Prelude.{ℕ, List, [], ◌∷◌, ◌++◌, codes, take, drop, replicate}
use Rattle.std.specs.List.{concat}
use Rattle.mdmp_wire.specs.Number.{le, zeros}

-- a system with the service pack's name: 136 bytes
abbrev pub system_file : List ℕ
system_file = 77 ∷ 68 ∷ 77 ∷ 80 ∷ 147 ∷ 167 ∷ 0 ∷ 0 ∷ 1 ∷ 0 ∷ 0 ∷ 0 ∷ 32 ∷ 0 ∷ 0 ∷ 0 ∷ 0 ∷ 0 ∷ 0 ∷ 0 ∷ 0 ∷ 0 ∷ 0 ∷ 0 ∷ 0 ∷ 0 ∷ 0 ∷ 0 ∷ 0 ∷ 0 ∷ 0 ∷ 0 ∷ 7 ∷ 0 ∷ 0 ∷ 0 ∷ 56 ∷ 0 ∷ 0 ∷ 0 ∷ 44 ∷ 0 ∷ 0 ∷ 0 ∷ 9 ∷ 0 ∷ 6 ∷ 0 ∷ 3 ∷ 0 ∷ 4 ∷ 1 ∷ 6 ∷ 0 ∷ 0 ∷ 0 ∷ 1 ∷ 0 ∷ 0 ∷ 0 ∷ 177 ∷ 29 ∷ 0 ∷ 0 ∷ 2 ∷ 0 ∷ 0 ∷ 0 ∷ 100 ∷ 0 ∷ 0 ∷ 0 ∷ 0 ∷ 1 ∷ 0 ∷ 0 ∷ 0 ∷ 0 ∷ 0 ∷ 0 ∷ 0 ∷ 0 ∷ 0 ∷ 0 ∷ 0 ∷ 0 ∷ 0 ∷ 0 ∷ 0 ∷ 0 ∷ 0 ∷ 0 ∷ 0 ∷ 0 ∷ 0 ∷ 0 ∷ 0 ∷ 0 ∷ 0 ∷ 0 ∷ 28 ∷ 0 ∷ 0 ∷ 0 ∷ 83 ∷ 0 ∷ 101 ∷ 0 ∷ 114 ∷ 0 ∷ 118 ∷ 0 ∷ 105 ∷ 0 ∷ 99 ∷ 0 ∷ 101 ∷ 0 ∷ 32 ∷ 0 ∷ 80 ∷ 0 ∷ 97 ∷ 0 ∷ 99 ∷ 0 ∷ 107 ∷ 0 ∷ 32 ∷ 0 ∷ 49 ∷ 0 ∷ 0 ∷ 0 ∷ 0 ∷ 0 ∷ []

-- a thread with a stack and a context, and an exception with a context: 292 bytes
abbrev pub crash_file : List ℕ
crash_file = 77 ∷ 68 ∷ 77 ∷ 80 ∷ 147 ∷ 167 ∷ 0 ∷ 0 ∷ 2 ∷ 0 ∷ 0 ∷ 0 ∷ 32 ∷ 0 ∷ 0 ∷ 0 ∷ 0 ∷ 0 ∷ 0 ∷ 0 ∷ 0 ∷ 0 ∷ 0 ∷ 0 ∷ 0 ∷ 0 ∷ 0 ∷ 0 ∷ 0 ∷ 0 ∷ 0 ∷ 0 ∷ 3 ∷ 0 ∷ 0 ∷ 0 ∷ 52 ∷ 0 ∷ 0 ∷ 0 ∷ 56 ∷ 0 ∷ 0 ∷ 0 ∷ 6 ∷ 0 ∷ 0 ∷ 0 ∷ 168 ∷ 0 ∷ 0 ∷ 0 ∷ 120 ∷ 0 ∷ 0 ∷ 0 ∷ 1 ∷ 0 ∷ 0 ∷ 0 ∷ 7 ∷ 0 ∷ 0 ∷ 0 ∷ 0 ∷ 0 ∷ 0 ∷ 0 ∷ 32 ∷ 0 ∷ 0 ∷ 0 ∷ 0 ∷ 0 ∷ 0 ∷ 0 ∷ 0 ∷ 80 ∷ 0 ∷ 0 ∷ 0 ∷ 0 ∷ 0 ∷ 0 ∷ 0 ∷ 112 ∷ 0 ∷ 0 ∷ 0 ∷ 0 ∷ 0 ∷ 0 ∷ 4 ∷ 0 ∷ 0 ∷ 0 ∷ 108 ∷ 0 ∷ 0 ∷ 0 ∷ 6 ∷ 0 ∷ 0 ∷ 0 ∷ 112 ∷ 0 ∷ 0 ∷ 0 ∷ 83 ∷ 84 ∷ 65 ∷ 75 ∷ 1 ∷ 2 ∷ 3 ∷ 4 ∷ 5 ∷ 6 ∷ 0 ∷ 0 ∷ 7 ∷ 0 ∷ 0 ∷ 0 ∷ 0 ∷ 0 ∷ 0 ∷ 0 ∷ 5 ∷ 0 ∷ 0 ∷ 192 ∷ 0 ∷ 0 ∷ 0 ∷ 0 ∷ 0 ∷ 0 ∷ 0 ∷ 0 ∷ 0 ∷ 0 ∷ 0 ∷ 0 ∷ 0 ∷ 16 ∷ 64 ∷ 0 ∷ 0 ∷ 0 ∷ 0 ∷ 0 ∷ 2 ∷ 0 ∷ 0 ∷ 0 ∷ 0 ∷ 0 ∷ 0 ∷ 0 ∷ 1 ∷ 0 ∷ 0 ∷ 0 ∷ 0 ∷ 0 ∷ 0 ∷ 0 ∷ 16 ∷ 0 ∷ 0 ∷ 0 ∷ 0 ∷ 0 ∷ 0 ∷ 0 ∷ 0 ∷ 0 ∷ 0 ∷ 0 ∷ 0 ∷ 0 ∷ 0 ∷ 0 ∷ 0 ∷ 0 ∷ 0 ∷ 0 ∷ 0 ∷ 0 ∷ 0 ∷ 0 ∷ 0 ∷ 0 ∷ 0 ∷ 0 ∷ 0 ∷ 0 ∷ 0 ∷ 0 ∷ 0 ∷ 0 ∷ 0 ∷ 0 ∷ 0 ∷ 0 ∷ 0 ∷ 0 ∷ 0 ∷ 0 ∷ 0 ∷ 0 ∷ 0 ∷ 0 ∷ 0 ∷ 0 ∷ 0 ∷ 0 ∷ 0 ∷ 0 ∷ 0 ∷ 0 ∷ 0 ∷ 0 ∷ 0 ∷ 0 ∷ 0 ∷ 0 ∷ 0 ∷ 0 ∷ 0 ∷ 0 ∷ 0 ∷ 0 ∷ 0 ∷ 0 ∷ 0 ∷ 0 ∷ 0 ∷ 0 ∷ 0 ∷ 0 ∷ 0 ∷ 0 ∷ 0 ∷ 0 ∷ 0 ∷ 0 ∷ 0 ∷ 0 ∷ 0 ∷ 0 ∷ 0 ∷ 0 ∷ 0 ∷ 0 ∷ 0 ∷ 0 ∷ 0 ∷ 0 ∷ 0 ∷ 0 ∷ 0 ∷ 0 ∷ 0 ∷ 0 ∷ 0 ∷ 0 ∷ 0 ∷ 0 ∷ 0 ∷ 0 ∷ 0 ∷ 0 ∷ 0 ∷ 0 ∷ 0 ∷ 0 ∷ 0 ∷ 0 ∷ 4 ∷ 0 ∷ 0 ∷ 0 ∷ 32 ∷ 1 ∷ 0 ∷ 0 ∷ 170 ∷ 187 ∷ 204 ∷ 221 ∷ []

-- a header that names so many entries at an address; all else is 0
abbrev pub head : ℕ → ℕ → List ℕ
head entries at = codes "MDMP" ++ le 4 0xA793 ++ le 4 entries ++ le 4 at ++ zeros 16

-- an entry of the directory, and a location
abbrev pub entry : ℕ → ℕ → ℕ → List ℕ
entry t size rva = le 4 t ++ le 4 size ++ le 4 rva

abbrev pub location : ℕ → ℕ → List ℕ
location size rva = le 4 size ++ le 4 rva

-- a thread with this id, and 0 in every other field
abbrev pub thread : ℕ → List ℕ
thread id = le 4 id ++ zeros 44

-- a module with this base and this address of its name
abbrev pub module_named : ℕ → ℕ → List ℕ
module_named base name = le 8 base ++ zeros 12 ++ le 4 name ++ zeros 84

-- an unloaded module
abbrev pub unloaded_named : ℕ → ℕ → List ℕ
unloaded_named base name = le 8 base ++ zeros 12 ++ le 4 name

-- a descriptor of a memory list
abbrev pub range : ℕ → ℕ → ℕ → List ℕ
range start size rva = le 8 start ++ le 4 size ++ le 4 rva

-- ---- files

abbrev pub unused_file : List ℕ
unused_file = head 1 32 ++ zeros 12

-- three entries that name one list of one thread
abbrev pub three_threads_file : List ℕ
three_threads_file = head 3 32 ++ entry 3 52 68 ++ entry 3 52 68 ++ entry 3 52 68 ++ le 4 1 ++ thread 7

-- a list of one thread, whose entry gives it so many bytes; the record stands behind so many zeros
abbrev pub thread_list_file : ℕ → ℕ → List ℕ
thread_list_file size padding = head 1 32 ++ entry 3 size 44 ++ le 4 1 ++ zeros padding ++ thread 7 ++ zeros 16

abbrev pub three_modules_file : List ℕ
three_modules_file = head 1 32 ++ entry 4 328 44 ++ le 4 3 ++ module_named 1 0 ++ module_named 2 0 ++ module_named 3 0

-- a hundred modules without names
abbrev pub hundred_modules_file : List ℕ
hundred_modules_file = head 1 32 ++ entry 4 10804 44 ++ le 4 100 ++ replicate 10800 0

-- so many entries that name one list of a hundred threads, which stands at `at` behind them
abbrev pub many_entries_file : ℕ → ℕ → List ℕ
many_entries_file entries at = head entries 32 ++ concat (replicate entries (entry 3 4804 at)) ++ le 4 100 ++ replicate 4800 0

-- two unloaded modules, 1000 bytes apart
abbrev pub spread_file : List ℕ
spread_file = head 1 32 ++ entry 14 2012 44 ++ le 4 12 ++ le 4 1000 ++ le 4 2 ++ unloaded_named 1 0 ++ replicate 976 0 ++ unloaded_named 2 0 ++ replicate 976 0

-- the same 24 bytes apart
abbrev pub close_file : List ℕ
close_file = head 1 32 ++ entry 14 60 44 ++ le 4 12 ++ le 4 24 ++ le 4 2 ++ unloaded_named 1 0 ++ unloaded_named 2 0

-- an unloaded module whose name stands at 80, with these bytes there
abbrev pub named_file : ℕ → List ℕ → List ℕ
named_file rva bytes = head 1 32 ++ entry 14 36 44 ++ le 4 12 ++ le 4 24 ++ le 4 1 ++ unloaded_named 0 rva ++ bytes

-- a system, a module whose name lies outside, and an opaque stream that does
abbrev pub faulty_file : List ℕ
faulty_file = head 3 32 ++ entry 7 56 68 ++ entry 4 112 124 ++ entry 10 5 236 ++ zeros 56 ++ le 4 1 ++ module_named 0 0xFFFFFFFF

-- two ranges of 64-bit memory, the second outside
abbrev pub memory64_file : List ℕ
memory64_file = head 1 32 ++ entry 9 48 44 ++ le 8 2 ++ le 8 92 ++ le 8 0x1000 ++ le 8 4 ++ le 8 0x2000 ++ le 8 4 ++ codes "ABCDEF"

-- three ranges of 64-bit memory that end past 2^64
abbrev pub wide_file : List ℕ
wide_file = head 1 32 ++ entry 9 64 44 ++ le 8 3 ++ le 8 108 ++ le 8 0x1000 ++ le 8 0xFFFFFFFFFFFFFFFF ++ le 8 0x2000 ++ le 8 0xFFFFFFFFFFFFFFFF ++ le 8 0x3000 ++ le 8 1

-- two ranges of memory that overlap
abbrev pub overlapping_file : List ℕ
overlapping_file = head 1 32 ++ entry 5 36 44 ++ le 4 2 ++ range 0x1000 4 80 ++ range 0x1002 4 84 ++ codes "ABCDwxyz"

abbrev pub exchanged_file : List ℕ
exchanged_file = head 1 32 ++ entry 5 36 44 ++ le 4 2 ++ range 0x1002 4 84 ++ range 0x1000 4 80 ++ codes "ABCDwxyz"

-- three unused entries, and two ranges of memory without bytes
abbrev pub four_entries_file : List ℕ
four_entries_file = head 4 32 ++ zeros 36 ++ entry 5 36 80 ++ le 4 2 ++ zeros 32

-- three ranges of memory: absent, outside and inside
abbrev pub three_ranges_file : List ℕ
three_ranges_file = head 1 32 ++ entry 5 52 44 ++ le 4 3 ++ range 0x1000 4 0 ++ range 0x2000 4 97 ++ range 0x3000 4 96 ++ codes "ABCD"

-- a range of memory that passes the last address
abbrev pub last_address_file : List ℕ
last_address_file = head 1 32 ++ entry 5 20 44 ++ le 4 1 ++ range 0xFFFFFFFFFFFFFFF8 16 64 ++ codes "ABCDEFGHIJKLMNOP"

-- sixteen entries that name one list of seventeen ranges of memory
abbrev pub sixteen_entries_file : List ℕ
sixteen_entries_file = head 16 32 ++ concat (replicate 16 (entry 5 276 224)) ++ le 4 17 ++ zeros 272

-- a thread whose stack is absent, and whose context is the byte behind its list
abbrev pub absent_stack_file : List ℕ
absent_stack_file = head 1 32 ++ entry 3 52 44 ++ le 4 1 ++ le 4 7 ++ zeros 20 ++ range 0x7000 256 0 ++ location 1 96 ++ 0xAA ∷ []

-- an unloaded list of 36 bytes with this head
abbrev pub unloaded_head_file : ℕ → ℕ → ℕ → List ℕ
unloaded_head_file first stride count = head 1 32 ++ entry 14 36 44 ++ le 4 first ++ le 4 stride ++ le 4 count ++ zeros 24

-- a region of memory
abbrev pub region_file : List ℕ
region_file = head 1 32 ++ entry 16 64 44 ++ le 4 16 ++ le 4 48 ++ le 8 1 ++ le 8 0x10000 ++ le 8 0x10000 ++ le 4 4 ++ zeros 4 ++ le 8 4096 ++ le 4 4096 ++ le 4 4 ++ le 4 131072 ++ zeros 4

-- a list of regions whose count is as high as can be
abbrev pub long_list_file : List ℕ
long_list_file = head 1 32 ++ entry 16 16 44 ++ le 4 16 ++ le 4 0xFFFFFFFF ++ le 8 0xFFFFFFFFFFFFFFFF

-- a module with a version
abbrev pub version_file : List ℕ
version_file = head 1 32 ++ entry 4 112 44 ++ le 4 1 ++ le 8 0x140000000 ++ le 4 4096 ++ zeros 12 ++ zeros 8 ++ le 4 0x000A0000 ++ le 4 0x4A610001 ++ zeros 36 ++ zeros 32

-- an opaque stream of five bytes
abbrev pub opaque_file : List ℕ
opaque_file = head 1 32 ++ entry 10 5 44 ++ 1 ∷ 2 ∷ 3 ∷ 4 ∷ 5 ∷ []

-- the CodeView record of a symbol file
abbrev pub codeview_bytes : List ℕ
codeview_bytes = 82 ∷ 83 ∷ 68 ∷ 83 ∷ 51 ∷ 34 ∷ 17 ∷ 0 ∷ 85 ∷ 68 ∷ 119 ∷ 102 ∷ 136 ∷ 153 ∷ 170 ∷ 187 ∷ 204 ∷ 221 ∷ 238 ∷ 255 ∷ 1 ∷ 0 ∷ 0 ∷ 0 ∷ 97 ∷ 46 ∷ 112 ∷ 100 ∷ 98 ∷ 0 ∷ []

-- a module with that record behind it
abbrev pub codeview_file : List ℕ
codeview_file = head 1 32 ++ entry 4 112 44 ++ le 4 1 ++ zeros 76 ++ location 30 156 ++ zeros 24 ++ codeview_bytes

-- a module whose CodeView record is absent, and whose other debug record lies outside
abbrev pub misc_file : List ℕ
misc_file = head 1 32 ++ entry 4 112 44 ++ le 4 1 ++ zeros 76 ++ location 30 0 ++ location 30 0xFFFFFFFF ++ zeros 16

-- a system with its name, a thread, no modules, an exception, no memory and an opaque stream: 444 bytes
abbrev pub six_streams_file : List ℕ
six_streams_file =
    head 6 32 ++ entry 7 56 104 ++ entry 3 52 196 ++ entry 4 4 260 ++ entry 6 168 264 ++ entry 5 4 436 ++ entry 12 4 440
    ++ take 24 (drop 44 system_file) ++ le 4 160 ++ take 28 (drop 72 system_file) ++ take 36 (drop 100 system_file)
    ++ take 40 (drop 56 crash_file) ++ le 4 248 ++ location 6 252 ++ take 12 (drop 108 crash_file)
    ++ zeros 4 ++ take 160 (drop 120 crash_file) ++ location 4 432 ++ drop 288 crash_file
    ++ zeros 4 ++ 1 ∷ 2 ∷ 3 ∷ 4 ∷ []
