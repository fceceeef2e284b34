-- Worked files, listed by the definitions.
use Rattle.std.proofs.Common.{◌≡◌, [], ◌∷◌, ◌++◌, Some, None, Ok, Err, refl, take}
use Rattle.std.specs.Prelude.{codes, length, map, replicate, sum}
use Rattle.mdmp_source.specs.declared.location.Extent.TheVariants.{Empty, Absent, Inside, Outside}
use Rattle.mdmp_wire.specs.Number.{number_at, numbers_at, array_at, le, zeros}
use Rattle.mdmp_lister.specs.declared.fault.FaultKind.TheVariants.{StreamOutside, ShortStream, BadHeaderSize, BadEntrySize, BadCount, NameLengthOutside}
use Rattle.mdmp_lister.specs.declared.fault.OpenFault.TheVariants.{TooShort, BadSignature, BadVersion, DirectoryOutside}
use Rattle.mdmp_lister.specs.declared.item.Item.TheVariants.{Thread, Module, Exception, MemoryInfo}
use Rattle.mdmp_lister.specs.declared.name.Name.TheVariants.{Units, Long}
use Rattle.mdmp_lister.specs.declared.name.Name.TheVariants as names
use Rattle.mdmp_lister.specs.declared.choice.Choice.TheVariants.{All, Types}
use Rattle.mdmp_lister.specs.Format.Name.{name_at}
use Rattle.mdmp_lister.specs.Format.Shape.{shape_of, record_count}
use Rattle.mdmp_lister.specs.Format.Item.{sizes_before}
use Rattle.mdmp_lister.specs.Format.Listing.{listing, listing_from, verdicts, entry_count, entries_from, only_chosen, entry_of}
use Rattle.mdmp_lister.specs.Format.Numbers.{listed_entries, sizes_of, listed_bytes, listed_sizes, range_count, answers_of, names_reached}
use Rattle.mdmp_lister.specs.Format.Bounds.{held_bound, fetch_bound, call_bound}
use Rattle.mdmp_lister.specs.Format.Refusal.{opening_fault}
use Rattle.mdmp_lister.specs.Format.Ranges.{ranges_of}
use Rattle.mdmp_lister.proofs.Files.{crash_file, head, entry, unused_file, three_threads_file, thread_list_file, three_modules_file, hundred_modules_file, many_entries_file, spread_file, close_file, faulty_file, absent_stack_file, unloaded_head_file, region_file, long_list_file, version_file, opaque_file, codeview_file, misc_file, six_streams_file}
use Rattle.mdmp_lister.proofs.RowWords.{at_location, stream, numbered, plain_thread, fault_of, run, bases, debug_records, streams, last_name}

-- a file without entries opens, wherever its directory is
empty-opens : opening_fault (head 0 0xFFFFFFFF) All ≡ None
unfolding number_at numbers_at array_at le name_at shape_of entries_from only_chosen sizes_before
empty-opens = refl

empty-listing : listing (head 0 0xFFFFFFFF) All 0 ≡ run [] None
unfolding number_at numbers_at array_at le name_at shape_of entries_from only_chosen sizes_before
empty-listing = refl

empty-entries : entry_count (head 0 0xFFFFFFFF) ≡ 0
unfolding number_at numbers_at array_at le name_at shape_of entries_from only_chosen sizes_before
empty-entries = refl

empty-ranges : range_count (head 0 0xFFFFFFFF) All ≡ 0
unfolding number_at numbers_at array_at le name_at shape_of entries_from only_chosen sizes_before
empty-ranges = refl

empty-bytes : listed_bytes (head 0 0xFFFFFFFF) All ≡ 0
unfolding number_at numbers_at array_at le name_at shape_of entries_from only_chosen sizes_before
empty-bytes = refl

empty-reached : names_reached (answers_of (listing (head 0 0xFFFFFFFF) All 0)) ≡ 0
unfolding number_at numbers_at array_at le name_at shape_of entries_from only_chosen sizes_before
empty-reached = refl

empty-held : held_bound 168 0 (entry_count (head 0 0xFFFFFFFF)) (range_count (head 0 0xFFFFFFFF) All) ≡ 168
unfolding number_at numbers_at array_at le name_at shape_of entries_from only_chosen sizes_before
empty-held = refl

empty-fetched : fetch_bound 0 (entry_count (head 0 0xFFFFFFFF)) (listed_bytes (head 0 0xFFFFFFFF) All) (names_reached (answers_of (listing (head 0 0xFFFFFFFF) All 0))) ≡ 32
unfolding number_at numbers_at array_at le name_at shape_of entries_from only_chosen sizes_before
empty-fetched = refl

short-file : opening_fault (take 31 (head 0 0xFFFFFFFF)) All ≡ Some (TooShort 31)
unfolding number_at numbers_at array_at le name_at shape_of entries_from only_chosen sizes_before
short-file = refl

bad_signature : opening_fault (codes "PMDM" ++ le 4 0xA793 ++ zeros 24) All ≡ Some BadSignature
unfolding number_at numbers_at array_at le name_at shape_of entries_from only_chosen sizes_before
bad_signature = refl

signature_first : opening_fault (codes "PMDM" ++ le 4 0xA794 ++ zeros 24) All ≡ Some BadSignature
unfolding number_at numbers_at array_at le name_at shape_of entries_from only_chosen sizes_before
signature_first = refl

bad_version : opening_fault (codes "MDMP" ++ le 4 0xA794 ++ zeros 24) All ≡ Some (BadVersion 0xA794)
unfolding number_at numbers_at array_at le name_at shape_of entries_from only_chosen sizes_before
bad_version = refl

high_version : opening_fault (codes "MDMP" ++ le 4 0x12AAA793 ++ zeros 24) All ≡ None
unfolding number_at numbers_at array_at le name_at shape_of entries_from only_chosen sizes_before
high_version = refl

wide_directory : opening_fault (head 0xFFFFFFFF 32 ++ zeros 12) All ≡ Some (DirectoryOutside 32 51539607540)
unfolding number_at numbers_at array_at le name_at shape_of entries_from only_chosen sizes_before
wide_directory = refl

cut_directory : opening_fault (take 43 unused_file) All ≡ Some (DirectoryOutside 32 12)
unfolding number_at numbers_at array_at le name_at shape_of entries_from only_chosen sizes_before
cut_directory = refl

-- an unused entry, whose location is not looked at
unused-listing : listing unused_file All 0 ≡ run (stream 0 0 0 0 ∷ []) None
unfolding number_at numbers_at array_at le name_at shape_of entries_from only_chosen sizes_before
unused-listing = refl

unused-wild : listing (head 1 32 ++ entry 0 5 0xFFFFFFFF) All 0 ≡ run (stream 0 0 5 0xFFFFFFFF ∷ []) None
unfolding number_at numbers_at array_at le name_at shape_of entries_from only_chosen sizes_before
unused-wild = refl

-- a list that three entries name is listed three times
three_threads-listing : listing three_threads_file All 0 ≡ run (stream 0 3 52 68 ∷ plain_thread 0 ∷ stream 1 3 52 68 ∷ plain_thread 1 ∷ stream 2 3 52 68 ∷ plain_thread 2 ∷ []) None
unfolding number_at numbers_at array_at le name_at shape_of entries_from only_chosen sizes_before
three_threads-listing = refl

-- what is left from entry 2 on
three_threads-rest : listing_from three_threads_file All 0 2 ≡ run (stream 2 3 52 68 ∷ plain_thread 2 ∷ []) None
unfolding number_at numbers_at array_at le name_at shape_of entries_from only_chosen sizes_before
three_threads-rest = refl

three_threads-bytes : listed_bytes three_threads_file All ≡ 156
unfolding number_at numbers_at array_at le name_at shape_of entries_from only_chosen sizes_before
three_threads-bytes = refl

three_threads-held : held_bound 168 0 3 (range_count three_threads_file All) ≡ 204
unfolding number_at numbers_at array_at le name_at shape_of entries_from only_chosen sizes_before
three_threads-held = refl

three_threads-fetched : fetch_bound 0 3 (listed_bytes three_threads_file All) 0 ≡ 272
unfolding number_at numbers_at array_at le name_at shape_of entries_from only_chosen sizes_before
three_threads-fetched = refl

no_chosen : listing three_threads_file (Types (4 ∷ [])) 0 ≡ run [] None
unfolding number_at numbers_at array_at le name_at shape_of entries_from only_chosen sizes_before
no_chosen = refl

-- a list of one thread, padded only where it has exactly four bytes more
thread_list-52 : listing (thread_list_file 52 0) All 0 ≡ run (stream 0 3 52 44 ∷ plain_thread 0 ∷ []) None
unfolding number_at numbers_at array_at le name_at shape_of entries_from only_chosen sizes_before
thread_list-52 = refl

thread_list-56 : listing (thread_list_file 56 4) All 0 ≡ run (stream 0 3 56 44 ∷ plain_thread 0 ∷ []) None
unfolding number_at numbers_at array_at le name_at shape_of entries_from only_chosen sizes_before
thread_list-56 = refl

thread_list-60 : listing (thread_list_file 60 0) All 0 ≡ run (stream 0 3 60 44 ∷ plain_thread 0 ∷ []) None
unfolding number_at numbers_at array_at le name_at shape_of entries_from only_chosen sizes_before
thread_list-60 = refl

thread_list-51 : listing (thread_list_file 51 0) All 0 ≡ run (stream 0 3 51 44 ∷ []) (Some (fault_of 0 None BadCount 44 1))
unfolding number_at numbers_at array_at le name_at shape_of entries_from only_chosen sizes_before
thread_list-51 = refl

thread_list-3 : listing (thread_list_file 3 0) All 0 ≡ run (stream 0 3 3 44 ∷ []) (Some (fault_of 0 None ShortStream 44 3))
unfolding number_at numbers_at array_at le name_at shape_of entries_from only_chosen sizes_before
thread_list-3 = refl

-- a fault of a stream that is not chosen is not told
unchosen-listing : listing (thread_list_file 51 0) (Types (5 ∷ 9 ∷ [])) 0 ≡ run [] None
unfolding number_at numbers_at array_at le name_at shape_of entries_from only_chosen sizes_before
unchosen-listing = refl

unchosen-opens : opening_fault (thread_list_file 51 0) (Types (5 ∷ 9 ∷ [])) ≡ None
unfolding number_at numbers_at array_at le name_at shape_of entries_from only_chosen sizes_before
unchosen-opens = refl

unchosen-ranges : ranges_of (listing (thread_list_file 51 0) (Types (5 ∷ 9 ∷ [])) 0).items ≡ []
unfolding number_at numbers_at array_at le name_at shape_of entries_from only_chosen sizes_before
unchosen-ranges = refl

-- a known stream of size 0 is too short, wherever it is
known_empty : (listing (head 1 32 ++ entry 3 0 0xFFFFFFFF) All 0).fault ≡ Some (fault_of 0 None ShortStream 0xFFFFFFFF 0)
unfolding number_at numbers_at array_at le name_at shape_of entries_from only_chosen sizes_before
known_empty = refl

-- three modules in a row
three_modules-bases : bases (listing three_modules_file All 0).items ≡ 0 ∷ 1 ∷ 1 ∷ 2 ∷ 2 ∷ 3 ∷ []
unfolding number_at numbers_at array_at le name_at shape_of entries_from only_chosen sizes_before
three_modules-bases = refl

three_modules-held : held_bound 168 0 1 (range_count three_modules_file All) ≡ 180
unfolding number_at numbers_at array_at le name_at shape_of entries_from only_chosen sizes_before
three_modules-held = refl

three_modules-fetched : fetch_bound 0 1 (listed_bytes three_modules_file All) 0 ≡ 388
unfolding number_at numbers_at array_at le name_at shape_of entries_from only_chosen sizes_before
three_modules-fetched = refl

three_modules-calls : call_bound 168 1 (listed_sizes three_modules_file All) 0 ≡ 333
unfolding number_at numbers_at array_at le name_at shape_of entries_from only_chosen sizes_before
three_modules-calls = refl

-- a hundred modules in one window
hundred_modules-calls : call_bound 65536 (entry_count hundred_modules_file) (listed_sizes hundred_modules_file All) 0 ≡ 5
unfolding number_at numbers_at array_at le name_at shape_of entries_from only_chosen sizes_before
hundred_modules-calls = refl

-- unloaded modules 1000 bytes apart
spread-bases : bases (listing spread_file All 0).items ≡ 0 ∷ 1 ∷ 1 ∷ 2 ∷ []
unfolding number_at numbers_at array_at le name_at shape_of entries_from only_chosen sizes_before
spread-bases = refl

spread-fetched : fetch_bound 0 1 (listed_bytes spread_file All) 0 ≡ 2072
unfolding number_at numbers_at array_at le name_at shape_of entries_from only_chosen sizes_before
spread-fetched = refl

-- unloaded modules 24 bytes apart
spread-close : bases (listing close_file All 0).items ≡ 0 ∷ 1 ∷ 1 ∷ 2 ∷ []
unfolding number_at numbers_at array_at le name_at shape_of entries_from only_chosen sizes_before
spread-close = refl

spread-close-fetched : fetch_bound 0 (entry_count close_file) (listed_bytes close_file All) 0 ≡ 120
unfolding number_at numbers_at array_at le name_at shape_of entries_from only_chosen sizes_before
spread-close-fetched = refl

long_list : listing long_list_file All 0 ≡ run (stream 0 16 16 44 ∷ []) (Some (fault_of 0 None BadCount 52 18446744073709551615))
unfolding number_at numbers_at array_at le name_at shape_of entries_from only_chosen sizes_before
long_list = refl

long_list64 : (listing (head 1 32 ++ entry 9 16 44 ++ le 8 0xFFFFFFFFFFFFFFFF ++ zeros 8) All 0).fault ≡ Some (fault_of 0 None BadCount 44 18446744073709551615)
unfolding number_at numbers_at array_at le name_at shape_of entries_from only_chosen sizes_before
long_list64 = refl

long_thread_list : (listing (head 1 32 ++ entry 3 4 44 ++ le 4 0xFFFFFFFF) All 0).fault ≡ Some (fault_of 0 None BadCount 44 4294967295)
unfolding number_at numbers_at array_at le name_at shape_of entries_from only_chosen sizes_before
long_thread_list = refl

-- the items before the first fault, and that fault
faulty-fault : (listing faulty_file All 0).fault ≡ Some (fault_of 1 (Some 0) NameLengthOutside 4294967295 4)
unfolding number_at numbers_at array_at le name_at shape_of entries_from only_chosen sizes_before
faulty-fault = refl

faulty-items : map (λ x. last_name (x ∷ [])) (listing faulty_file All 0).items ≡ None ∷ Some names.None ∷ None ∷ []
unfolding number_at numbers_at array_at le name_at shape_of entries_from only_chosen sizes_before
faulty-items = refl

-- each entry has a verdict
faulty-verdicts : verdicts faulty_file All 0 ≡ record { entry = 0; fault = None } ∷ record { entry = 1; fault = Some (fault_of 1 (Some 0) NameLengthOutside 4294967295 4) } ∷ record { entry = 2; fault = Some (fault_of 2 None StreamOutside 236 5) } ∷ []
unfolding number_at numbers_at array_at le name_at shape_of entries_from only_chosen sizes_before
faulty-verdicts = refl

-- what is left from entry 2 on
faulty-rest : listing_from faulty_file All 0 2 ≡ run (stream 2 10 5 236 ∷ []) (Some (fault_of 2 None StreamOutside 236 5))
unfolding number_at numbers_at array_at le name_at shape_of entries_from only_chosen sizes_before
faulty-rest = refl

-- a thread without its stack's bytes
absent_stack-listing : listing absent_stack_file All 0 ≡ run (stream 0 3 52 44 ∷ Thread (record { entry = 0; index = 0; fields = record { thread_id = 7; suspend_count = 0; priority_class = 0; priority = 0; teb = 0; stack = record { start_of_memory_range = 0x7000; memory = at_location 256 0 }; thread_context = at_location 1 96 }; stack = Absent; context = Inside }) ∷ []) None
unfolding number_at numbers_at array_at le name_at shape_of entries_from only_chosen sizes_before
absent_stack-listing = refl

absent_stack-cut : listing (take 96 absent_stack_file) All 0 ≡ run (stream 0 3 52 44 ∷ Thread (record { entry = 0; index = 0; fields = record { thread_id = 7; suspend_count = 0; priority_class = 0; priority = 0; teb = 0; stack = record { start_of_memory_range = 0x7000; memory = at_location 256 0 }; thread_context = at_location 1 96 }; stack = Absent; context = Outside }) ∷ []) None
unfolding number_at numbers_at array_at le name_at shape_of entries_from only_chosen sizes_before
absent_stack-cut = refl

-- heads of a list that say their own sizes
unloaded-low_header : listing (head 1 32 ++ entry 14 36 44 ++ le 4 11 ++ le 4 24 ++ le 4 1 ++ zeros 24) All 0 ≡ run (stream 0 14 36 44 ∷ []) (Some (fault_of 0 None BadHeaderSize 44 11))
unfolding number_at numbers_at array_at le name_at shape_of entries_from only_chosen sizes_before
unloaded-low_header = refl

unloaded-high_header : (listing (unloaded_head_file 37 24 0) All 0).fault ≡ Some (fault_of 0 None BadHeaderSize 44 37)
unfolding number_at numbers_at array_at le name_at shape_of entries_from only_chosen sizes_before
unloaded-high_header = refl

unloaded-low_stride : (listing (unloaded_head_file 12 23 1) All 0).fault ≡ Some (fault_of 0 None BadEntrySize 48 23)
unfolding number_at numbers_at array_at le name_at shape_of entries_from only_chosen sizes_before
unloaded-low_stride = refl

-- nothing is left behind its entry
unloaded-low_stride-rest : listing_from (unloaded_head_file 12 23 1) All 0 1 ≡ run [] None
unfolding number_at numbers_at array_at le name_at shape_of entries_from only_chosen sizes_before
unloaded-low_stride-rest = refl

unloaded-none : listing (unloaded_head_file 12 23 0) All 0 ≡ run (stream 0 14 36 44 ∷ []) None
unfolding number_at numbers_at array_at le name_at shape_of entries_from only_chosen sizes_before
unloaded-none = refl

unloaded-high_count : listing (unloaded_head_file 12 24 2) All 0 ≡ run (stream 0 14 36 44 ∷ []) (Some (fault_of 0 None BadCount 52 2))
unfolding number_at numbers_at array_at le name_at shape_of entries_from only_chosen sizes_before
unloaded-high_count = refl

region-listing : listing region_file All 0 ≡ run (stream 0 16 64 44 ∷ MemoryInfo (record { entry = 0; index = 0; fields = record { base_address = 0x10000; allocation_base = 0x10000; allocation_protect = 4; region_size = 4096; state = 4096; protect = 4; memory_type = 131072 } }) ∷ []) None
unfolding number_at numbers_at array_at le name_at shape_of entries_from only_chosen sizes_before
region-listing = refl

version-bases : bases (listing version_file All 0).items ≡ 0 ∷ 0x140000000 ∷ []
unfolding number_at numbers_at array_at le name_at shape_of entries_from only_chosen sizes_before
version-bases = refl

version-listing : listing version_file All 0 ≡ run (stream 0 4 112 44 ∷ Module (record { entry = 0; index = 0; fields = record { base_of_image = 0x140000000; size_of_image = 4096; checksum = 0; time_date_stamp = 0; module_name_rva = 0; version_info = record { signature = 0; structure_version = 0; file_version_ms = 0x000A0000; file_version_ls = 0x4A610001; product_version_ms = 0; product_version_ls = 0; file_flags_mask = 0; file_flags = 0; file_os = 0; file_type = 0; file_subtype = 0; file_date_ms = 0; file_date_ls = 0 }; cv_record = at_location 0 0; misc_record = at_location 0 0; reserved0 = 0; reserved1 = 0 }; codeview = Empty; misc = Empty; name = names.None }) ∷ []) None
unfolding number_at numbers_at array_at le name_at shape_of entries_from only_chosen sizes_before
version-listing = refl

-- the debug records of a module
codeview-records : debug_records (listing codeview_file All 0).items ≡ Inside ∷ Empty ∷ []
unfolding number_at numbers_at array_at le name_at shape_of entries_from only_chosen sizes_before
codeview-records = refl

codeview-cut : debug_records (listing (take 185 codeview_file) All 0).items ≡ Outside ∷ Empty ∷ []
unfolding number_at numbers_at array_at le name_at shape_of entries_from only_chosen sizes_before
codeview-cut = refl

misc-records : debug_records (listing misc_file All 0).items ≡ Absent ∷ Outside ∷ []
unfolding number_at numbers_at array_at le name_at shape_of entries_from only_chosen sizes_before
misc-records = refl

-- a thread and an exception
crash-listing : (listing crash_file All 0).fault ≡ None
unfolding number_at numbers_at array_at le name_at shape_of entries_from only_chosen sizes_before
crash-listing = refl

crash-exception : listing crash_file (Types (6 ∷ [])) 0 ≡ run (stream 1 6 168 120 ∷ Exception (record { entry = 1; index = 0; fields = record { thread_id = 7; exception_code = 0xc0000005; exception_flags = 0; exception_record = 0; exception_address = 0x401000; number_parameters = 2; exception_information = 1 ∷ 16 ∷ replicate 13 0; thread_context = at_location 4 288 }; context = Inside }) ∷ []) None
unfolding number_at numbers_at array_at le name_at shape_of entries_from only_chosen sizes_before
crash-exception = refl

-- a stream of each of six types
six_streams-length : length six_streams_file ≡ 444
unfolding number_at numbers_at array_at le name_at shape_of entries_from only_chosen sizes_before
six_streams-length = refl

six_streams-fault : (listing six_streams_file All 4096).fault ≡ None
unfolding number_at numbers_at array_at le name_at shape_of entries_from only_chosen sizes_before
six_streams-fault = refl

six_streams-streams : streams (listing six_streams_file All 4096).items ≡ stream 0 7 56 104 ∷ stream 1 3 52 196 ∷ stream 2 4 4 260 ∷ stream 3 6 168 264 ∷ stream 4 5 4 436 ∷ stream 5 12 4 440 ∷ []
unfolding number_at numbers_at array_at le name_at shape_of entries_from only_chosen sizes_before
six_streams-streams = refl

-- how many records an entry has
records-one : record_count three_threads_file (entry_of three_threads_file 2) ≡ Ok 1
unfolding number_at numbers_at array_at le name_at shape_of entries_from only_chosen sizes_before
records-one = refl

records-opaque : record_count opaque_file (entry_of opaque_file 0) ≡ Ok 0
unfolding number_at numbers_at array_at le name_at shape_of entries_from only_chosen sizes_before
records-opaque = refl

records-outside : record_count faulty_file (entry_of faulty_file 2) ≡ Err (record { kind = StreamOutside; offset = 236; size = 5 })
unfolding number_at numbers_at array_at le name_at shape_of entries_from only_chosen sizes_before
records-outside = refl

-- twenty entries that name one list of a hundred threads
many_entries-bytes : listed_bytes (many_entries_file 20 272) All ≡ 96080
unfolding number_at numbers_at array_at le name_at shape_of entries_from only_chosen sizes_before
many_entries-bytes = refl

-- a thousand such entries, in a file of 16836 bytes
many_entries-sum : sum (sizes_of (listed_entries 16836 (replicate 1000 (numbered 0 3 4804 12032)))) ≡ 4804000
unfolding number_at numbers_at array_at le name_at shape_of entries_from only_chosen sizes_before
many_entries-sum = refl

many_entries-held : held_bound 168 0 1000 0 ≡ 12168
unfolding number_at numbers_at array_at le name_at shape_of entries_from only_chosen sizes_before
many_entries-held = refl

many_entries-fetched : fetch_bound 0 1000 4804000 0 ≡ 4832032
unfolding number_at numbers_at array_at le name_at shape_of entries_from only_chosen sizes_before
many_entries-fetched = refl

-- the calls for a thousand entries alone
many_entries-calls : call_bound 168 1000 [] 0 ≡ 1078
unfolding number_at numbers_at array_at le name_at shape_of entries_from only_chosen sizes_before
many_entries-calls = refl
