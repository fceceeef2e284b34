-- The lines of some items, computed by the definitions.
use Rattle.std.proofs.Common.{◌≡◌, ℕ, List, [], ◌∷◌, ◌++◌, refl}
use Rattle.std.specs.Prelude.{codes, flat_map, replicate}
use Rattle.std.specs.List.{concat}
use Rattle.std.specs.Fmt.{digits}
use Rattle.mdmp_source.specs.declared.location.Location.{Location}
use Rattle.mdmp_source.specs.declared.location.Extent.TheVariants.{Empty, Absent}
use Rattle.mdmp_wire.specs.declared.version.VersionInfo.{VersionInfo}
use Rattle.mdmp_wire.specs.Number.{number_at, numbers_at, le}
use Rattle.mdmp_wire.specs.Units.{units_over}
use Rattle.mdmp_wire.specs.Digits.{hex}
use Rattle.mdmp_lister.specs.declared.name.Name.{Name}
use Rattle.mdmp_lister.specs.declared.name.Name.TheVariants.{Units, Long}
use Rattle.mdmp_lister.specs.declared.name.Name.TheVariants as names
use Rattle.mdmp_lister.specs.declared.item.Item.TheVariants as items
use Rattle.mdmp_lister.specs.Format.Item.{thread_item, module_item, unloaded_item, exception_item, system_item, memory_info_item, thread_name_item, range_item, range64_item}
use Rattle.mdmp_print.specs.ItemLines.{extent_text, name_text, item_line}

abbrev location : ℕ → ℕ → Location
location size rva = record { size = size; rva = rva }

-- a version with these two numbers of the file, and 0 in every other field
abbrev version : ℕ → ℕ → VersionInfo
version ms ls = record {
  signature = 0;
  structure_version = 0;
  file_version_ms = ms;
  file_version_ls = ls;
  product_version_ms = 0;
  product_version_ls = 0;
  file_flags_mask = 0;
  file_flags = 0;
  file_os = 0;
  file_type = 0;
  file_subtype = 0;
  file_date_ms = 0;
  file_date_ls = 0;
}

-- the name of these units
abbrev named : List ℕ → Name
named units = Units (units_over (flat_map (le 2) units))

-- ---- names

no-name : name_text names.None ≡ codes "none"
no-name = refl

long-name : name_text (Long 10) ≡ codes "long 10"
unfolding digits
long-name = refl

empty-name : name_text (named []) ≡ codes "\"\""
unfolding number_at numbers_at le
empty-name = refl

-- a backslash, a quote, a letter beyond ASCII and the halves of a surrogate pair
escaped-name : name_text (named (97 ∷ 92 ∷ 34 ∷ 0xe9 ∷ 0xd83d ∷ 0xde00 ∷ 0 ∷ [])) ≡ codes "\"a\\u005c\"\\u00e9\\ud83d\\ude00\\u0000\""
unfolding number_at numbers_at le hex
escaped-name = refl

-- ---- parts

empty-extent : extent_text Empty 0 7 ≡ codes "empty"
empty-extent = refl

absent-extent : extent_text Absent 256 0 ≡ codes "absent 256"
unfolding digits
absent-extent = refl

-- ---- lines

entry-line : item_line (items.Stream (record { entry = 2; stream_type = 10; location = location 5 236 })) ≡ codes "stream 2 type 10 size 5 rva 236\n"
unfolding digits
entry-line = refl

thread-line : item_line (items.Thread (thread_item 292 0 3 (record {
  thread_id = 7;
  suspend_count = 1;
  priority_class = 32;
  priority = 2;
  teb = 0x5000;
  stack = record { start_of_memory_range = 0x7000; memory = location 256 0 };
  thread_context = location 6 112;
})))
    ≡ codes "thread 3 id 7 suspend 1 class 32 priority 2 teb 0x0000000000005000 stack 0x0000000000007000 absent 256 context inside 6@112\n"
unfolding digits hex
thread-line = refl

-- one whose numbers are all different: each stands in its place
thread-fields : item_line (items.Thread (thread_item 18 9 1 (record {
  thread_id = 2;
  suspend_count = 3;
  priority_class = 4;
  priority = 5;
  teb = 6;
  stack = record { start_of_memory_range = 7; memory = location 8 9 };
  thread_context = location 10 11;
})))
    ≡ codes "thread 1 id 2 suspend 3 class 4 priority 5 teb 0x0000000000000006 stack 0x0000000000000007 inside 8@9 context outside 10@11\n"
unfolding digits hex
thread-fields = refl

module-line : item_line (items.Module (module_item 156 0 0 (record {
  base_of_image = 0x140000000;
  size_of_image = 4096;
  checksum = 5;
  time_date_stamp = 1700000000;
  module_name_rva = 156;
  version_info = version 0x000a0000 0x4a610001;
  cv_record = location 0 0;
  misc_record = location 8 152;
  reserved0 = 0;
  reserved1 = 0;
}) (named (codes "a.dll"))))
    ≡ codes "module 0 base 0x0000000140000000 size 4096 checksum 5 time 1700000000 version 10.0.19041.1 cv empty misc outside 8@152 name \"a.dll\"\n"
unfolding number_at numbers_at le digits hex
module-line = refl

unloaded-line : item_line (items.Unloaded (unloaded_item 0 1 (record {
  base_of_image = 0x10000;
  size_of_image = 4096;
  checksum = 5;
  time_date_stamp = 6;
  module_name_rva = 80;
}) (Long 10)))
    ≡ codes "unloaded 1 base 0x0000000000010000 size 4096 checksum 5 time 6 name long 10\n"
unfolding digits hex
unloaded-line = refl

thread_name-line : item_line (items.ThreadName (thread_name_item 0 3 (record { thread_id = 22570; rva_of_thread_name = 2416 }) (named (codes "cpad"))))
    ≡ codes "threadname 3 id 22570 name \"cpad\"\n"
unfolding number_at numbers_at le digits hex
thread_name-line = refl

-- two of the fifteen values
exception-line : item_line (items.Exception (exception_item 292 1 0 (record {
  thread_id = 7;
  exception_code = 0xc0000005;
  exception_flags = 0;
  exception_record = 0;
  exception_address = 0x401000;
  number_parameters = 2;
  exception_information = 1 ∷ 16 ∷ replicate 13 0;
  thread_context = location 4 288;
})))
    ≡ codes "exception thread 7 code 0xc0000005 flags 0 record 0x0000000000000000 address 0x0000000000401000 parameters 2 0x0000000000000001 0x0000000000000010 context inside 4@288\n"
unfolding digits hex
exception-line = refl

-- all fifteen, where more are said to be of use
every_value-line : item_line (items.Exception (exception_item 292 1 0 (record {
  thread_id = 7;
  exception_code = 1;
  exception_flags = 0;
  exception_record = 0;
  exception_address = 0;
  number_parameters = 16;
  exception_information = replicate 15 1;
  thread_context = location 0 0;
})))
    ≡ codes "exception thread 7 code 0x00000001 flags 0 record 0x0000000000000000 address 0x0000000000000000 parameters 16"
    ++ concat (replicate 15 (codes " 0x0000000000000001")) ++ codes " context empty\n"
unfolding digits hex
every_value-line = refl

system-line : item_line (items.System (system_item 0 0 (record {
  processor_architecture = 9;
  processor_level = 6;
  processor_revision = 3;
  number_of_processors = 4;
  product_type = 1;
  major_version = 6;
  minor_version = 1;
  build_number = 7601;
  platform_id = 2;
  csd_version_rva = 100;
  suite_mask = 256;
  reserved2 = 0;
  cpu = replicate 24 0;
}) (named (codes "Service Pack 1"))))
    ≡ codes "system architecture 9 level 6 revision 3 processors 4 product 1 version 6.1.7601 platform 2 suite 256 csd \"Service Pack 1\"\n"
unfolding number_at numbers_at le digits hex
system-line = refl

-- the protection at first, and then the one of now
region-line : item_line (items.MemoryInfo (memory_info_item 0 0 (record {
  base_address = 0x11000;
  allocation_base = 0x10000;
  allocation_protect = 4;
  region_size = 8192;
  state = 4096;
  protect = 2;
  memory_type = 131072;
})))
    ≡ codes "region 0 base 0x0000000000011000 allocation 0x0000000000010000 initial 4 size 8192 state 4096 protect 2 type 131072\n"
unfolding digits hex
region-line = refl

range-line : item_line (items.Range (range_item 96 0 0 (record { start_of_memory_range = 0x1000; memory = location 4 92 })))
    ≡ codes "range 0 start 0x0000000000001000 inside 4@92\n"
unfolding digits hex
range-line = refl

-- a range whose bytes would stand past every file
range64-line : item_line (items.Range (range64_item 108 0 2 (record { start_of_memory_range = 0x3000; data_size = 1 }) 36893488147419103338))
    ≡ codes "range 2 start 0x0000000000003000 outside 1@36893488147419103338\n"
unfolding digits hex
range64-line = refl
