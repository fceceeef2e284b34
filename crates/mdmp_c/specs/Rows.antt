-- Records as plain structures. Made by bindings/generate from bindings/interface.toml.
use Rattle.std.specs.Prelude.{◌/◌, ◌%◌, ◌^◌, Option, Some, None, replicate}
use Rattle.mdmp_lister.specs.declared.item.ExceptionItem.{ExceptionItem}
use Rattle.mdmp_lister.specs.declared.item.Item.{Item}
use Rattle.mdmp_lister.specs.declared.item.Item.TheVariants as items
use Rattle.mdmp_c.specs.Places.{extent_number, name_place, part_place}
use Rattle.mdmp_c.specs.declared.rows.ThreadRow.{ThreadRow}
use Rattle.mdmp_c.specs.declared.rows.ModuleRow.{ModuleRow}
use Rattle.mdmp_c.specs.declared.rows.UnloadedRow.{UnloadedRow}
use Rattle.mdmp_c.specs.declared.rows.ExceptionRow.{ExceptionRow}
use Rattle.mdmp_c.specs.declared.rows.SystemRow.{SystemRow}
use Rattle.mdmp_c.specs.declared.rows.RegionRow.{RegionRow}
use Rattle.mdmp_c.specs.declared.rows.ThreadNameRow.{ThreadNameRow}
use Rattle.mdmp_c.specs.declared.rows.RangeRow.{RangeRow}

abbrev pub thread_row : Item → Option ThreadRow
thread_row (items.Thread x) = Some (record {
  index = x.index;
  teb = x.fields.teb;
  stack_start = x.fields.stack.start_of_memory_range;
  entry = x.entry;
  thread_id = x.fields.thread_id;
  suspend_count = x.fields.suspend_count;
  priority_class = x.fields.priority_class;
  priority = x.fields.priority;
  stack = part_place x.fields.stack.memory x.stack;
  context = part_place x.fields.thread_context x.context;
  reserved = replicate 3 0;
})
thread_row item = None

abbrev pub module_row : Item → Option ModuleRow
module_row (items.Module x) = Some (record {
  index = x.index;
  base_of_image = x.fields.base_of_image;
  entry = x.entry;
  size_of_image = x.fields.size_of_image;
  checksum = x.fields.checksum;
  time_date_stamp = x.fields.time_date_stamp;
  file_version_ms = x.fields.version_info.file_version_ms;
  file_version_ls = x.fields.version_info.file_version_ls;
  product_version_ms = x.fields.version_info.product_version_ms;
  product_version_ls = x.fields.version_info.product_version_ls;
  name = name_place x.fields.module_name_rva x.name;
  codeview = part_place x.fields.cv_record x.codeview;
  misc = part_place x.fields.misc_record x.misc;
  reserved = replicate 2 0;
})
module_row item = None

abbrev pub unloaded_row : Item → Option UnloadedRow
unloaded_row (items.Unloaded x) = Some (record {
  index = x.index;
  base_of_image = x.fields.base_of_image;
  entry = x.entry;
  size_of_image = x.fields.size_of_image;
  checksum = x.fields.checksum;
  time_date_stamp = x.fields.time_date_stamp;
  name = name_place x.fields.module_name_rva x.name;
  reserved = replicate 2 0;
})
unloaded_row item = None

abbrev pub exception_fields : ExceptionItem → ExceptionRow
exception_fields x = record {
  index = x.index;
  exception_record = x.fields.exception_record;
  exception_address = x.fields.exception_address;
  information = x.fields.exception_information;
  entry = x.entry;
  thread_id = x.fields.thread_id;
  exception_code = x.fields.exception_code;
  exception_flags = x.fields.exception_flags;
  number_parameters = x.fields.number_parameters;
  context = part_place x.fields.thread_context x.context;
  reserved = replicate 3 0;
}

abbrev pub exception_row : Item → Option ExceptionRow
exception_row (items.Exception x) = Some (exception_fields x)
exception_row item = None

abbrev pub system_row : Item → Option SystemRow
system_row (items.System x) = Some (record {
  index = x.index;
  csd_version = name_place x.fields.csd_version_rva x.name;
  entry = x.entry;
  processor_architecture = x.fields.processor_architecture;
  processor_level = x.fields.processor_level;
  processor_revision = x.fields.processor_revision;
  number_of_processors = x.fields.number_of_processors;
  product_type = x.fields.product_type;
  major_version = x.fields.major_version;
  minor_version = x.fields.minor_version;
  build_number = x.fields.build_number;
  platform_id = x.fields.platform_id;
  suite_mask = x.fields.suite_mask;
  cpu = x.fields.cpu;
  reserved = replicate 3 0;
})
system_row item = None

abbrev pub region_row : Item → Option RegionRow
region_row (items.MemoryInfo x) = Some (record {
  index = x.index;
  base_address = x.fields.base_address;
  allocation_base = x.fields.allocation_base;
  region_size = x.fields.region_size;
  entry = x.entry;
  allocation_protect = x.fields.allocation_protect;
  state = x.fields.state;
  protect = x.fields.protect;
  memory_type = x.fields.memory_type;
  reserved = replicate 3 0;
})
region_row item = None

abbrev pub thread_name_row : Item → Option ThreadNameRow
thread_name_row (items.ThreadName x) = Some (record {
  index = x.index;
  entry = x.entry;
  thread_id = x.fields.thread_id;
  name = name_place x.fields.rva_of_thread_name x.name;
  reserved = replicate 2 0;
})
thread_name_row item = None

abbrev pub range_row : Item → Option RangeRow
range_row (items.Range x) = Some (record {
  index = x.index;
  start = x.start;
  size = x.size;
  offset = x.offset % 2 ^ 64;
  offset_high = x.offset / 2 ^ 64;
  entry = x.entry;
  extent = extent_number x.extent;
  reserved = replicate 2 0;
})
range_row item = None
