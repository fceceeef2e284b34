-- Modules and the system of a summary, as plain structures.
use Rattle.std.specs.Prelude.{ℕ, List, length, Option, Some, None, Result, Ok, Err, replicate}
use Rattle.mdmp_source.specs.Extent.{extent_of}
use Rattle.mdmp_wire.specs.declared.module.ModuleRecord.{ModuleRecord}
use Rattle.mdmp_wire.specs.declared.system.SystemRecord.{SystemRecord}
use Rattle.mdmp_lister.specs.declared.fault.Fault.{Fault}
use Rattle.mdmp_lister.specs.declared.name.Name.{Name}
use Rattle.mdmp_lister.specs.Format.Name.{name_at}
use Rattle.mdmp_summary.specs.declared.summary.PlaceInModule.{PlaceInModule}
use Rattle.mdmp_c.specs.declared.parts.NamePlace.{NamePlace}
use Rattle.mdmp_c.specs.declared.parts.PartPlace.{PartPlace}
use Rattle.mdmp_c.specs.declared.summary_modules.SummaryModuleRow.{SummaryModuleRow}
use Rattle.mdmp_c.specs.declared.summary_modules.PlaceInModuleRow.{PlaceInModuleRow}
use Rattle.mdmp_c.specs.declared.summary_modules.SummarySystemRow.{SummarySystemRow}
use Rattle.mdmp_c.specs.Places.{name_place, part_place}

-- ---- nothing

abbrev pub no_name : NamePlace
no_name = record { rva = 0; size = 0; state = 0 }

abbrev pub no_place : PartPlace
no_place = record { size = 0; rva = 0; extent = 0; reserved = 0 }

abbrev pub no_module : SummaryModuleRow
no_module = record {
  base_of_image = 0;
  name = no_name;
  size_of_image = 0;
  checksum = 0;
  time_date_stamp = 0;
  file_version_ms = 0;
  file_version_ls = 0;
  product_version_ms = 0;
  product_version_ls = 0;
  codeview = no_place;
  reserved = 0;
}

abbrev pub no_system : SummarySystemRow
no_system = record {
  csd_version = no_name;
  processor_architecture = 0;
  processor_level = 0;
  processor_revision = 0;
  number_of_processors = 0;
  product_type = 0;
  major_version = 0;
  minor_version = 0;
  build_number = 0;
  platform_id = 0;
  suite_mask = 0;
  cpu = replicate 24 0;
  reserved = replicate 2 0;
}

-- ---- names

-- the place of a name; one that has an error has no bytes
abbrev pub place_told : ℕ → Result Name Fault → NamePlace
place_told rva (Ok name) = name_place rva name
place_told rva (Err fault) = record { rva = rva; size = 0; state = 0 }

-- the place of the name at an RVA of F
abbrev pub name_place_at : List ℕ → ℕ → ℕ → NamePlace
name_place_at F rva limit = place_told rva (name_at F rva limit)

-- ---- modules

abbrev pub summary_module : List ℕ → ℕ → ModuleRecord → SummaryModuleRow
summary_module F limit m = record {
  base_of_image = m.base_of_image;
  name = name_place_at F m.module_name_rva limit;
  size_of_image = m.size_of_image;
  checksum = m.checksum;
  time_date_stamp = m.time_date_stamp;
  file_version_ms = m.version_info.file_version_ms;
  file_version_ls = m.version_info.file_version_ls;
  product_version_ms = m.version_info.product_version_ms;
  product_version_ls = m.version_info.product_version_ls;
  codeview = part_place m.cv_record (extent_of m.cv_record (length F));
  reserved = 0;
}

-- a module, if there is one
abbrev pub program_row : List ℕ → ℕ → Option ModuleRecord → SummaryModuleRow
program_row F limit (Some m) = summary_module F limit m
program_row F limit None = no_module

-- a place in a module, if there is one
abbrev pub place_in_module_row : List ℕ → ℕ → Option PlaceInModule → PlaceInModuleRow
place_in_module_row F limit (Some place) = record { «module» = summary_module F limit place.fields; offset = place.offset }
place_in_module_row F limit None = record { «module» = no_module; offset = 0 }

-- ---- the system

abbrev pub summary_system : List ℕ → ℕ → SystemRecord → SummarySystemRow
summary_system F limit s = record {
  csd_version = name_place_at F s.csd_version_rva limit;
  processor_architecture = s.processor_architecture;
  processor_level = s.processor_level;
  processor_revision = s.processor_revision;
  number_of_processors = s.number_of_processors;
  product_type = s.product_type;
  major_version = s.major_version;
  minor_version = s.minor_version;
  build_number = s.build_number;
  platform_id = s.platform_id;
  suite_mask = s.suite_mask;
  cpu = s.cpu;
  reserved = replicate 2 0;
}

abbrev pub summary_system_row : List ℕ → ℕ → Option SystemRecord → SummarySystemRow
summary_system_row F limit (Some s) = summary_system F limit s
summary_system_row F limit None = no_system
