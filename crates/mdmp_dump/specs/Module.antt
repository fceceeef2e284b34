-- A module of a dump: MINIDUMP_MODULE.
-- Made by bindings/generate from bindings/kinds.toml.
use Rattle.std.specs.Prelude.{◌≡◌, ℕ, List, ◌<◌, ◌^◌, [], ◌∷◌}
use Rattle.mdmp_source.specs.declared.location.Location.{Location}
use Rattle.mdmp_wire.specs.declared.module.ModuleRecord.{ModuleRecord}
use Rattle.mdmp_wire.specs.Module.{module_at}
use Rattle.mdmp_dump.specs.declared.module.Module.{Module}
use Rattle.mdmp_dump.specs.Name.{IsName, NameFits}
use Rattle.mdmp_dump.specs.Part.{IsPart, PartFits}
use Rattle.mdmp_wire.specs.declared.any_record.AnyRecord.TheVariants as any
use Rattle.mdmp_dump.specs.Seen.{Seen, seen, nowhere, size_of, bytes_of, name_size, unit_bytes}
use Rattle.mdmp_wire.specs.declared.version.VersionInfo.{VersionInfo}

-- the numbers of its version info fit their fields
pub record VersionFits (x : VersionInfo) : Type 0 where
  pub signature : x.signature < 2 ^ 32
  pub structure_version : x.structure_version < 2 ^ 32
  pub file_version_ms : x.file_version_ms < 2 ^ 32
  pub file_version_ls : x.file_version_ls < 2 ^ 32
  pub product_version_ms : x.product_version_ms < 2 ^ 32
  pub product_version_ls : x.product_version_ls < 2 ^ 32
  pub file_flags_mask : x.file_flags_mask < 2 ^ 32
  pub file_flags : x.file_flags < 2 ^ 32
  pub file_os : x.file_os < 2 ^ 32
  pub file_type : x.file_type < 2 ^ 32
  pub file_subtype : x.file_subtype < 2 ^ 32
  pub file_date_ms : x.file_date_ms < 2 ^ 32
  pub file_date_ls : x.file_date_ls < 2 ^ 32

module _ {Z : Type 0} where
  -- its record in a file, with the RVA of its name and the locations of its CodeView record and its misc record
  abbrev pub module_record : Module Z → ℕ → Location → Location → ModuleRecord
  module_record x name codeview misc = record {
    base_of_image = x.base_of_image;
    size_of_image = x.size_of_image;
    checksum = x.checksum;
    time_date_stamp = x.time_date_stamp;
    module_name_rva = name;
    version_info = x.version_info;
    cv_record = codeview;
    misc_record = misc;
    reserved0 = x.reserved0;
    reserved1 = x.reserved1;
  }

  -- x is the module of the record at o: its name, CodeView record and misc record are where that record says
  pub record IsModule (F : List ℕ) (o : ℕ) (x : Module Z) : Type 0 where
    pub fields : module_at F o ≡ module_record x (module_at F o).module_name_rva (module_at F o).cv_record (module_at F o).misc_record
    pub name : IsName F (module_at F o).module_name_rva x.name
    pub codeview : IsPart F (module_at F o).cv_record x.codeview
    pub misc : IsPart F (module_at F o).misc_record x.misc

  -- as a view gives it
  abbrev pub module_seen : Module Z → Seen
  module_seen x =
      seen (any.Module (module_record x 0 nowhere nowhere)) (name_size x.name ∷ size_of x.codeview ∷ size_of x.misc ∷ [])
      (unit_bytes x.name ∷ bytes_of x.codeview ∷ bytes_of x.misc ∷ [])

  -- its numbers fit their fields
  pub record ModuleFits (x : Module Z) : Type 0 where
    pub base_of_image : x.base_of_image < 2 ^ 64
    pub size_of_image : x.size_of_image < 2 ^ 32
    pub checksum : x.checksum < 2 ^ 32
    pub time_date_stamp : x.time_date_stamp < 2 ^ 32
    pub name : NameFits x.name
    pub version_info : VersionFits x.version_info
    pub codeview : PartFits x.codeview
    pub misc : PartFits x.misc
    pub reserved0 : x.reserved0 < 2 ^ 64
    pub reserved1 : x.reserved1 < 2 ^ 64
