-- The system of a dump: MINIDUMP_SYSTEM_INFO.
-- Made by bindings/generate from bindings/kinds.toml.
use Rattle.std.specs.Prelude.{◌≡◌, ℕ, List, ◌<◌, ◌^◌, [], ◌∷◌, length}
use Rattle.mdmp_wire.specs.declared.system.SystemRecord.{SystemRecord}
use Rattle.mdmp_wire.specs.System.{system_at}
use Rattle.mdmp_dump.specs.declared.system.System.{System}
use Rattle.mdmp_dump.specs.Name.{IsName, NameFits}
use Rattle.mdmp_wire.specs.declared.any_record.AnyRecord.TheVariants as any
use Rattle.mdmp_dump.specs.Seen.{Seen, seen, name_size, unit_bytes}
use Rattle.mdmp_dump.specs.declared.view.PartSize.TheVariants.{NoPart}

module _ {Z : Type 0} where
  -- its record in a file, with the RVA of its service pack's name
  abbrev pub system_record : System Z → ℕ → SystemRecord
  system_record x name = record {
    processor_architecture = x.processor_architecture;
    processor_level = x.processor_level;
    processor_revision = x.processor_revision;
    number_of_processors = x.number_of_processors;
    product_type = x.product_type;
    major_version = x.major_version;
    minor_version = x.minor_version;
    build_number = x.build_number;
    platform_id = x.platform_id;
    csd_version_rva = name;
    suite_mask = x.suite_mask;
    reserved2 = x.reserved2;
    cpu = x.cpu;
  }

  -- x is the system of the record at o: its service pack's name is where that record says
  pub record IsSystem (F : List ℕ) (o : ℕ) (x : System Z) : Type 0 where
    pub fields : system_at F o ≡ system_record x (system_at F o).csd_version_rva
    pub name : IsName F (system_at F o).csd_version_rva x.name

  -- as a view gives it
  abbrev pub system_seen : System Z → Seen
  system_seen x =
      seen (any.System (system_record x 0)) (name_size x.name ∷ NoPart ∷ NoPart ∷ [])
      (unit_bytes x.name ∷ [] ∷ [] ∷ [])

  -- its numbers fit their fields
  pub record SystemFits (x : System Z) : Type 0 where
    pub processor_architecture : x.processor_architecture < 2 ^ 16
    pub processor_level : x.processor_level < 2 ^ 16
    pub processor_revision : x.processor_revision < 2 ^ 16
    pub number_of_processors : x.number_of_processors < 2 ^ 8
    pub product_type : x.product_type < 2 ^ 8
    pub major_version : x.major_version < 2 ^ 32
    pub minor_version : x.minor_version < 2 ^ 32
    pub build_number : x.build_number < 2 ^ 32
    pub platform_id : x.platform_id < 2 ^ 32
    pub name : NameFits x.name
    pub suite_mask : x.suite_mask < 2 ^ 16
    pub reserved2 : x.reserved2 < 2 ^ 16
    pub cpu : length x.cpu ≡ 24
