-- An unloaded module of a dump: MINIDUMP_UNLOADED_MODULE.
-- Made by bindings/generate from bindings/kinds.toml.
use Rattle.std.specs.Prelude.{◌≡◌, ℕ, List, ◌<◌, ◌^◌, [], ◌∷◌}
use Rattle.mdmp_wire.specs.declared.unloaded.UnloadedRecord.{UnloadedRecord}
use Rattle.mdmp_wire.specs.Unloaded.{unloaded_at}
use Rattle.mdmp_dump.specs.declared.unloaded.Unloaded.{Unloaded}
use Rattle.mdmp_dump.specs.Name.{IsName, NameFits}
use Rattle.mdmp_wire.specs.declared.any_record.AnyRecord.TheVariants as any
use Rattle.mdmp_dump.specs.Seen.{Seen, seen, name_size, unit_bytes}
use Rattle.mdmp_dump.specs.declared.view.PartSize.TheVariants.{NoPart}

module _ {Z : Type 0} where
  -- its record in a file, with the RVA of its name
  abbrev pub unloaded_record : Unloaded Z → ℕ → UnloadedRecord
  unloaded_record x name = record {
    base_of_image = x.base_of_image;
    size_of_image = x.size_of_image;
    checksum = x.checksum;
    time_date_stamp = x.time_date_stamp;
    module_name_rva = name;
  }

  -- x is the unloaded module of the record at o: its name is where that record says
  pub record IsUnloaded (F : List ℕ) (o : ℕ) (x : Unloaded Z) : Type 0 where
    pub fields : unloaded_at F o ≡ unloaded_record x (unloaded_at F o).module_name_rva
    pub name : IsName F (unloaded_at F o).module_name_rva x.name

  -- as a view gives it
  abbrev pub unloaded_seen : Unloaded Z → Seen
  unloaded_seen x =
      seen (any.Unloaded (unloaded_record x 0)) (name_size x.name ∷ NoPart ∷ NoPart ∷ [])
      (unit_bytes x.name ∷ [] ∷ [] ∷ [])

  -- its numbers fit their fields
  pub record UnloadedFits (x : Unloaded Z) : Type 0 where
    pub base_of_image : x.base_of_image < 2 ^ 64
    pub size_of_image : x.size_of_image < 2 ^ 32
    pub checksum : x.checksum < 2 ^ 32
    pub time_date_stamp : x.time_date_stamp < 2 ^ 32
    pub name : NameFits x.name
