-- The item of a module is given, and what it asks for is taken.
-- Made by bindings/generate from bindings/kinds.toml.
use Rattle.std.proofs.Common.{ℕ, ◌+◌, List, length, refl}
use Rattle.mdmp_wire.specs.Module.{module_at}
use Rattle.mdmp_lister.specs.declared.item.Item.TheVariants as items
use Rattle.mdmp_lister.specs.declared.kind.StreamKind.TheVariants as kinds
use Rattle.mdmp_lister.specs.Format.Item.{module_item}
use Rattle.mdmp_wire.specs.declared.slot.PartName.TheVariants as names
use Rattle.mdmp_dump.specs.Module.{IsModule}
use Rattle.mdmp_dump.specs.Within.{IsNameWithin, part_size}
use Rattle.mdmp_dump.proofs.Within.Name.{name_short}
use Rattle.mdmp_dump.proofs.Within.Part.{location_taken}
use Rattle.mdmp_dump.proofs.Within.Records.{AreTaken}
use Rattle.mdmp_dump.proofs.Within.Steps.{both_taken}

pub module_taken : {Z : Type 0} (F : List ℕ) (limit e at : ℕ)
    → AreTaken F limit e at kinds.Modules (λ k o. IsModule {Z = Z} F o) (λ x. IsNameWithin limit x.name) (λ x. part_size x.codeview + part_size x.misc)
module_taken F limit e at k o x is fits =
    let short = name_short F (module_at F o).module_name_rva limit x.name is.name fits in
    record {
      item = items.Module (module_item (length F) e k (module_at F o) short.name);
      given = rw short.given refl;
      steps = rw (short.asked e k) (both_taken
          (location_taken F (module_at F o).cv_record e k names.CodeView x.codeview is.codeview)
          (location_taken F (module_at F o).misc_record e k names.Misc x.misc is.misc));
    }
