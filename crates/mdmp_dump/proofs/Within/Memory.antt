-- The item of a range of memory is given, and what it asks for is taken.
-- Made by bindings/generate from bindings/kinds.toml.
use Rattle.std.proofs.Common.{ℕ, List, length, refl}
use Rattle.mdmp_wire.specs.Descriptor.{descriptor_at}
use Rattle.mdmp_lister.specs.declared.item.Item.TheVariants as items
use Rattle.mdmp_lister.specs.declared.kind.StreamKind.TheVariants as kinds
use Rattle.mdmp_lister.specs.Format.Item.{range_item}
use Rattle.mdmp_wire.specs.declared.slot.PartName.TheVariants as names
use Rattle.mdmp_dump.specs.Memory.{IsMemory}
use Rattle.mdmp_dump.specs.Within.{part_size}
use Rattle.mdmp_dump.proofs.Within.Part.{location_taken}
use Rattle.mdmp_dump.proofs.Within.Records.{AreTaken}

pub memory_taken : {Z : Type 0} (F : List ℕ) (limit e at : ℕ)
    → AreTaken F limit e at kinds.Memory (λ k o. IsMemory {Z = Z} F o) (λ x. Unit {0}) (λ x. part_size x.bytes)
memory_taken F limit e at k o x is fits =
    record {
      item = items.Range (range_item (length F) e k (descriptor_at F o));
      given = refl;
      steps = location_taken F (descriptor_at F o).memory e k names.Memory x.bytes is.bytes;
    }
