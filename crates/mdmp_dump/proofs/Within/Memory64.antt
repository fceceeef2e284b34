-- The item of a range of a 64-bit memory list asks for its bytes.
use Rattle.std.proofs.Common.{◌≡◌, ℕ, List, length, ap, refl}
use Rattle.mdmp_wire.specs.Descriptor64.{descriptor64_at}
use Rattle.mdmp_wire.specs.declared.descriptor64.Descriptor64.{Descriptor64}
use Rattle.mdmp_lister.specs.declared.item.Item.TheVariants as items
use Rattle.mdmp_lister.specs.declared.kind.StreamKind.TheVariants as kinds
use Rattle.mdmp_lister.specs.Format.Item.{range64_item, range_offset}
use Rattle.mdmp_wire.specs.declared.slot.PartName.TheVariants.{Memory}
use Rattle.mdmp_dump.specs.Memory64.{IsMemory64}
use Rattle.mdmp_dump.proofs.Within.Part.{range_taken}
use Rattle.mdmp_dump.proofs.Within.Records.{AreTaken}

pub memory64_taken : {Z : Type 0} (F : List ℕ) (limit e at : ℕ)
    → AreTaken F limit e at kinds.Memory64 (IsMemory64 {Z = Z} F at) (λ x. Unit {0}) (λ x. length x.bytes)
memory64_taken F limit e at k o x is fits =
    let size : (descriptor64_at F o).data_size ≡ length x.bytes = ap (λ (r : Descriptor64). r.data_size) is.fields in
    record {
      item = items.Range (range64_item (length F) e k (descriptor64_at F o) (range_offset F at k));
      given = refl;
      steps = rw size (range_taken (length F) e k Memory (range_offset F at k) (length x.bytes) is.inside);
    }
