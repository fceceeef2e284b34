-- One range of memory stands at a place.
-- Made by bindings/generate from bindings/kinds.toml.
use Rattle.std.proofs.Common.{ℕ, List, sym, ◌∙◌}
use Rattle.mdmp_wire.specs.Descriptor.{descriptor_at}
use Rattle.mdmp_dump.specs.Memory.{IsMemory}
use Rattle.mdmp_dump.proofs.Unique.Part.{part_unique}
use Rattle.mdmp_dump.proofs.Unique.Records.{IsUnique}

pub memory_unique : {Z : Type 0} (F : List ℕ) → IsUnique (λ k o. IsMemory {Z = Z} F o)
memory_unique F k o x y p q =
    let fields = sym p.fields ∙ q.fields in
    let bytes = part_unique F (descriptor_at F o).memory x.bytes y.bytes p.bytes q.bytes in
    λ i. record {
      start = (fields i).start_of_memory_range;
      bytes = bytes i;
    }
