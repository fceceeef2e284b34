-- One range of a 64-bit memory list stands at a place.
use Rattle.std.proofs.Common.{◌≡◌, ℕ, List, length, ap, sym, ◌∙◌}
use Rattle.mdmp_wire.specs.Number.{array_at}
use Rattle.mdmp_wire.specs.declared.descriptor64.Descriptor64.{Descriptor64}
use Rattle.mdmp_lister.specs.Format.Item.{range_offset}
use Rattle.mdmp_dump.specs.Memory64.{IsMemory64}
use Rattle.mdmp_dump.proofs.Unique.Records.{IsUnique}

pub memory64_unique : {Z : Type 0} (F : List ℕ) (at : ℕ) → IsUnique (λ k o. IsMemory64 {Z = Z} F at k o)
memory64_unique F at k o x y p q =
    let fields = sym p.fields ∙ q.fields in
    let size : length x.bytes ≡ length y.bytes = ap (λ (r : Descriptor64). r.data_size) fields in
    let bytes : x.bytes ≡ y.bytes = sym p.bytes ∙ ap (λ (n : ℕ). array_at F (range_offset F at k) n) size ∙ q.bytes in
    λ i. record { start = (fields i).start_of_memory_range; bytes = bytes i }
