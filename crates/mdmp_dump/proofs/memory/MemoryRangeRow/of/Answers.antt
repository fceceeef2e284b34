-- The fields of a range of memory, and what it points at.
-- Made by bindings/generate from bindings/kinds.toml.
use Rattle.std.proofs.Common.{ℕ, ◌≡◌, List, refl, subst}
use Rattle.mdmp_wire.specs.Descriptor.{descriptor_at}
use Rattle.mdmp_wire.specs.declared.descriptor.Descriptor.{Descriptor}
use Rattle.mdmp_dump.specs.Part.{IsPart}
use Rattle.mdmp_dump.specs.declared.memory.MemoryRange.{MemoryRange}
use Rattle.mdmp_dump.specs.Memory.{IsMemory, memory_record}
use Rattle.mdmp_dump.proofs.memory.MemoryRangeRow.of.Goals as goal

memory_of : {Z : Type 0} (F : List ℕ) (o : ℕ) (x : MemoryRange Z) (r : Descriptor) → r ≡ descriptor_at F o → r ≡ memory_record x r.memory
    → IsPart F r.memory x.bytes → IsMemory F o x
memory_of F o x r same is bytes = record {
  fields = subst (λ (s : Descriptor). s ≡ memory_record x s.memory) same is;
  bytes = subst (λ (s : Descriptor). IsPart F s.memory x.bytes) same bytes;
}

pub returns : goal.returns
returns g c = λ file at k o found.
    let read = rw c.in-Memory.is at found in
    let same : c.in-Memory.range ≡ descriptor_at file o = let is = read.is.fields in cc is in
    memory_of file o _ c.in-Memory.range same refl (rw c.take_part.ensures read.parts.first)
