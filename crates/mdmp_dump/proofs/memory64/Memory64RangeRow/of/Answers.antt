-- The start of a range of a 64-bit memory list, and its bytes.
use Rattle.std.proofs.Common.{ℕ, ◌≡◌, ◌∙◌, List, refl, subst, sym}
use Rattle.mdmp_wire.specs.Descriptor64.{descriptor64_at}
use Rattle.mdmp_wire.specs.declared.descriptor64.Descriptor64.{Descriptor64}
use Rattle.mdmp_lister.specs.Format.Item.{range_offset}
use Rattle.mdmp_dump.specs.declared.memory64.Memory64Range.{Memory64Range}
use Rattle.mdmp_dump.specs.Memory64.{IsMemory64}
use Rattle.mdmp_dump.specs.Reading.{HasBytesAt}
use Rattle.mdmp_dump.proofs.memory64.Memory64RangeRow.of.Goals as goal

range64_of : {Z : Type 0} (F : List ℕ) (at k o : ℕ) (x : Memory64Range Z) (r : Descriptor64) → r ≡ descriptor64_at F o → x.start ≡ r.start_of_memory_range
    → HasBytesAt F (range_offset F at k) r.data_size x.bytes → IsMemory64 F at k o x
range64_of F at k o x r same start has = record {
  fields = sym same ∙ (λ i. record { start_of_memory_range = sym start i; data_size = sym has.len i });
  inside = rw has.len has.inside;
  bytes = rw has.len has.same;
}

pub returns : goal.returns
returns g c = λ file at k o found.
    let read = rw c.in-Memory64.is at found in
    let same : c.in-Memory64.range ≡ descriptor64_at file o = let is = read.is.fields in cc is in
    let has = read.parts.first in
    let bytes : has.0 ≡ c.in-Bytes.bytes = let is = sym has.1.0 ∙ sym c.take_part.ensures ∙ c.in-Bytes.is in cc is in
    range64_of file at k o _ c.in-Memory64.range same refl
    (rw (← bytes) (subst (λ (n : ℕ). HasBytesAt file n c.in-Memory64.range.data_size has.0) (read.is.range refl) has.1.1))
