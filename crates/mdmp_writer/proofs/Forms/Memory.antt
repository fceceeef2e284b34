-- A list of MINIDUMP_MEMORY_DESCRIPTOR is written, and read again.
-- Made by bindings/generate from bindings/kinds.toml.
use Rattle.std.proofs.Common.{◌≡◌, ◌+◌, ◌*◌, [], List, length, map, refl, ap, sym, subst, ◌∙◌, arith}
use Rattle.std.specs.Prelude.{All}
use Rattle.mdmp_source.specs.declared.location.Location.{Location}
use Rattle.mdmp_wire.specs.Number.{number_at, le}
use Rattle.mdmp_wire.specs.NumberLaws.{number_at-le, length-le}
use Rattle.mdmp_wire.specs.declared.descriptor.Descriptor.{Descriptor}
use Rattle.mdmp_wire.specs.Descriptor.{descriptor_at, descriptor_at-part, descriptor_bytes}
use Rattle.mdmp_lister.specs.declared.kind.StreamKind.TheVariants as kinds
use Rattle.mdmp_lister.specs.Format.Shape.{shape_of}
use Rattle.mdmp_dump.specs.declared.memory.MemoryRange.{MemoryRange}
use Rattle.mdmp_dump.specs.Memory.{IsMemory, MemoryFits, memory_record, memory_seen}
use Rattle.mdmp_dump.specs.Part.{IsPart}
use Rattle.mdmp_dump.specs.Placed.{location_of}
use Rattle.mdmp_dump.specs.Seen.{size_of}
use Rattle.mdmp_dump.specs.declared.dump.Stream.TheVariants as streams
use Rattle.mdmp_dump.specs.ShapeLaws.{part_sized, three_sized}
use Rattle.mdmp_writer.proofs.Standing.{stands_record}
use Rattle.mdmp_writer.proofs.Back.{LocationFits, location_back}
use Rattle.mdmp_writer.proofs.Placing.{IsForm, is_part, length-parts, location_fits, sized_room, stands_part}
use Rattle.mdmp_writer.specs.Written.{rows}
use Rattle.mdmp_writer.proofs.ReadBack.{IsReadBack, length-listed, records_stand}
use Rattle.mdmp_writer.proofs.Heads.{counted_shape}

module _ {Z : Type 0} where
  memory_back : (x : MemoryRange Z) (bytes : Location) → MemoryFits x → LocationFits bytes
      → descriptor_at (descriptor_bytes (memory_record x bytes)) 0 ≡ memory_record x bytes
  unfolding number_at le
  memory_back x bytes f bytes_fits = λ i. record {
    start_of_memory_range = number_at-le 8 x.start [] f.start i;
    memory = location_back bytes bytes_fits i;
  }

  length-memory : (x : MemoryRange Z) (bytes : Location) → length (descriptor_bytes (memory_record x bytes)) ≡ 16
  unfolding le
  length-memory x bytes = refl

  memory_form : IsForm {X = MemoryRange Z} 16 memory_seen MemoryFits IsMemory
  memory_form = record {
    length_is = λ x at f. length-memory x _;
    room_is = λ x. sized_room (memory_seen x) (three_sized (memory_seen x).fields.wire _ _ _ _ _ _ (part_sized x.bytes) refl refl);
    reads = λ F o at x f pos low row parts.
        let bytes = location_of (size_of x.bytes) at in
        let back = memory_back x bytes f (location_fits at x.bytes f.bytes (omega (arith, low))) in
        let read : descriptor_at F o ≡ memory_record x bytes = stands_record descriptor_at 16 descriptor_at-part F o _ _ (length-memory x bytes) back row in
        record {
          fields = read ∙ ap (λ (r : Descriptor). memory_record x r.memory) (sym read);
          bytes = subst (λ (r : Descriptor). IsPart F r.memory x.bytes) (sym read) (is_part F at x.bytes f.bytes pos (stands_part F at _ _ parts));
        };
  }

  pub memory_read : (xs : List (MemoryRange Z)) → All MemoryFits xs → IsReadBack (streams.Memory xs)
  unfolding shape_of
  memory_read xs fits =
      let c = length (map memory_seen xs) in
      record {
        type_is = refl;
        type_fits = omega arith;
        body = λ at far. length-listed memory_form at 4 (le 4 c) xs (length-le 4 c) fits;
        behind = length-parts memory_form xs;
        memory = refl;
        stands = λ F at place far named pos e low near there behind beyond.
            let shape = counted_shape F at 16 c (rows place (map memory_seen xs)) _ (omega (arith, low, e)) there in
            records_stand memory_form F kinds.Memory at 4 (4 + c * 16) place (le 4 c) xs (length-le 4 c) refl (omega arith) shape fits (omega (arith, pos, e)) low there behind;
      }
