-- A list of MINIDUMP_THREAD_NAME is written, and read again.
-- Made by bindings/generate from bindings/kinds.toml.
use Rattle.std.proofs.Common.{◌≡◌, ◌<◌, ◌^◌, ℕ, ◌+◌, ◌*◌, [], List, length, map, refl, ap, sym, subst, ◌∙◌, arith}
use Rattle.std.specs.Prelude.{All}
use Rattle.mdmp_wire.specs.Number.{number_at, le}
use Rattle.mdmp_wire.specs.NumberLaws.{number_at-le, length-le}
use Rattle.mdmp_wire.specs.declared.thread_name.ThreadNameRecord.{ThreadNameRecord}
use Rattle.mdmp_wire.specs.ThreadName.{thread_name_at, thread_name_at-part, thread_name_bytes}
use Rattle.mdmp_lister.specs.declared.kind.StreamKind.TheVariants as kinds
use Rattle.mdmp_lister.specs.Format.Shape.{shape_of}
use Rattle.mdmp_dump.specs.declared.thread_name.ThreadName.{ThreadName}
use Rattle.mdmp_dump.specs.ThreadName.{IsThreadName, ThreadNameFits, thread_name_record, thread_name_seen}
use Rattle.mdmp_dump.specs.Name.{IsName}
use Rattle.mdmp_dump.specs.Placed.{address_of}
use Rattle.mdmp_dump.specs.Seen.{name_size}
use Rattle.mdmp_dump.specs.declared.dump.Stream.TheVariants as streams
use Rattle.mdmp_dump.specs.ShapeLaws.{name_sized, three_sized}
use Rattle.mdmp_writer.proofs.Standing.{stands_record}
use Rattle.mdmp_writer.proofs.Placing.{IsForm, address_fits, is_name, length-parts, sized_room, stands_part}
use Rattle.mdmp_writer.specs.Written.{rows}
use Rattle.mdmp_writer.proofs.ReadBack.{IsReadBack, length-listed, records_stand}
use Rattle.mdmp_writer.proofs.Heads.{counted_shape}

module _ {Z : Type 0} where
  thread_name_back : (x : ThreadName Z) (name : ℕ) → ThreadNameFits x → name < 2 ^ 64
      → thread_name_at (thread_name_bytes (thread_name_record x name)) 0 ≡ thread_name_record x name
  unfolding number_at le
  thread_name_back x name f name_fits = λ i. record {
    thread_id = number_at-le 4 x.thread_id [] f.thread_id i;
    rva_of_thread_name = number_at-le 8 name [] name_fits i;
  }

  length-thread_name : (x : ThreadName Z) (name : ℕ) → length (thread_name_bytes (thread_name_record x name)) ≡ 12
  unfolding le
  length-thread_name x name = refl

  thread_name_form : IsForm {X = ThreadName Z} 12 thread_name_seen ThreadNameFits IsThreadName
  thread_name_form = record {
    length_is = λ x at f. length-thread_name x _;
    room_is = λ x. sized_room (thread_name_seen x) (three_sized (thread_name_seen x).fields.wire _ _ _ _ _ _ (name_sized x.name) refl refl);
    reads = λ F o at x f pos low row parts.
        let name = address_of (name_size x.name) at in
        -- an address of 32 bits fits a field of 64
        let fits : name < 2 ^ 64 = omega (arith, address_fits at x.name (omega (arith, low))) in
        let back = thread_name_back x name f fits in
        let read : thread_name_at F o ≡ thread_name_record x name = stands_record thread_name_at 12 thread_name_at-part F o _ _ (length-thread_name x name) back row in
        record {
          fields = read ∙ ap (λ (r : ThreadNameRecord). thread_name_record x r.rva_of_thread_name) (sym read);
          name = subst (λ (r : ThreadNameRecord). IsName F r.rva_of_thread_name x.name) (sym read) (is_name F at x.name f.name pos (omega (arith, low)) (stands_part F at _ _ parts));
        };
  }

  pub thread_names_read : (xs : List (ThreadName Z)) → All ThreadNameFits xs → IsReadBack (streams.ThreadNames xs)
  unfolding shape_of
  thread_names_read xs fits =
      let c = length (map thread_name_seen xs) in
      record {
        type_is = refl;
        type_fits = omega arith;
        body = λ at far. length-listed thread_name_form at 4 (le 4 c) xs (length-le 4 c) fits;
        behind = length-parts thread_name_form xs;
        memory = refl;
        stands = λ F at place far named pos e low near there behind beyond.
            let shape = counted_shape F at 12 c (rows place (map thread_name_seen xs)) _ (omega (arith, low, e)) there in
            records_stand thread_name_form F kinds.ThreadNames at 4 (4 + c * 12) place (le 4 c) xs (length-le 4 c) refl (omega arith) shape fits (omega (arith, pos, e)) low there behind;
      }
