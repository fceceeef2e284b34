-- A list of MINIDUMP_UNLOADED_MODULE is written, and read again.
-- Made by bindings/generate from bindings/kinds.toml.
use Rattle.std.proofs.Common.{◌≡◌, ◌<◌, ◌^◌, ℕ, ◌+◌, ◌*◌, [], ◌++◌, List, length, map, refl, ap, sym, subst, ◌∙◌, arith}
use Rattle.std.specs.Prelude.{All, Ok}
use Rattle.mdmp_wire.specs.Number.{number_at, le}
use Rattle.mdmp_wire.specs.NumberLaws.{number_at-le}
use Rattle.mdmp_wire.specs.declared.unloaded.UnloadedRecord.{UnloadedRecord}
use Rattle.mdmp_wire.specs.Unloaded.{unloaded_at, unloaded_at-part, unloaded_bytes}
use Rattle.mdmp_wire.specs.declared.unloaded_list.UnloadedList.{UnloadedList}
use Rattle.mdmp_wire.specs.UnloadedList.{unloaded_list_at, unloaded_list_at-part, unloaded_list_bytes}
use Rattle.mdmp_lister.specs.declared.kind.StreamKind.TheVariants as kinds
use Rattle.mdmp_lister.specs.Format.Shape.{shape_of}
use Rattle.mdmp_dump.specs.declared.unloaded.Unloaded.{Unloaded}
use Rattle.mdmp_dump.specs.Unloaded.{IsUnloaded, UnloadedFits, unloaded_record, unloaded_seen}
use Rattle.mdmp_dump.specs.Name.{IsName}
use Rattle.mdmp_dump.specs.Placed.{address_of}
use Rattle.mdmp_dump.specs.Seen.{name_size}
use Rattle.mdmp_dump.specs.declared.dump.Stream.TheVariants as streams
use Rattle.mdmp_dump.specs.ShapeLaws.{name_sized, three_sized}
use Rattle.mdmp_writer.proofs.Standing.{stands_record, Stands, stands_first}
use Rattle.mdmp_writer.proofs.Placing.{IsForm, address_fits, is_name, length-parts, sized_room, stands_part}
use Rattle.mdmp_writer.specs.Written.{rows}
use Rattle.mdmp_writer.proofs.ReadBack.{IsReadBack, length-listed, records_stand}
use Rattle.mdmp_writer.proofs.Heads.{shape_from, sized_shape}

abbrev head : ℕ → UnloadedList
head c = record { size_of_header = 12; size_of_entry = 24; number_of_entries = c }

length-head : (c : ℕ) → length (unloaded_list_bytes (head c)) ≡ 12
unfolding le
length-head c = refl

head_shape : (F : List ℕ) (at c : ℕ) (rest : List ℕ) → c < 2 ^ 32 → Stands F at (unloaded_list_bytes (head c) ++ rest)
    → shape_of F at (12 + c * 24) kinds.Unloaded ≡ Ok (shape_from 12 24 c)
unfolding shape_of number_at le
head_shape F at c rest low s =
    let back : unloaded_list_at (unloaded_list_bytes (head c)) 0 ≡ head c = λ i. record {
      size_of_header = number_at-le 4 12 [] (omega arith) i;
      size_of_entry = number_at-le 4 24 [] (omega arith) i;
      number_of_entries = number_at-le 4 c [] low i;
    } in
    let read : unloaded_list_at F at ≡ head c = stands_record unloaded_list_at 12 unloaded_list_at-part F at (unloaded_list_bytes (head c)) (head c) refl back (stands_first F at (unloaded_list_bytes (head c)) rest s) in
    sized_shape at 12 24 c _ _ _ _ (ap (λ h. h.size_of_header) read) (ap (λ h. h.size_of_entry) read) (ap (λ h. h.number_of_entries) read)

module _ {Z : Type 0} where
  unloaded_back : (x : Unloaded Z) (name : ℕ) → UnloadedFits x → name < 2 ^ 32
      → unloaded_at (unloaded_bytes (unloaded_record x name)) 0 ≡ unloaded_record x name
  unfolding number_at le
  unloaded_back x name f name_fits = λ i. record {
    base_of_image = number_at-le 8 x.base_of_image [] f.base_of_image i;
    size_of_image = number_at-le 4 x.size_of_image [] f.size_of_image i;
    checksum = number_at-le 4 x.checksum [] f.checksum i;
    time_date_stamp = number_at-le 4 x.time_date_stamp [] f.time_date_stamp i;
    module_name_rva = number_at-le 4 name [] name_fits i;
  }

  length-unloaded : (x : Unloaded Z) (name : ℕ) → length (unloaded_bytes (unloaded_record x name)) ≡ 24
  unfolding le
  length-unloaded x name = refl

  unloaded_form : IsForm {X = Unloaded Z} 24 unloaded_seen UnloadedFits IsUnloaded
  unloaded_form = record {
    length_is = λ x at f. length-unloaded x _;
    room_is = λ x. sized_room (unloaded_seen x) (three_sized (unloaded_seen x).fields.wire _ _ _ _ _ _ (name_sized x.name) refl refl);
    reads = λ F o at x f pos low row parts.
        let name = address_of (name_size x.name) at in
        let back = unloaded_back x name f (address_fits at x.name (omega (arith, low))) in
        let read : unloaded_at F o ≡ unloaded_record x name = stands_record unloaded_at 24 unloaded_at-part F o _ _ (length-unloaded x name) back row in
        record {
          fields = read ∙ ap (λ (r : UnloadedRecord). unloaded_record x r.module_name_rva) (sym read);
          name = subst (λ (r : UnloadedRecord). IsName F r.module_name_rva x.name) (sym read) (is_name F at x.name f.name pos (omega (arith, low)) (stands_part F at _ _ parts));
        };
  }

  pub unloaded_read : (xs : List (Unloaded Z)) → All UnloadedFits xs → IsReadBack (streams.Unloaded xs)
  unloaded_read xs fits =
      let c = length (map unloaded_seen xs) in
      let text = unloaded_list_bytes (head c) in
      record {
        type_is = refl;
        type_fits = omega arith;
        body = λ at far. length-listed unloaded_form at 12 text xs (length-head c) fits;
        behind = length-parts unloaded_form xs;
        memory = refl;
        stands = λ F at place far named pos e low near there behind beyond.
            let shape = head_shape F at c (rows place (map unloaded_seen xs)) (omega (arith, low, e)) there in
            records_stand unloaded_form F kinds.Unloaded at 12 (12 + c * 24) place text xs (length-head c) refl (omega arith) shape fits (omega (arith, pos, e)) low there behind;
      }
