-- A system is written, and read again.
use Rattle.std.proofs.Common.{◌≡◌, ◌<◌, ◌^◌, ℕ, [], length, ap, sym, subst, ◌∙◌, arith, ◌∷◌, refl}
use Rattle.std.proofs.lemmas.List.{take_all}
use Rattle.std.proofs.lemmas.List.Elements.{All-from_recursion}
use Rattle.mdmp_wire.specs.declared.system.SystemRecord.{SystemRecord}
use Rattle.mdmp_wire.specs.Number.{array_at, le, number_at}
use Rattle.mdmp_wire.specs.NumberLaws.{number_at-le}
use Rattle.mdmp_wire.specs.System.{system_at, system_at-part, system_bytes}
use Rattle.mdmp_lister.specs.declared.kind.StreamKind.TheVariants as kinds
use Rattle.mdmp_lister.specs.Format.Shape.{shape_of}
use Rattle.mdmp_dump.specs.declared.system.System.{System}
use Rattle.mdmp_dump.specs.Name.{IsName}
use Rattle.mdmp_dump.specs.Placed.{address_of}
use Rattle.mdmp_dump.specs.Seen.{name_size}
use Rattle.mdmp_dump.specs.System.{IsSystem, SystemFits, system_record, system_seen}
use Rattle.mdmp_dump.specs.declared.dump.Stream.TheVariants as streams
use Rattle.mdmp_dump.specs.ShapeLaws.{name_sized, three_sized}
use Rattle.mdmp_writer.proofs.Standing.{stands_record}
use Rattle.mdmp_writer.proofs.Placing.{IsForm, address_fits, is_name, length-parts, sized_room, stands_part}
use Rattle.mdmp_writer.proofs.ReadBack.{IsReadBack, length-listed, records_stand}

module _ {Z : Type 0} where
  system_back : (x : System Z) (name : ℕ) → SystemFits x → name < 2 ^ 32 → system_at (system_bytes (system_record x name)) 0 ≡ system_record x name
  unfolding number_at le array_at
  system_back x name f n = λ i. record {
    processor_architecture = number_at-le 2 x.processor_architecture [] f.processor_architecture i;
    processor_level = number_at-le 2 x.processor_level [] f.processor_level i;
    processor_revision = number_at-le 2 x.processor_revision [] f.processor_revision i;
    number_of_processors = number_at-le 1 x.number_of_processors [] f.number_of_processors i;
    product_type = number_at-le 1 x.product_type [] f.product_type i;
    major_version = number_at-le 4 x.major_version [] f.major_version i;
    minor_version = number_at-le 4 x.minor_version [] f.minor_version i;
    build_number = number_at-le 4 x.build_number [] f.build_number i;
    platform_id = number_at-le 4 x.platform_id [] f.platform_id i;
    csd_version_rva = number_at-le 4 name [] n i;
    suite_mask = number_at-le 2 x.suite_mask [] f.suite_mask i;
    reserved2 = number_at-le 2 x.reserved2 [] f.reserved2 i;
    cpu = take_all 24 x.cpu (omega (arith, f.cpu)) i;
  }

  length-system : (x : System Z) (name : ℕ) → SystemFits x → length (system_bytes (system_record x name)) ≡ 56
  unfolding le
  length-system x name f = omega (arith, f.cpu)

  system_form : IsForm {X = System Z} 56 system_seen SystemFits IsSystem
  system_form = record {
    length_is = λ x at f. length-system x _ f;
    room_is = λ x. sized_room (system_seen x) (three_sized (system_seen x).fields.wire _ _ _ _ _ _ (name_sized x.name) refl refl);
    reads = λ F o at x f pos low row parts.
        let name = address_of (name_size x.name) at in
        let back = system_back x name f (address_fits at x.name (omega (arith, low))) in
        let read : system_at F o ≡ system_record x name = stands_record system_at 56 system_at-part F o _ _ (length-system x name f) back row in
        record {
          fields = read ∙ ap (λ (r : SystemRecord). system_record x r.csd_version_rva) (sym read);
          name = subst (λ (r : SystemRecord). IsName F r.csd_version_rva x.name) (sym read) (is_name F at x.name f.name pos (omega (arith, low)) (stands_part F at _ _ parts));
        };
  }

  pub system_read : (x : System Z) → SystemFits x → IsReadBack (streams.System x)
  unfolding shape_of
  system_read x fits =
      let one = All-from_recursion SystemFits (x ∷ []) (fits, tt) in
      record {
        type_is = refl;
        type_fits = omega arith;
        body = λ at far. length-listed system_form at 0 [] (x ∷ []) refl one;
        behind = length-parts system_form (x ∷ []);
        memory = refl;
        stands = λ F at place far named pos e low near there behind beyond.
            records_stand system_form F kinds.System at 0 56 place [] (x ∷ []) refl refl (omega arith) refl one (omega (arith, pos, e)) low there behind;
      }
