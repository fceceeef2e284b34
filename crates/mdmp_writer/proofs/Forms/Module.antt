-- A list of MINIDUMP_MODULE is written, and read again.
-- Made by bindings/generate from bindings/kinds.toml.
use Rattle.std.proofs.Common.{◌≡◌, ◌<◌, ◌^◌, ℕ, ◌+◌, ◌*◌, [], List, length, map, refl, ap, sym, subst, ◌∙◌, arith}
use Rattle.std.specs.Prelude.{All}
use Rattle.mdmp_source.specs.declared.location.Location.{Location}
use Rattle.mdmp_wire.specs.Number.{number_at, le}
use Rattle.mdmp_wire.specs.NumberLaws.{number_at-le, length-le}
use Rattle.mdmp_wire.specs.declared.module.ModuleRecord.{ModuleRecord}
use Rattle.mdmp_wire.specs.Module.{module_at, module_at-part, module_bytes}
use Rattle.mdmp_wire.specs.declared.version.VersionInfo.{VersionInfo}
use Rattle.mdmp_wire.specs.Version.{version_at, version_bytes}
use Rattle.mdmp_lister.specs.declared.kind.StreamKind.TheVariants as kinds
use Rattle.mdmp_lister.specs.Format.Shape.{shape_of}
use Rattle.mdmp_dump.specs.declared.module.Module.{Module}
use Rattle.mdmp_dump.specs.Module.{IsModule, ModuleFits, VersionFits, module_record, module_seen}
use Rattle.mdmp_dump.specs.Name.{IsName}
use Rattle.mdmp_dump.specs.Part.{IsPart}
use Rattle.mdmp_dump.specs.Placed.{address_of, location_of, name_room, part_room}
use Rattle.mdmp_dump.specs.Seen.{name_size, size_of}
use Rattle.mdmp_dump.specs.declared.dump.Stream.TheVariants as streams
use Rattle.mdmp_dump.specs.ShapeLaws.{name_sized, part_sized, three_sized}
use Rattle.mdmp_writer.proofs.Standing.{stands_record}
use Rattle.mdmp_writer.proofs.Back.{LocationFits, location_back}
use Rattle.mdmp_writer.proofs.Placing.{IsForm, address_fits, behind_name, behind_part, is_name, is_part, length-parts, location_fits, sized_room, stands_part}
use Rattle.mdmp_writer.specs.Written.{rows}
use Rattle.mdmp_writer.proofs.ReadBack.{IsReadBack, length-listed, records_stand}
use Rattle.mdmp_writer.proofs.Heads.{counted_shape}

version_back : (v : VersionInfo) → VersionFits v → version_at (version_bytes v) 0 ≡ v
unfolding number_at le
version_back v f = λ i. record {
  signature = number_at-le 4 v.signature [] f.signature i;
  structure_version = number_at-le 4 v.structure_version [] f.structure_version i;
  file_version_ms = number_at-le 4 v.file_version_ms [] f.file_version_ms i;
  file_version_ls = number_at-le 4 v.file_version_ls [] f.file_version_ls i;
  product_version_ms = number_at-le 4 v.product_version_ms [] f.product_version_ms i;
  product_version_ls = number_at-le 4 v.product_version_ls [] f.product_version_ls i;
  file_flags_mask = number_at-le 4 v.file_flags_mask [] f.file_flags_mask i;
  file_flags = number_at-le 4 v.file_flags [] f.file_flags i;
  file_os = number_at-le 4 v.file_os [] f.file_os i;
  file_type = number_at-le 4 v.file_type [] f.file_type i;
  file_subtype = number_at-le 4 v.file_subtype [] f.file_subtype i;
  file_date_ms = number_at-le 4 v.file_date_ms [] f.file_date_ms i;
  file_date_ls = number_at-le 4 v.file_date_ls [] f.file_date_ls i;
}

module _ {Z : Type 0} where
  module_back : (x : Module Z) (name : ℕ) (codeview misc : Location) → ModuleFits x → name < 2 ^ 32 → LocationFits codeview → LocationFits misc
      → module_at (module_bytes (module_record x name codeview misc)) 0 ≡ module_record x name codeview misc
  unfolding number_at le
  module_back x name codeview misc f name_fits codeview_fits misc_fits = λ i. record {
    base_of_image = number_at-le 8 x.base_of_image [] f.base_of_image i;
    size_of_image = number_at-le 4 x.size_of_image [] f.size_of_image i;
    checksum = number_at-le 4 x.checksum [] f.checksum i;
    time_date_stamp = number_at-le 4 x.time_date_stamp [] f.time_date_stamp i;
    module_name_rva = number_at-le 4 name [] name_fits i;
    version_info = version_back x.version_info f.version_info i;
    cv_record = location_back codeview codeview_fits i;
    misc_record = location_back misc misc_fits i;
    reserved0 = number_at-le 8 x.reserved0 [] f.reserved0 i;
    reserved1 = number_at-le 8 x.reserved1 [] f.reserved1 i;
  }

  length-module : (x : Module Z) (name : ℕ) (codeview misc : Location) → length (module_bytes (module_record x name codeview misc)) ≡ 108
  unfolding le
  length-module x name codeview misc = refl

  module_form : IsForm {X = Module Z} 108 module_seen ModuleFits IsModule
  module_form = record {
    length_is = λ x at f. length-module x _ _ _;
    room_is = λ x. sized_room (module_seen x) (three_sized (module_seen x).fields.wire _ _ _ _ _ _ (name_sized x.name) (part_sized x.codeview) (part_sized x.misc));
    reads = λ F o at x f pos low row parts.
        let place = at + name_room (name_size x.name) in
        let next = place + part_room (size_of x.codeview) in
        let name = address_of (name_size x.name) at in
        let codeview = location_of (size_of x.codeview) place in
        let misc = location_of (size_of x.misc) next in
        let back = module_back x name codeview misc f (address_fits at x.name (omega (arith, low))) (location_fits place x.codeview f.codeview (omega (arith, low))) (location_fits next x.misc f.misc (omega (arith, low))) in
        let read : module_at F o ≡ module_record x name codeview misc = stands_record module_at 108 module_at-part F o _ _ (length-module x name codeview misc) back row in
        let behind = behind_name F at x.name _ parts in
        record {
          fields = read ∙ ap (λ (r : ModuleRecord). module_record x r.module_name_rva r.cv_record r.misc_record) (sym read);
          name = subst (λ (r : ModuleRecord). IsName F r.module_name_rva x.name) (sym read) (is_name F at x.name f.name pos (omega (arith, low)) (stands_part F at _ _ parts));
          codeview = subst (λ (r : ModuleRecord). IsPart F r.cv_record x.codeview) (sym read)
              (is_part F place x.codeview f.codeview (omega (arith, pos)) (stands_part F place _ _ behind));
          misc = subst (λ (r : ModuleRecord). IsPart F r.misc_record x.misc) (sym read)
              (is_part F next x.misc f.misc (omega (arith, pos)) (stands_part F next _ _ (behind_part F place x.codeview _ behind)));
        };
  }

  pub modules_read : (xs : List (Module Z)) → All ModuleFits xs → IsReadBack (streams.Modules xs)
  unfolding shape_of
  modules_read xs fits =
      let c = length (map module_seen xs) in
      record {
        type_is = refl;
        type_fits = omega arith;
        body = λ at far. length-listed module_form at 4 (le 4 c) xs (length-le 4 c) fits;
        behind = length-parts module_form xs;
        memory = refl;
        stands = λ F at place far named pos e low near there behind beyond.
            let shape = counted_shape F at 108 c (rows place (map module_seen xs)) _ (omega (arith, low, e)) there in
            records_stand module_form F kinds.Modules at 4 (4 + c * 108) place (le 4 c) xs (length-le 4 c) refl (omega arith) shape fits (omega (arith, pos, e)) low there behind;
      }
