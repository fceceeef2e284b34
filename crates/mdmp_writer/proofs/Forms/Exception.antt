-- An exception is written, and read again.
use Rattle.std.proofs.Common.{◌≡◌, [], ◌++◌, length, refl, ap, sym, subst, ◌∙◌, arith, length-append, ◌∷◌}
use Rattle.std.proofs.lemmas.List.Elements.{All-from_recursion}
use Rattle.mdmp_source.specs.declared.location.Location.{Location}
use Rattle.mdmp_wire.specs.declared.exception.ExceptionRecord.{ExceptionRecord}
use Rattle.mdmp_wire.specs.Number.{number_at, le, les, zeros}
use Rattle.mdmp_wire.specs.NumberLaws.{length-les, number_at-le, number_at-past, numbers_at-les, numbers_at-past}
use Rattle.mdmp_wire.specs.Exception.{exception_at, exception_at-part, exception_bytes}
use Rattle.mdmp_wire.specs.Location.{location_bytes}
use Rattle.mdmp_lister.specs.declared.kind.StreamKind.TheVariants as kinds
use Rattle.mdmp_lister.specs.Format.Shape.{shape_of}
use Rattle.mdmp_dump.specs.declared.exception.Exception.{Exception}
use Rattle.mdmp_dump.specs.Exception.{ExceptionFits, IsException, exception_record, exception_seen}
use Rattle.mdmp_dump.specs.Part.{IsPart}
use Rattle.mdmp_dump.specs.Placed.{location_of}
use Rattle.mdmp_dump.specs.Seen.{size_of}
use Rattle.mdmp_dump.specs.declared.dump.Stream.TheVariants as streams
use Rattle.mdmp_dump.specs.ShapeLaws.{part_sized, three_sized}
use Rattle.mdmp_writer.proofs.Standing.{stands_record}
use Rattle.mdmp_writer.proofs.Back.{LocationFits, location_back}
use Rattle.mdmp_writer.proofs.Placing.{IsForm, is_part, length-parts, location_fits, sized_room, stands_part}
use Rattle.mdmp_writer.proofs.ReadBack.{IsReadBack, length-listed, records_stand}

module _ {Z : Type 0} where
  exception_back : (x : Exception Z) (context : Location) → ExceptionFits x → LocationFits context
      → exception_at (exception_bytes (exception_record x context)) 0 ≡ exception_record x context
  unfolding number_at le
  exception_back x context f c =
      let values = les 8 x.exception_information in
      let behind = location_bytes context in
      let head =
      le 4 x.thread_id ++ zeros 4 ++ le 4 x.exception_code ++ le 4 x.exception_flags ++ le 8 x.exception_record ++ le 8 x.exception_address
      ++ le 4 x.number_parameters ++ zeros 4 in
      let len : length (head ++ values) ≡ 160 = omega (arith, length-append head values, length-les 8 x.exception_information, f.information_count) in
      let again = numbers_at-past 40 0 8 15 head (values ++ behind) refl ∙ (rw f.information_count at (numbers_at-les 8 x.exception_information behind f.exception_information)) in
      let size = number_at-past 160 0 4 (head ++ values) behind len in
      let rva = number_at-past 160 4 4 (head ++ values) behind len in
      λ i. record {
        thread_id = number_at-le 4 x.thread_id [] f.thread_id i;
        exception_code = number_at-le 4 x.exception_code [] f.exception_code i;
        exception_flags = number_at-le 4 x.exception_flags [] f.exception_flags i;
        exception_record = number_at-le 8 x.exception_record [] f.exception_record i;
        exception_address = number_at-le 8 x.exception_address [] f.exception_address i;
        number_parameters = number_at-le 4 x.number_parameters [] f.number_parameters i;
        exception_information = again i;
        thread_context = record { size = (size ∙ ap (λ l. l.size) (location_back context c)) i; rva = (rva ∙ ap (λ l. l.rva) (location_back context c)) i };
      }

  length-exception : (x : Exception Z) (context : Location) → ExceptionFits x → length (exception_bytes (exception_record x context)) ≡ 168
  unfolding le
  length-exception x context f =
      omega (arith, length-append (les 8 x.exception_information) (location_bytes context), length-les 8 x.exception_information, f.information_count)

  exception_form : IsForm {X = Exception Z} 168 exception_seen ExceptionFits IsException
  exception_form = record {
    length_is = λ x at f. length-exception x _ f;
    room_is = λ x. sized_room (exception_seen x) (three_sized (exception_seen x).fields.wire _ _ _ _ _ _ (part_sized x.context) refl refl);
    reads = λ F o at x f pos low row parts.
        let context = location_of (size_of x.context) at in
        let back = exception_back x context f (location_fits at x.context f.context (omega (arith, low))) in
        let read : exception_at F o ≡ exception_record x context = stands_record exception_at 168 exception_at-part F o _ _ (length-exception x context f) back row in
        record {
          fields = read ∙ ap (λ (r : ExceptionRecord). exception_record x r.thread_context) (sym read);
          context = subst (λ (r : ExceptionRecord). IsPart F r.thread_context x.context) (sym read) (is_part F at x.context f.context pos (stands_part F at _ _ parts));
        };
  }

  pub exception_read : (x : Exception Z) → ExceptionFits x → IsReadBack (streams.Exception x)
  unfolding shape_of
  exception_read x fits =
      let one = All-from_recursion ExceptionFits (x ∷ []) (fits, tt) in
      record {
        type_is = refl;
        type_fits = omega arith;
        body = λ at far. length-listed exception_form at 0 [] (x ∷ []) refl one;
        behind = length-parts exception_form (x ∷ []);
        memory = refl;
        stands = λ F at place far named pos e low near there behind beyond.
            records_stand exception_form F kinds.Exception at 0 168 place [] (x ∷ []) refl refl (omega arith) refl one (omega (arith, pos, e)) low there behind;
      }
