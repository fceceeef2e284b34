-- A list of MINIDUMP_THREAD is written, and read again.
-- Made by bindings/generate from bindings/kinds.toml.
use Rattle.std.proofs.Common.{◌≡◌, ◌+◌, ◌*◌, [], List, length, map, refl, ap, sym, subst, ◌∙◌, arith}
use Rattle.std.specs.Prelude.{All}
use Rattle.mdmp_source.specs.declared.location.Location.{Location}
use Rattle.mdmp_wire.specs.Number.{number_at, le}
use Rattle.mdmp_wire.specs.NumberLaws.{number_at-le, length-le}
use Rattle.mdmp_wire.specs.declared.thread.ThreadRecord.{ThreadRecord}
use Rattle.mdmp_wire.specs.Thread.{thread_at, thread_at-part, thread_bytes}
use Rattle.mdmp_lister.specs.declared.kind.StreamKind.TheVariants as kinds
use Rattle.mdmp_lister.specs.Format.Shape.{shape_of}
use Rattle.mdmp_dump.specs.declared.thread.Thread.{Thread}
use Rattle.mdmp_dump.specs.Thread.{IsThread, ThreadFits, thread_record, thread_seen}
use Rattle.mdmp_dump.specs.Part.{IsPart}
use Rattle.mdmp_dump.specs.Placed.{location_of, part_room}
use Rattle.mdmp_dump.specs.Seen.{size_of}
use Rattle.mdmp_dump.specs.declared.dump.Stream.TheVariants as streams
use Rattle.mdmp_dump.specs.ShapeLaws.{part_sized, three_sized}
use Rattle.mdmp_writer.proofs.Standing.{stands_record}
use Rattle.mdmp_writer.proofs.Back.{LocationFits, location_back}
use Rattle.mdmp_writer.proofs.Placing.{IsForm, behind_part, is_part, length-parts, location_fits, sized_room, stands_part}
use Rattle.mdmp_writer.specs.Written.{rows}
use Rattle.mdmp_writer.proofs.ReadBack.{IsReadBack, length-listed, records_stand}
use Rattle.mdmp_writer.proofs.Heads.{counted_shape}

module _ {Z : Type 0} where
  thread_back : (x : Thread Z) (stack context : Location) → ThreadFits x → LocationFits stack → LocationFits context
      → thread_at (thread_bytes (thread_record x stack context)) 0 ≡ thread_record x stack context
  unfolding number_at le
  thread_back x stack context f stack_fits context_fits = λ i. record {
    thread_id = number_at-le 4 x.thread_id [] f.thread_id i;
    suspend_count = number_at-le 4 x.suspend_count [] f.suspend_count i;
    priority_class = number_at-le 4 x.priority_class [] f.priority_class i;
    priority = number_at-le 4 x.priority [] f.priority i;
    teb = number_at-le 8 x.teb [] f.teb i;
    stack = record { start_of_memory_range = number_at-le 8 x.stack_start [] f.stack_start i; memory = location_back stack stack_fits i };
    thread_context = location_back context context_fits i;
  }

  length-thread : (x : Thread Z) (stack context : Location) → length (thread_bytes (thread_record x stack context)) ≡ 48
  unfolding le
  length-thread x stack context = refl

  thread_form : IsForm {X = Thread Z} 48 thread_seen ThreadFits IsThread
  thread_form = record {
    length_is = λ x at f. length-thread x _ _;
    room_is = λ x. sized_room (thread_seen x) (three_sized (thread_seen x).fields.wire _ _ _ _ _ _ (part_sized x.stack) (part_sized x.context) refl);
    reads = λ F o at x f pos low row parts.
        let place = at + part_room (size_of x.stack) in
        let stack = location_of (size_of x.stack) at in
        let context = location_of (size_of x.context) place in
        let back = thread_back x stack context f (location_fits at x.stack f.stack (omega (arith, low))) (location_fits place x.context f.context (omega (arith, low))) in
        let read : thread_at F o ≡ thread_record x stack context = stands_record thread_at 48 thread_at-part F o _ _ (length-thread x stack context) back row in
        record {
          fields = read ∙ ap (λ (r : ThreadRecord). thread_record x r.stack.memory r.thread_context) (sym read);
          stack = subst (λ (r : ThreadRecord). IsPart F r.stack.memory x.stack) (sym read) (is_part F at x.stack f.stack pos (stands_part F at _ _ parts));
          context = subst (λ (r : ThreadRecord). IsPart F r.thread_context x.context) (sym read)
              (is_part F place x.context f.context (omega (arith, pos)) (stands_part F place _ _ (behind_part F at x.stack _ parts)));
        };
  }

  pub threads_read : (xs : List (Thread Z)) → All ThreadFits xs → IsReadBack (streams.Threads xs)
  unfolding shape_of
  threads_read xs fits =
      let c = length (map thread_seen xs) in
      record {
        type_is = refl;
        type_fits = omega arith;
        body = λ at far. length-listed thread_form at 4 (le 4 c) xs (length-le 4 c) fits;
        behind = length-parts thread_form xs;
        memory = refl;
        stands = λ F at place far named pos e low near there behind beyond.
            let shape = counted_shape F at 48 c (rows place (map thread_seen xs)) _ (omega (arith, low, e)) there in
            records_stand thread_form F kinds.Threads at 4 (4 + c * 48) place (le 4 c) xs (length-le 4 c) refl (omega arith) shape fits (omega (arith, pos, e)) low there behind;
      }
