-- A list of MINIDUMP_MEMORY_INFO is written, and read again.
-- Made by bindings/generate from bindings/kinds.toml.
use Rattle.std.proofs.Common.{◌≡◌, ◌<◌, ◌^◌, ℕ, ◌+◌, ◌*◌, [], ◌++◌, List, length, map, refl, ap, arith}
use Rattle.std.specs.Prelude.{All, Ok}
use Rattle.mdmp_wire.specs.Number.{number_at, le}
use Rattle.mdmp_wire.specs.NumberLaws.{number_at-le}
use Rattle.mdmp_wire.specs.declared.memory_info.MemoryInfoRecord.{MemoryInfoRecord}
use Rattle.mdmp_wire.specs.MemoryInfo.{memory_info_at, memory_info_at-part, memory_info_bytes}
use Rattle.mdmp_wire.specs.declared.memory_info_list.MemoryInfoList.{MemoryInfoList}
use Rattle.mdmp_wire.specs.MemoryInfoList.{memory_info_list_at, memory_info_list_at-part, memory_info_list_bytes}
use Rattle.mdmp_lister.specs.declared.kind.StreamKind.TheVariants as kinds
use Rattle.mdmp_lister.specs.Format.Shape.{shape_of}
use Rattle.mdmp_dump.specs.MemoryInfo.{MemoryInfoFits, memory_info_seen}
use Rattle.mdmp_dump.specs.declared.dump.Stream.TheVariants as streams
use Rattle.mdmp_dump.specs.ShapeLaws.{three_sized}
use Rattle.mdmp_writer.proofs.Standing.{stands_record, Stands, stands_first}
use Rattle.mdmp_writer.proofs.Placing.{IsForm, length-parts, sized_room}
use Rattle.mdmp_writer.specs.Written.{rows}
use Rattle.mdmp_writer.proofs.ReadBack.{IsReadBack, length-listed, records_stand}
use Rattle.mdmp_writer.proofs.Heads.{shape_from, sized_shape}

abbrev head : ℕ → MemoryInfoList
head c = record { size_of_header = 16; size_of_entry = 48; number_of_entries = c }

length-head : (c : ℕ) → length (memory_info_list_bytes (head c)) ≡ 16
unfolding le
length-head c = refl

head_shape : (F : List ℕ) (at c : ℕ) (rest : List ℕ) → c < 2 ^ 64 → Stands F at (memory_info_list_bytes (head c) ++ rest)
    → shape_of F at (16 + c * 48) kinds.MemoryInfo ≡ Ok (shape_from 16 48 c)
unfolding shape_of number_at le
head_shape F at c rest low s =
    let back : memory_info_list_at (memory_info_list_bytes (head c)) 0 ≡ head c = λ i. record {
      size_of_header = number_at-le 4 16 [] (omega arith) i;
      size_of_entry = number_at-le 4 48 [] (omega arith) i;
      number_of_entries = number_at-le 8 c [] low i;
    } in
    let read : memory_info_list_at F at ≡ head c = stands_record memory_info_list_at 16 memory_info_list_at-part F at (memory_info_list_bytes (head c)) (head c) refl back (stands_first F at (memory_info_list_bytes (head c)) rest s) in
    sized_shape at 16 48 c _ _ _ _ (ap (λ h. h.size_of_header) read) (ap (λ h. h.size_of_entry) read) (ap (λ h. h.number_of_entries) read)

memory_info_back : (x : MemoryInfoRecord) → MemoryInfoFits x
    → memory_info_at (memory_info_bytes x) 0 ≡ x
unfolding number_at le
memory_info_back x f = λ i. record {
  base_address = number_at-le 8 x.base_address [] f.base_address i;
  allocation_base = number_at-le 8 x.allocation_base [] f.allocation_base i;
  allocation_protect = number_at-le 4 x.allocation_protect [] f.allocation_protect i;
  region_size = number_at-le 8 x.region_size [] f.region_size i;
  state = number_at-le 4 x.state [] f.state i;
  protect = number_at-le 4 x.protect [] f.protect i;
  memory_type = number_at-le 4 x.memory_type [] f.memory_type i;
}

length-memory_info : (x : MemoryInfoRecord) → length (memory_info_bytes x) ≡ 48
unfolding le
length-memory_info x = refl

memory_info_form : IsForm 48 memory_info_seen MemoryInfoFits (λ F o x. memory_info_at F o ≡ x)
memory_info_form = record {
  length_is = λ x at f. length-memory_info x;
  room_is = λ x. sized_room (memory_info_seen x) (three_sized (memory_info_seen x).fields.wire _ _ _ _ _ _ refl refl refl);
  reads = λ F o at x f pos low row parts. stands_record memory_info_at 48 memory_info_at-part F o _ _ (length-memory_info x) (memory_info_back x f) row;
}

pub memory_info_read : {Z : Type 0} (xs : List MemoryInfoRecord) → All MemoryInfoFits xs → IsReadBack {Z = Z} (streams.MemoryInfo xs)
memory_info_read xs fits =
    let c = length (map memory_info_seen xs) in
    let text = memory_info_list_bytes (head c) in
    record {
      type_is = refl;
      type_fits = omega arith;
      body = λ at far. length-listed memory_info_form at 16 text xs (length-head c) fits;
      behind = length-parts memory_info_form xs;
      memory = refl;
      stands = λ F at place far named pos e low near there behind beyond.
          let shape = head_shape F at c (rows place (map memory_info_seen xs)) (omega (arith, low, e)) there in
          records_stand memory_info_form F kinds.MemoryInfo at 16 (16 + c * 48) place text xs (length-head c) refl (omega arith) shape fits (omega (arith, pos, e)) low there behind;
    }
