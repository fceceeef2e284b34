-- Worked dumps, written by the definitions.
use Rattle.std.proofs.Common.{◌≡◌, List, [], ◌∷◌, ◌++◌, Some, None, refl, length, ℕ, ◌-◌, ◌^◌, take, drop}
use Rattle.std.specs.Prelude.{codes}
use Rattle.mdmp_wire.specs.Number.{number_at, le, zeros}
use Rattle.mdmp_lister.proofs.Files.{system_file, crash_file, absent_stack_file, head, entry, location}
use Rattle.mdmp_dump.specs.declared.part.Part.TheVariants.{Bytes, Absent}
use Rattle.mdmp_dump.specs.declared.dump.Stream.{Stream}
use Rattle.mdmp_dump.specs.declared.dump.Stream.TheVariants as streams
use Rattle.mdmp_dump.specs.declared.dump.Dump.{Dump}
use Rattle.mdmp_dump.specs.declared.view.Kind.{Kind}
use Rattle.mdmp_dump.specs.declared.view.Kind.TheVariants as kinds
use Rattle.mdmp_dump.specs.Shape.{StreamShape, rooms, fars as memory_in}
use Rattle.mdmp_dump.specs.Value.{select}
use Rattle.mdmp_dump.proofs.WorkedDumps as worked
use Rattle.mdmp_writer.specs.declared.fault.LayoutFault.TheVariants.{RawKnownType, TooLarge}
use Rattle.mdmp_writer.specs.Layout.{written_size, blocks_size, fars_size, first_misnamed, shape_fault, layout_fault}
use Rattle.mdmp_writer.specs.Written.{all_padded, rows, parts_of, ranges_text, blocks, far_texts, directory, written}
use Rattle.mdmp_writer.proofs.Dumps as dumps

-- what stands in the six streams' file: those of the two other files, with places of their own
abbrev six_file : List ℕ
six_file =
    head 6 32 ++ entry 7 56 104 ++ entry 3 52 196 ++ entry 4 4 260 ++ entry 6 168 264 ++ entry 5 4 436 ++ entry 12 4 440
    ++ take 24 (drop 44 system_file) ++ le 4 160 ++ drop 72 system_file
    ++ take 40 (drop 56 crash_file) ++ le 4 248 ++ location 6 252 ++ take 12 (drop 108 crash_file)
    ++ le 4 0
    ++ take 164 (drop 120 crash_file) ++ le 4 432 ++ 0xAA ∷ 0xBB ∷ 0xCC ∷ 0xDD ∷ []
    ++ le 4 0
    ++ 1 ∷ 2 ∷ 3 ∷ 4 ∷ []

-- one module at 48, its name at 156 and its CodeView record at 168; the misc record is absent
abbrev module_file : List ℕ
module_file =
    head 1 32 ++ entry 4 112 44 ++ le 4 1
    ++ le 8 0x1000 ++ le 4 1 ++ le 4 2 ++ le 4 3 ++ le 4 156 ++ zeros 8 ++ le 4 0x000A0000 ++ zeros 40
    ++ location 3 168 ++ location 5 0 ++ le 8 4 ++ le 8 5
    ++ le 4 6 ++ codes "a\0b\0c\0" ++ zeros 2 ++ codes "xyz" ++ zeros 1

module _ (Z : Type 0) where
  abbrev dump_of : List (Stream Z) → Dump Z
  dump_of = worked.dump_of {Z = Z}

  abbrev system_dump : Dump Z
  system_dump = dumps.system_dump {Z = Z}

  abbrev crash_dump : Dump Z
  crash_dump = worked.crash_dump {Z = Z}

  abbrev six_streams : Dump Z
  six_streams = dumps.six_streams {Z = Z}

  abbrev absent_stack : Dump Z
  absent_stack = dumps.absent_dump {Z = Z}

  abbrev each_kind : Dump Z
  each_kind = dumps.each_kind {Z = Z}

  -- the values of files that were written, written again
  system-written : written system_dump ≡ system_file
  unfolding number_at le rooms memory_in all_padded rows parts_of ranges_text blocks far_texts directory blocks_size fars_size first_misnamed
  system-written = refl

  crash-written : written crash_dump ≡ crash_file
  unfolding number_at le rooms memory_in all_padded rows parts_of ranges_text blocks far_texts directory blocks_size fars_size first_misnamed
  crash-written = refl

  system-size : written_size system_dump ≡ 136
  unfolding number_at le rooms memory_in all_padded rows parts_of ranges_text blocks far_texts directory blocks_size fars_size first_misnamed
  system-size = refl

  crash-size : written_size crash_dump ≡ 292
  unfolding number_at le rooms memory_in all_padded rows parts_of ranges_text blocks far_texts directory blocks_size fars_size first_misnamed
  crash-size = refl

  six-size : written_size six_streams ≡ 444
  unfolding number_at le rooms memory_in all_padded rows parts_of ranges_text blocks far_texts directory blocks_size fars_size first_misnamed
  six-size = refl

  six-written : written six_streams ≡ six_file
  unfolding number_at le rooms memory_in all_padded rows parts_of ranges_text blocks far_texts directory blocks_size fars_size first_misnamed
  six-written = refl

  -- two of six streams, written
  selected-written : written (select six_streams (3 ∷ 6 ∷ [])) ≡ crash_file
  unfolding number_at le rooms memory_in all_padded rows parts_of ranges_text blocks far_texts directory blocks_size fars_size first_misnamed
  selected-written = refl

  -- a module's name stands before its parts, and behind the stream
  module-written : written (dump_of (streams.Modules (dumps.module_of 0x1000 (Bytes (codes "xyz")) (Absent 5) ∷ []) ∷ [])) ≡ module_file
  unfolding number_at le rooms memory_in all_padded rows parts_of ranges_text blocks far_texts directory blocks_size fars_size first_misnamed
  module-written = refl

  -- the name of a thread stands at an address of 64 bits
  thread_names-written : written (dump_of (dumps.two_threads ∷ [])) ≡ head 1 32 ++ entry 24 28 44 ++ le 4 2 ++ le 4 7 ++ le 8 72 ++ le 4 8 ++ le 8 0 ++ le 4 8 ++ codes "a\0b\0c\0d\0" ++ zeros 4
  unfolding number_at le rooms memory_in all_padded rows parts_of ranges_text blocks far_texts directory blocks_size fars_size first_misnamed
  thread_names-written = refl

  -- a thread whose stack stays absent
  absent_stack-written : written absent_stack ≡ absent_stack_file ++ zeros 3
  unfolding number_at le rooms memory_in all_padded rows parts_of ranges_text blocks far_texts directory blocks_size fars_size first_misnamed
  absent_stack-written = refl

  -- a dump without streams
  empty-written : written (dump_of []) ≡ head 0 32
  unfolding number_at le rooms memory_in all_padded rows parts_of ranges_text blocks far_texts directory blocks_size fars_size first_misnamed
  empty-written = refl

  unused-written : written (dump_of (streams.Unused ∷ [])) ≡ head 1 32 ++ zeros 12
  unfolding number_at le rooms memory_in all_padded rows parts_of ranges_text blocks far_texts directory blocks_size fars_size first_misnamed
  unused-written = refl

  -- raw bytes that are none
  no_bytes-written : written (dump_of (streams.Raw 10 [] ∷ [])) ≡ head 1 32 ++ entry 10 0 0
  unfolding number_at le rooms memory_in all_padded rows parts_of ranges_text blocks far_texts directory blocks_size fars_size first_misnamed
  no_bytes-written = refl

  raw-written : written (dump_of (streams.Raw 10 (1 ∷ 2 ∷ 3 ∷ 4 ∷ 5 ∷ []) ∷ [])) ≡ head 1 32 ++ entry 10 5 44 ++ 1 ∷ 2 ∷ 3 ∷ 4 ∷ 5 ∷ zeros 3
  unfolding number_at le rooms memory_in all_padded rows parts_of ranges_text blocks far_texts directory blocks_size fars_size first_misnamed
  raw-written = refl

  -- a stream that stands twice is written twice
  repeated-written : written_size (dump_of (streams.Raw 10 (1 ∷ []) ∷ streams.Raw 10 (1 ∷ []) ∷ [])) ≡ 64
  unfolding number_at le rooms memory_in all_padded rows parts_of ranges_text blocks far_texts directory blocks_size fars_size first_misnamed
  repeated-written = refl

  -- 64-bit memory stands behind all streams, and a list of none names the place
  memory64-written : written (dump_of (streams.Memory64 (record { start = 0x1000; bytes = codes "ABCD" } ∷ record { start = 0x2000; bytes = codes "E" } ∷ []) ∷ streams.Memory64 [] ∷ [])) ≡ head 2 32 ++ entry 9 48 56 ++ entry 9 16 104 ++ le 8 2 ++ le 8 120 ++ le 8 0x1000 ++ le 8 4 ++ le 8 0x2000 ++ le 8 1 ++ le 8 0 ++ le 8 128 ++ codes "ABCDE" ++ zeros 3
  unfolding number_at le rooms memory_in all_padded rows parts_of ranges_text blocks far_texts directory blocks_size fars_size first_misnamed
  memory64-written = refl

  -- raw bytes of a known type
  raw_threads : layout_fault (dump_of (streams.Raw 3 [] ∷ [])) ≡ Some (RawKnownType 0)
  unfolding number_at le rooms memory_in all_padded rows parts_of ranges_text blocks far_texts directory blocks_size fars_size first_misnamed
  raw_threads = refl

  raw_thread_names : layout_fault (dump_of (streams.Raw 24 [] ∷ [])) ≡ Some (RawKnownType 0)
  unfolding number_at le rooms memory_in all_padded rows parts_of ranges_text blocks far_texts directory blocks_size fars_size first_misnamed
  raw_thread_names = refl

  raw_unused : layout_fault (dump_of (streams.Unused ∷ streams.Raw 0 (1 ∷ []) ∷ [])) ≡ Some (RawKnownType 1)
  unfolding number_at le rooms memory_in all_padded rows parts_of ranges_text blocks far_texts directory blocks_size fars_size first_misnamed
  raw_unused = refl

  crash-fault : layout_fault crash_dump ≡ None
  unfolding number_at le rooms memory_in all_padded rows parts_of ranges_text blocks far_texts directory blocks_size fars_size first_misnamed
  crash-fault = refl

  -- a stream of each kind
  each-size : length (written each_kind) ≡ written_size each_kind
  unfolding number_at le rooms memory_in all_padded rows parts_of ranges_text blocks far_texts directory blocks_size fars_size first_misnamed
  each-size = refl

  each-fault : layout_fault each_kind ≡ None
  unfolding number_at le rooms memory_in all_padded rows parts_of ranges_text blocks far_texts directory blocks_size fars_size first_misnamed
  each-fault = refl

-- ---- by sizes alone

-- one stream of this kind
abbrev one_stream : Kind → ℕ → ℕ → List StreamShape
one_stream kind raw parts = record { kind = kind; records = 0; raw = raw; parts = parts; bytes = 0 } ∷ []

-- the last address that the streams may end at, and the next
last-address : shape_fault (one_stream (kinds.Raw 10) (2 ^ 32 - 48) 0) ≡ None
unfolding blocks_size fars_size first_misnamed
last-address = refl

past-address : shape_fault (one_stream (kinds.Raw 10) (2 ^ 32 - 47) 0) ≡ Some TooLarge
unfolding blocks_size fars_size first_misnamed
past-address = refl

-- 64-bit memory may end behind that address, but not past the last of 64 bits
last-byte : shape_fault (one_stream (kinds.Known 9) 0 (2 ^ 64 - 64)) ≡ None
unfolding blocks_size fars_size first_misnamed
last-byte = refl

past-byte : shape_fault (one_stream (kinds.Known 9) 0 (2 ^ 64 - 63)) ≡ Some TooLarge
unfolding blocks_size fars_size first_misnamed
past-byte = refl

-- a misnamed stream is told before the size
misnamed-first : shape_fault (one_stream (kinds.Raw 9) (2 ^ 32) 0) ≡ Some (RawKnownType 0)
unfolding blocks_size fars_size first_misnamed
misnamed-first = refl
