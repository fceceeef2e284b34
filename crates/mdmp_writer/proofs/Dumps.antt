-- The values of worked files.
use Rattle.std.specs.Prelude.{ℕ, [], ◌∷◌, Some, None, codes, replicate}
use Rattle.mdmp_wire.specs.declared.version.VersionInfo.{VersionInfo}
use Rattle.mdmp_dump.specs.declared.part.Part.{Part}
use Rattle.mdmp_dump.specs.declared.part.Part.TheVariants.{Bytes, Absent}
use Rattle.mdmp_dump.specs.declared.module.Module.{Module}
use Rattle.mdmp_dump.specs.declared.system.System.{System}
use Rattle.mdmp_dump.specs.declared.dump.Stream.{Stream}
use Rattle.mdmp_dump.specs.declared.dump.Stream.TheVariants as streams
use Rattle.mdmp_dump.specs.declared.dump.Dump.{Dump}
use Rattle.mdmp_dump.proofs.WorkedDumps.{absent_stack, crash, crash_thread, dump_of}

abbrev pub no_version : VersionInfo
no_version = record {
  signature = 0;
  structure_version = 0;
  file_version_ms = 0;
  file_version_ls = 0;
  product_version_ms = 0;
  product_version_ls = 0;
  file_flags_mask = 0;
  file_flags = 0;
  file_os = 0;
  file_type = 0;
  file_subtype = 0;
  file_date_ms = 0;
  file_date_ls = 0;
}

module _ {Z : Type 0} where
  abbrev pub service_pack : System Z
  service_pack = record {
    processor_architecture = 9;
    processor_level = 6;
    processor_revision = 3;
    number_of_processors = 4;
    product_type = 1;
    major_version = 6;
    minor_version = 1;
    build_number = 7601;
    platform_id = 2;
    name = Some (codes "Service Pack 1");
    suite_mask = 256;
    reserved2 = 0;
    cpu = replicate 24 0;
  }

  -- the value of the file with a system
  abbrev pub system_dump : Dump Z
  system_dump = dump_of (streams.System service_pack ∷ [])

  -- six streams: a system, a thread, no modules, an exception, no memory and raw bytes
  abbrev pub six_streams : Dump Z
  six_streams = dump_of (streams.System service_pack ∷ streams.Threads (crash_thread ∷ []) ∷ streams.Modules [] ∷ streams.Exception crash ∷ streams.Memory [] ∷ streams.Raw 12 (1 ∷ 2 ∷ 3 ∷ 4 ∷ []) ∷ [])

  -- a thread whose stack is absent
  abbrev pub absent_dump : Dump Z
  absent_dump = dump_of (absent_stack ∷ [])

  -- modules with every kind of name and part
  abbrev pub module_of : ℕ → Part Z → Part Z → Module Z
  module_of base codeview misc = record {
    base_of_image = base;
    size_of_image = 1;
    checksum = 2;
    time_date_stamp = 3;
    name = Some (codes "abc");
    version_info = record no_version { file_version_ms = 0x000A0000 };
    codeview = codeview;
    misc = misc;
    reserved0 = 4;
    reserved1 = 5;
  }

  -- a thread with a name, and one without
  abbrev pub two_threads : Stream Z
  two_threads = streams.ThreadNames (record { thread_id = 7; name = Some (codes "abcd") } ∷ record { thread_id = 8; name = None } ∷ [])

  -- a stream of each kind, and header fields
  abbrev pub each_kind : Dump Z
  each_kind = record {
    version_high = 0x12AA;
    checksum = 21;
    time = 22;
    flags = 23;
    streams =
        streams.Unused
        ∷ streams.Modules (module_of 0x1000 (Bytes (codes "xyz")) (Absent 5) ∷ module_of 0x2000 (Absent 9) (Bytes []) ∷ [])
        ∷ streams.Memory64 (record { start = 0x1000; bytes = codes "ABCD" } ∷ record { start = 0x2000; bytes = codes "E" } ∷ [])
        ∷ streams.Memory (record { start = 0x3000; bytes = Bytes (codes "pqrst") } ∷ record { start = 0x4000; bytes = Absent 7 } ∷ record { start = 0x5000; bytes = Bytes [] } ∷ [])
        ∷ streams.Unloaded (record { base_of_image = 1; size_of_image = 2; checksum = 3; time_date_stamp = 4; name = Some [] } ∷ record { base_of_image = 5; size_of_image = 6; checksum = 7; time_date_stamp = 8; name = None } ∷ [])
        ∷ streams.MemoryInfo (record { base_address = 1; allocation_base = 2; allocation_protect = 3; region_size = 4; state = 5; protect = 6; memory_type = 7 } ∷ [])
        ∷ two_threads
        ∷ streams.Raw 15 []
        ∷ streams.Raw 10 (codes "hello")
        ∷ streams.Memory64 (record { start = 0x9000; bytes = codes "Z" } ∷ [])
        ∷ [];
  }
