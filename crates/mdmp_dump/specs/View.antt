-- A dump as a view gives it: of each stream its kind, its records and its raw bytes.
use Rattle.std.specs.Prelude.{ℕ, List, [], ◌∷◌, map}
use Rattle.mdmp_dump.specs.declared.dump.Dump.{Dump}
use Rattle.mdmp_dump.specs.declared.dump.Stream.{Stream}
use Rattle.mdmp_dump.specs.declared.dump.Stream.TheVariants as streams
use Rattle.mdmp_dump.specs.declared.view.HeaderFields.{HeaderFields}
use Rattle.mdmp_dump.specs.declared.view.Kind.{Kind}
use Rattle.mdmp_dump.specs.declared.view.Kind.TheVariants as kinds
use Rattle.mdmp_dump.specs.Seen.{Seen}
use Rattle.mdmp_dump.specs.Exception.{exception_seen}
use Rattle.mdmp_dump.specs.Memory.{memory_seen}
use Rattle.mdmp_dump.specs.Memory64.{memory64_seen}
use Rattle.mdmp_dump.specs.MemoryInfo.{memory_info_seen}
use Rattle.mdmp_dump.specs.Module.{module_seen}
use Rattle.mdmp_dump.specs.System.{system_seen}
use Rattle.mdmp_dump.specs.Thread.{thread_seen}
use Rattle.mdmp_dump.specs.ThreadName.{thread_name_seen}
use Rattle.mdmp_dump.specs.Unloaded.{unloaded_seen}
use Rattle.mdmp_dump.specs.Value.{type_of}

-- a stream whose content is known
pub record StreamSeen : Type 0 where
  pub kind : Kind
  pub records : List Seen
  pub raw : List ℕ

-- a dump whose content is known
pub record DumpSeen : Type 0 where
  pub header : HeaderFields
  pub streams : List StreamSeen

module _ {Z : Type 0} where
  -- the kind of a stream
  abbrev pub kind_in : Stream Z → Kind
  kind_in streams.Unused = kinds.Unused
  kind_in (streams.Raw t bytes) = kinds.Raw t
  kind_in s = kinds.Known (type_of s)

  -- its records
  abbrev pub records_seen : Stream Z → List Seen
  records_seen streams.Unused = []
  records_seen (streams.Threads xs) = map thread_seen xs
  records_seen (streams.Modules xs) = map module_seen xs
  records_seen (streams.Memory xs) = map memory_seen xs
  records_seen (streams.Exception x) = exception_seen x ∷ []
  records_seen (streams.System x) = system_seen x ∷ []
  records_seen (streams.Memory64 xs) = map memory64_seen xs
  records_seen (streams.Unloaded xs) = map unloaded_seen xs
  records_seen (streams.MemoryInfo xs) = map memory_info_seen xs
  records_seen (streams.ThreadNames xs) = map thread_name_seen xs
  records_seen (streams.Raw t bytes) = []

  -- its bytes, where these are raw
  abbrev pub raw_in : Stream Z → List ℕ
  raw_in (streams.Raw t bytes) = bytes
  raw_in s = []

  abbrev pub stream_seen : Stream Z → StreamSeen
  stream_seen s = record { kind = kind_in s; records = records_seen s; raw = raw_in s }

  abbrev pub header_seen : Dump Z → HeaderFields
  header_seen d = record { version_high = d.version_high; checksum = d.checksum; time = d.time; flags = d.flags }

  abbrev pub dump_seen : Dump Z → DumpSeen
  dump_seen d = record { header = header_seen d; streams = map stream_seen d.streams }
