-- The dump that a file lays out, as a function of its bytes. Of a file that lays out none it says nothing of use.
use Rattle.std.specs.Prelude.{ℕ, zero, suc, ◌+◌, ◌*◌, ◌/◌, List, [], ◌∷◌, length, map, Option, Some, None, Result, Ok, Err}
use Rattle.mdmp_source.specs.Extent.{extent_of}
use Rattle.mdmp_source.specs.declared.location.Location.{Location}
use Rattle.mdmp_wire.specs.declared.entry.Entry.{Entry}
use Rattle.mdmp_wire.specs.Number.{array_at}
use Rattle.mdmp_wire.specs.Descriptor.{descriptor_at}
use Rattle.mdmp_wire.specs.Descriptor64.{descriptor64_at}
use Rattle.mdmp_wire.specs.Exception.{exception_at}
use Rattle.mdmp_wire.specs.Header.{header_at}
use Rattle.mdmp_wire.specs.MemoryInfo.{memory_info_at}
use Rattle.mdmp_wire.specs.Module.{module_at}
use Rattle.mdmp_wire.specs.System.{system_at}
use Rattle.mdmp_wire.specs.Thread.{thread_at}
use Rattle.mdmp_wire.specs.ThreadName.{thread_name_at}
use Rattle.mdmp_wire.specs.Unloaded.{unloaded_at}
use Rattle.mdmp_lister.specs.declared.choice.Choice.{Choice}
use Rattle.mdmp_lister.specs.declared.fault.Fault.{Fault}
use Rattle.mdmp_lister.specs.declared.kind.StreamKind.{StreamKind}
use Rattle.mdmp_lister.specs.declared.kind.StreamKind.TheVariants as kinds
use Rattle.mdmp_lister.specs.declared.name.Name.{Name}
use Rattle.mdmp_lister.specs.declared.shape.Shape.{Shape}
use Rattle.mdmp_lister.specs.Format.Item.{range_offset}
use Rattle.mdmp_lister.specs.Format.Kind.{kind_of}
use Rattle.mdmp_lister.specs.Format.Listing.{chosen}
use Rattle.mdmp_lister.specs.Format.Name.{name_at}
use Rattle.mdmp_lister.specs.Format.Shape.{shape_of}
use Rattle.mdmp_dump.specs.declared.dump.Dump.{Dump}
use Rattle.mdmp_dump.specs.declared.dump.Stream.{Stream}
use Rattle.mdmp_dump.specs.declared.dump.Stream.TheVariants as streams
use Rattle.mdmp_dump.specs.declared.exception.Exception.{Exception}
use Rattle.mdmp_dump.specs.declared.memory.MemoryRange.{MemoryRange}
use Rattle.mdmp_dump.specs.declared.memory64.Memory64Range.{Memory64Range}
use Rattle.mdmp_dump.specs.declared.module.Module.{Module}
use Rattle.mdmp_dump.specs.declared.part.Part.{Part}
use Rattle.mdmp_dump.specs.declared.part.Part.TheVariants as parts
use Rattle.mdmp_dump.specs.declared.system.System.{System}
use Rattle.mdmp_dump.specs.declared.thread.Thread.{Thread}
use Rattle.mdmp_dump.specs.declared.thread_name.ThreadName.{ThreadName}
use Rattle.mdmp_dump.specs.declared.unloaded.Unloaded.{Unloaded}
use Rattle.mdmp_dump.specs.Name.{name_told}
use Rattle.mdmp_dump.specs.Part.{part_in}

-- ---- names and parts

abbrev pub told_or : Option (Option (List ℕ)) → Option (List ℕ)
told_or None = None
told_or (Some name) = name

abbrev pub units_told : Result Name Fault → Option (List ℕ)
units_told (Ok name) = told_or (name_told name)
units_told (Err fault) = None

-- the name at an RVA
abbrev pub name_in : List ℕ → ℕ → Option (List ℕ)
name_in F rva = units_told (name_at F rva (length F))

-- ---- records one behind the other

-- the records of a shape, from index k on
unfoldable pub rows_in : {X : Type 0} → (ℕ → ℕ → X) → ℕ → ℕ → ℕ → ℕ → List X
rows_in f at stride k zero = []
rows_in f at stride k (suc n) = f k (at + k * stride) ∷ rows_in f at stride (k + 1) n

abbrev pub list_in : {X : Type 0} → (ℕ → ℕ → X) → ℕ → Shape → List X
list_in f rva shape = rows_in f (rva + shape.first) shape.stride 0 shape.count

module _ {Z : Type 0} where
  abbrev pub part_or : Option (Part Z) → Part Z
  part_or None = parts.Bytes []
  part_or (Some part) = part

  -- the part that a location names
  abbrev pub part_named : List ℕ → Location → Part Z
  part_named F at = part_or (part_in F at (extent_of at (length F)))

  -- ---- records, each at a place

  abbrev pub thread_in : List ℕ → ℕ → Thread Z
  thread_in F o =
      let r = thread_at F o in
      record {
        thread_id = r.thread_id;
        suspend_count = r.suspend_count;
        priority_class = r.priority_class;
        priority = r.priority;
        teb = r.teb;
        stack_start = r.stack.start_of_memory_range;
        stack = part_named F r.stack.memory;
        context = part_named F r.thread_context;
      }

  abbrev pub module_in : List ℕ → ℕ → Module Z
  module_in F o =
      let r = module_at F o in
      record {
        base_of_image = r.base_of_image;
        size_of_image = r.size_of_image;
        checksum = r.checksum;
        time_date_stamp = r.time_date_stamp;
        name = name_in F r.module_name_rva;
        version_info = r.version_info;
        codeview = part_named F r.cv_record;
        misc = part_named F r.misc_record;
        reserved0 = r.reserved0;
        reserved1 = r.reserved1;
      }

  abbrev pub memory_in : List ℕ → ℕ → MemoryRange Z
  memory_in F o = record { start = (descriptor_at F o).start_of_memory_range; bytes = part_named F (descriptor_at F o).memory }

  -- range k of the list at a place
  abbrev pub memory64_in : List ℕ → ℕ → ℕ → ℕ → Memory64Range Z
  memory64_in F at k o =
      record { start = (descriptor64_at F o).start_of_memory_range; bytes = array_at F (range_offset F at k) (descriptor64_at F o).data_size }

  abbrev pub exception_in : List ℕ → ℕ → Exception Z
  exception_in F o =
      let r = exception_at F o in
      record {
        thread_id = r.thread_id;
        exception_code = r.exception_code;
        exception_flags = r.exception_flags;
        exception_record = r.exception_record;
        exception_address = r.exception_address;
        number_parameters = r.number_parameters;
        exception_information = r.exception_information;
        context = part_named F r.thread_context;
      }

  abbrev pub system_in : List ℕ → ℕ → System Z
  system_in F o =
      let r = system_at F o in
      record {
        processor_architecture = r.processor_architecture;
        processor_level = r.processor_level;
        processor_revision = r.processor_revision;
        number_of_processors = r.number_of_processors;
        product_type = r.product_type;
        major_version = r.major_version;
        minor_version = r.minor_version;
        build_number = r.build_number;
        platform_id = r.platform_id;
        name = name_in F r.csd_version_rva;
        suite_mask = r.suite_mask;
        reserved2 = r.reserved2;
        cpu = r.cpu;
      }

  abbrev pub unloaded_in : List ℕ → ℕ → Unloaded Z
  unloaded_in F o =
      let r = unloaded_at F o in
      record {
        base_of_image = r.base_of_image;
        size_of_image = r.size_of_image;
        checksum = r.checksum;
        time_date_stamp = r.time_date_stamp;
        name = name_in F r.module_name_rva;
      }

  abbrev pub thread_name_in : List ℕ → ℕ → ThreadName Z
  thread_name_in F o = record { thread_id = (thread_name_at F o).thread_id; name = name_in F (thread_name_at F o).rva_of_thread_name }

  -- ---- streams

  -- a stream of a kind that has this shape
  abbrev pub shaped_in : List ℕ → ℕ → StreamKind → Shape → Stream Z
  shaped_in F rva kinds.Threads shape = streams.Threads (list_in (λ k o. thread_in F o) rva shape)
  shaped_in F rva kinds.Modules shape = streams.Modules (list_in (λ k o. module_in F o) rva shape)
  shaped_in F rva kinds.Memory shape = streams.Memory (list_in (λ k o. memory_in F o) rva shape)
  shaped_in F rva kinds.Exception shape = streams.Exception (exception_in F (rva + shape.first))
  shaped_in F rva kinds.System shape = streams.System (system_in F (rva + shape.first))
  shaped_in F rva kinds.Memory64 shape = streams.Memory64 (list_in (memory64_in F rva) rva shape)
  shaped_in F rva kinds.Unloaded shape = streams.Unloaded (list_in (λ k o. unloaded_in F o) rva shape)
  shaped_in F rva kinds.MemoryInfo shape = streams.MemoryInfo (list_in (λ k o. memory_info_at F o) rva shape)
  shaped_in F rva kinds.ThreadNames shape = streams.ThreadNames (list_in (λ k o. thread_name_in F o) rva shape)

  abbrev pub known_in : List ℕ → ℕ → StreamKind → Result Shape Fault → Stream Z
  known_in F rva kind (Ok shape) = shaped_in F rva kind shape
  known_in F rva kind (Err fault) = streams.Unused

  abbrev pub by_kind : List ℕ → Entry → Option StreamKind → Stream Z
  by_kind F e (Some kind) = known_in F e.location.rva kind (shape_of F e.location.rva e.location.size kind)
  by_kind F e None = streams.Raw e.stream_type (array_at F e.location.rva e.location.size)

  abbrev pub by_type : List ℕ → Entry → ℕ → Stream Z
  by_type F e zero = streams.Unused
  by_type F e (suc t) = by_kind F e (kind_of (suc t))

  -- the stream of an entry
  abbrev pub stream_named : List ℕ → Entry → Stream Z
  stream_named F e = by_type F e e.stream_type

  -- ---- the whole

  unfoldable pub dump_in : List ℕ → Choice → Dump Z
  dump_in F choice = record {
    version_high = (header_at F 0).version / 65536;
    checksum = (header_at F 0).checksum;
    time = (header_at F 0).time_date_stamp;
    flags = (header_at F 0).flags;
    streams = map (λ x. stream_named F x.entry) (chosen F choice);
  }
