-- What an item is, kind by kind, and what is gathered an item at a time.
use Rattle.std.specs.Prelude.{ℕ, List, [], ◌∷◌, None, Bool, true, false}
use Rattle.mdmp_source.specs.declared.location.Extent.{Extent}
use Rattle.mdmp_source.specs.declared.location.Extent.TheVariants.{Empty, Absent, Inside, Outside}
use Rattle.mdmp_wire.specs.declared.module.ModuleRecord.{ModuleRecord}
use Rattle.mdmp_wire.specs.declared.system.SystemRecord.{SystemRecord}
use Rattle.mdmp_wire.specs.declared.thread_name.ThreadNameRecord.{ThreadNameRecord}
use Rattle.mdmp_lister.specs.declared.item.ExceptionItem.{ExceptionItem}
use Rattle.mdmp_lister.specs.declared.item.Item.{Item}
use Rattle.mdmp_lister.specs.declared.item.Item.TheVariants as items
use Rattle.mdmp_lister.specs.declared.item.RangeItem.{RangeItem}
use Rattle.mdmp_lister.specs.declared.item.StreamItem.{StreamItem}
use Rattle.mdmp_lister.specs.declared.item.ThreadItem.{ThreadItem}
use Rattle.mdmp_lister.specs.declared.kind.StreamKind.{StreamKind}
use Rattle.mdmp_lister.specs.declared.kind.StreamKind.TheVariants as kinds
use Rattle.mdmp_summary.specs.Crash.{exceptions_seen}
use Rattle.mdmp_summary.specs.Keeping.{counted_on, kept, summed_on}
use Rattle.mdmp_summary.specs.Part.{parts_outside, parts_seen}
use Rattle.mdmp_summary.specs.declared.gathering.Gathering.{Gathering}

-- ---- an item, by its kind: a list of one or none

abbrev pub streams_given : Item → List StreamItem
streams_given (items.Stream x) = x ∷ []
streams_given x = []

abbrev pub threads_given : Item → List ThreadItem
threads_given (items.Thread x) = x ∷ []
threads_given x = []

abbrev pub modules_given : Item → List ModuleRecord
modules_given (items.Module x) = x.fields ∷ []
modules_given x = []

abbrev pub exceptions_given : Item → List ExceptionItem
exceptions_given (items.Exception x) = x ∷ []
exceptions_given x = []

abbrev pub systems_given : Item → List SystemRecord
systems_given (items.System x) = x.fields ∷ []
systems_given x = []

abbrev pub thread_names_given : Item → List ThreadNameRecord
thread_names_given (items.ThreadName x) = x.fields ∷ []
thread_names_given x = []

abbrev pub ranges_given : Item → List RangeItem
ranges_given (items.Range x) = x ∷ []
ranges_given x = []

-- how many bytes of a range of this extent and size lie inside the file: all or none
abbrev pub inside_bytes : Extent → ℕ → ℕ
inside_bytes Inside size = size
inside_bytes Empty size = 0
inside_bytes Absent size = 0
inside_bytes Outside size = 0

abbrev pub memory_given : Item → List ℕ
memory_given (items.Range x) = inside_bytes x.extent x.size ∷ []
memory_given x = []

-- ---- kinds

-- something is gathered of records of this kind
abbrev pub is_gathered : StreamKind → Bool
is_gathered kinds.Unloaded = false
is_gathered kinds.MemoryInfo = false
is_gathered kinds.ThreadNames = false
is_gathered kind = true

-- ---- an item at a time

-- before the first item
abbrev pub nothing_gathered : Gathering
nothing_gathered = record {
  system = None;
  program = None;
  exceptions = record { first = None; unbroken = None; unstopped = None };
  counts = record { streams = 0; threads = 0; modules = 0; exceptions = 0; ranges = 0; memory = 0 };
  outside = record { count = 0; first = None };
}

-- after an item
abbrev pub gathered_with : Gathering → Item → Gathering
gathered_with old x = record {
  system = kept old.system (systems_given x);
  program = kept old.program (modules_given x);
  exceptions = exceptions_seen old.exceptions (exceptions_given x);
  counts = record {
    streams = counted_on old.counts.streams (streams_given x);
    threads = counted_on old.counts.threads (threads_given x);
    modules = counted_on old.counts.modules (modules_given x);
    exceptions = counted_on old.counts.exceptions (exceptions_given x);
    ranges = counted_on old.counts.ranges (ranges_given x);
    memory = summed_on old.counts.memory (memory_given x);
  };
  outside = parts_seen old.outside (parts_outside x);
}
