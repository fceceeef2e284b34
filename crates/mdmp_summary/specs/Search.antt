-- The modules at an address, and the name of a thread.
use Rattle.std.specs.Prelude.{ℕ, ◌+◌, List, [], ◌∷◌, Option, Some, None, Bool, filter, true, false, nat_le, nat_lt, ◌==◌, ◌&&◌, if◌then◌else◌}
use Rattle.mdmp_wire.specs.declared.module.ModuleRecord.{ModuleRecord}
use Rattle.mdmp_wire.specs.declared.thread_name.ThreadNameRecord.{ThreadNameRecord}
use Rattle.mdmp_lister.specs.declared.item.Item.{Item}
use Rattle.mdmp_lister.specs.declared.kind.StreamKind.{StreamKind}
use Rattle.mdmp_lister.specs.declared.kind.StreamKind.TheVariants as kinds
use Rattle.mdmp_summary.specs.Gathering.{modules_given, thread_names_given}
use Rattle.mdmp_summary.specs.Keeping.{kept}
use Rattle.mdmp_summary.specs.declared.search.CrashSearch.{CrashSearch}

-- the module holds this address
abbrev pub holds_address : ℕ → ModuleRecord → Bool
holds_address address m = nat_le m.base_of_image address && nat_lt address (m.base_of_image + m.size_of_image)

-- the module begins at this address or below it
abbrev pub begins_below : ℕ → ModuleRecord → Bool
begins_below address m = nat_le m.base_of_image address

-- the name is that of the thread with this id
abbrev pub is_name_of : ℕ → ThreadNameRecord → Bool
is_name_of thread t = t.thread_id == thread

-- of two modules the one with the greater base, and the first of two with the same base
abbrev pub higher : Option ModuleRecord → Option ModuleRecord → Option ModuleRecord
higher None next = next
higher (Some m) None = Some m
higher (Some m) (Some n) = if nat_lt m.base_of_image n.base_of_image then Some n else Some m

-- the module with the greatest base, the first of those with this base
abbrev pub highest : List ModuleRecord → Option ModuleRecord
highest [] = None
highest (m ∷ ms) = higher (Some m) (highest ms)

-- the module with the greatest base at or below an address
abbrev pub nearest_below : ℕ → List ModuleRecord → Option ModuleRecord
nearest_below address ms = highest (filter (begins_below address) ms)

-- ---- kinds

-- something is searched among records of this kind
abbrev pub is_searched : StreamKind → Bool
is_searched kinds.Modules = true
is_searched kinds.ThreadNames = true
is_searched kind = false

-- ---- an item at a time

abbrev pub nothing_found : ℕ → ℕ → CrashSearch
nothing_found address thread = record { address = address; thread = thread; holder = None; nearest = None; name = None }

-- after a module, and after a name
abbrev pub module_found : CrashSearch → ModuleRecord → CrashSearch
module_found old m = record old {
  holder = kept old.holder (filter (holds_address old.address) (m ∷ []));
  nearest = higher old.nearest (nearest_below old.address (m ∷ []));
}

abbrev pub name_found : CrashSearch → ThreadNameRecord → CrashSearch
name_found old t = record old { name = kept old.name (filter (is_name_of old.thread) (t ∷ [])) }

-- after an item
abbrev pub found : CrashSearch → Item → CrashSearch
found old x = record {
  address = old.address;
  thread = old.thread;
  holder = kept old.holder (filter (holds_address old.address) (modules_given x));
  nearest = higher old.nearest (nearest_below old.address (modules_given x));
  name = kept old.name (filter (is_name_of old.thread) (thread_names_given x));
}
