-- What is asked of an item whatever its kind.
use Rattle.std.specs.Prelude.{ℕ, ◌+◌, Option, Some, None}
use Rattle.mdmp_wire.specs.declared.entry.Entry.{Entry}
use Rattle.mdmp_lister.specs.declared.item.Item.{Item}
use Rattle.mdmp_lister.specs.declared.item.Item.TheVariants as items
use Rattle.mdmp_lister.specs.declared.item.RangeItem.{RangeItem}
use Rattle.mdmp_lister.specs.declared.item.StreamItem.{StreamItem}
use Rattle.mdmp_lister.specs.declared.kind.StreamKind.{StreamKind}
use Rattle.mdmp_lister.specs.declared.kind.StreamKind.TheVariants as kinds
use Rattle.mdmp_lister.specs.declared.name.Name.{Name}
use Rattle.mdmp_lister.specs.declared.name.Name.TheVariants as names

pub record Summary : Type 0 where
  -- the number of its entry
  pub entry : ℕ
  -- the index of its record in the stream, and 0 of a Stream item
  pub index : ℕ
  -- the entry itself, of a Stream item
  pub stream : Option StreamItem
  -- the kind of its record: that of a memory list, where it is a range of either list
  pub kind : Option StreamKind
  -- its name
  pub name : Name
  -- the range of memory that it is
  pub range : Option RangeItem

-- a range is told alike, whichever list it is of
abbrev pub summary_kind : StreamKind → StreamKind
summary_kind kinds.Memory64 = kinds.Memory
summary_kind kind = kind

-- that of a record of this kind
abbrev pub summary_by : ℕ → ℕ → StreamKind → Name → Option RangeItem → Summary
summary_by e k kind name range = record { entry = e; index = k; stream = None; kind = Some (summary_kind kind); name = name; range = range }

abbrev pub summary_of : Item → Summary
summary_of (items.Stream x) = record { entry = x.entry; index = 0; stream = Some x; kind = None; name = names.None; range = None }
summary_of (items.Thread x) = summary_by x.entry x.index kinds.Threads names.None None
summary_of (items.Module x) = summary_by x.entry x.index kinds.Modules x.name None
summary_of (items.Unloaded x) = summary_by x.entry x.index kinds.Unloaded x.name None
summary_of (items.Exception x) = summary_by x.entry x.index kinds.Exception names.None None
summary_of (items.System x) = summary_by x.entry x.index kinds.System x.name None
summary_of (items.MemoryInfo x) = summary_by x.entry x.index kinds.MemoryInfo names.None None
summary_of (items.ThreadName x) = summary_by x.entry x.index kinds.ThreadNames x.name None
summary_of (items.Range x) = summary_by x.entry x.index kinds.Memory names.None (Some x)

-- ---- what follows where a Stream item, which begins an entry, was given or not

-- the number of the first entry behind the current one
abbrev pub number_behind : Option StreamItem → ℕ → ℕ
number_behind (Some x) next = x.entry + 1
number_behind None next = next

-- the current entry
abbrev pub entry_begun : Option StreamItem → Entry → Entry
entry_begun (Some x) e = record { stream_type = x.stream_type; location = x.location }
entry_begun None e = e
