use Rattle.std.proofs.Common.{◌≡◌, ◌≤◌, ◌<◌, ℕ, List, Some, length, get_or, vec_capacity}
use Rattle.mdmp_wire.specs.declared.entry.Entry.{Entry}
use Rattle.mdmp_wire.specs.Header.{header_at}
use Rattle.mdmp_lister.specs.Format.Listing.{entry_of}
use Rattle.mdmp_lister.proofs.Directory.{Passes}
use Rattle.mdmp_lister.proofs.opening.read_directory.Given as goal

-- the first entries were read
abbrev pub invariant-loop-number : goal.invariant-loop-number
invariant-loop-number g l = record {
  passes : Passes l.first l.fn.header.number_of_streams l.number l.initial.meter l.window l.meter;
  window : l.window.room ≡ l.initial.window.room;
  capacity : vec_capacity l.entries ≡ vec_capacity l.initial.entries;
  room : l.fn.header.number_of_streams ≤ vec_capacity l.entries;
  count : length l.entries.items ≡ l.number;
  each : (file : List ℕ) → l.initial.meter.source.store.content ≡ Some file → l.fn.header ≡ header_at file 0
      → (i : ℕ) (d : Entry) → i < length l.entries.items → get_or l.entries.items i d ≡ entry_of file i;
}
