use Rattle.std.proofs.Common.{◌≡◌, ◌≤◌, ℕ, List, [], length, Ok, Some, None}
use Rattle.mdmp_source.specs.Source.{FetchesSome}
use Rattle.mdmp_lister.specs.Format.Kind.{kind_of}
use Rattle.mdmp_lister.specs.Format.Listing.{Numbered}
use Rattle.mdmp_dump.specs.ItemsRead.{ReadsInTurn}
use Rattle.mdmp_dump.specs.Keeping.{KeepsOn}
use Rattle.mdmp_dump.specs.Left.{left_from}
use Rattle.mdmp_dump.specs.Reading.{AreRows, IsOfType, owed}
use Rattle.mdmp_dump.proofs.reader.Reader.rows.Given as goal

-- some records were read, and the next one is that behind them
abbrev pub invariant-loop-rows : goal.invariant-loop-rows
invariant-loop-rows g l = record {
  going : l.self.lister.stop ≡ None;
  fetches : FetchesSome l.initial.self.lister.source l.self.lister.source;
  keeps : KeepsOn l.initial.self l.self;
  reads : ReadsInTurn {T = Unit {0}} [] (Ok tt) [] l.initial.self.lister l.self.lister;
  current : l.self.lister.current ≡ l.initial.self.lister.current;
  rests : l.self.lister.work ≤ l.initial.self.lister.work;
  of_file : (file : List ℕ) (limit : ℕ) (x : Numbered) (xs : List Numbered) → l.initial.self.lister.source.store.content ≡ Some file
      → l.initial.self.lister.left ≡ Some (left_from file limit x 0 xs) → kind_of x.entry.stream_type ≡ Some g.T.Row.kind → IsOfType l.initial.self.lister x.entry.stream_type
      → (l.self.lister.left ≡ Some (left_from file limit x (length l.rows.items) xs))
      × (AreRows file x g.T.Row.kind (g.T.Row.IsAt file x.entry.location.rva) l.rows.items
      × (owed file l.initial.self.left None l.initial.self.lister.left ≡ owed file l.self.left None l.self.lister.left));
}

abbrev pub decreases-loop-rows : goal.decreases-loop-rows
decreases-loop-rows g l = l.self.lister.work
