use Rattle.std.proofs.Common.{◌≡◌, ◌≤◌, ◌+◌, ◌-◌, ℕ, List, Some, None, false}
use Rattle.mdmp_source.specs.Source.{FetchesAtMost}
use Rattle.mdmp_lister.specs.declared.item.Item.{Item}
use Rattle.mdmp_lister.specs.Lister.{IsSameLister}
use Rattle.mdmp_lister.specs.NamesFetched.{FetchesNames}
use Rattle.mdmp_lister.specs.Sink.{Taken}
use Rattle.mdmp_summary.specs.Checking.{rows_cost}
use Rattle.mdmp_summary.specs.InEntry.{StandsInChosen}
use Rattle.mdmp_summary.specs.declared.check_row.CheckRow.{CheckRow}
use Rattle.mdmp_summary.proofs.CheckingOn.{ChecksOn}
use Rattle.mdmp_summary.proofs.checking.check_runs.Given as goal

-- each run so far ended at a bad entry, and the sink took its rows
abbrev pub invariant-entries : goal.invariant-entries
invariant-entries g l = record {
  same_sink : l.maker.sink.ghost_name ≡ l.fn.maker.sink.ghost_name;
  fresh : (l.maker.entry ≡ None) × (l.maker.loses_parts ≡ false);
  same : IsSameLister l.fn.lister l.lister;
  going : l.lister.stop ≡ None;
  stands : StandsInChosen l.fn.lister → StandsInChosen l.lister;
  rows : List CheckRow;
  items : List Item;
  fetches : FetchesAtMost (l.fn.lister.unread + rows_cost l.fn.lister.source.size l.fn.lister.limit items rows - l.lister.unread) l.fn.lister.source l.lister.source;
  unread : l.lister.unread ≤ l.fn.lister.unread + rows_cost l.fn.lister.source.size l.fn.lister.limit items rows;
  named : FetchesNames 1 items l.fn.lister.counts.fetched l.lister.counts.fetched;
  taken : Taken g.K.CheckRowSink.step l.fn.maker.sink.now rows l.maker.sink.now;
  checks : (file : List ℕ) → l.fn.lister.source.store.content ≡ Some file → ChecksOn file l.fn.lister.limit l.fn.lister l.lister rows items l.counter;
}
