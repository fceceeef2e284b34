use Rattle.std.proofs.Common.{◌≡◌, ◌+◌, ℕ, List, None, Some}
use Rattle.mdmp_source.specs.Source.{FetchesSome}
use Rattle.mdmp_source.specs.Store.{IsGood}
use Rattle.mdmp_lister.specs.Format.Listing.{Run}
use Rattle.mdmp_lister.specs.declared.item.Item.{Item}
use Rattle.mdmp_lister.specs.Lister.{IsSameLister}
use Rattle.mdmp_lister.specs.Requested.{AreRequested}
use Rattle.mdmp_lister.specs.Sink.{names_of_all}
use Rattle.mdmp_summary.specs.InEntry.{StandsInChosen}
use Rattle.mdmp_c.proofs.Gathered.{HasCollected}
use Rattle.mdmp_c.proofs.collecting.collect.Given as goal

-- the rows of some items stand in the array
abbrev pub invariant-loop-item : goal.invariant-loop-item
invariant-loop-item g l = record {
  source : FetchesSome l.initial.lister.source l.lister.source;
  going : l.lister.stop ≡ None;
  stands : StandsInChosen l.initial.lister → StandsInChosen l.lister;
  same : IsSameLister l.initial.lister l.lister;
  requested : (items : List Item) × AreRequested l.initial.lister items l.lister;
  collected : (file : List ℕ) → IsGood l.initial.lister.source.store file → (run : Run) → l.initial.lister.left ≡ Some run
      → (left : Run) × ((l.lister.left ≡ Some left) × (HasCollected g.T.PlainRow.row_of run left l.count l.initial.out l.out
      × (l.lister.counts.names + names_of_all left.items ≡ l.initial.lister.counts.names + names_of_all run.items)));
}

abbrev pub decreases-loop-item : goal.decreases-loop-item
decreases-loop-item g l = l.lister.work
