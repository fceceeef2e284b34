use Rattle.std.proofs.Common.{◌≡◌, ℕ, List, Some, None, true}
use Rattle.mdmp_lister.specs.Memory.{is_within}
use Rattle.mdmp_source.specs.Source.{FetchesSome}
use Rattle.mdmp_lister.specs.declared.item.Item.{Item}
use Rattle.mdmp_lister.specs.Format.Listing.{Run}
use Rattle.mdmp_lister.specs.Requested.{AreRequested}
use Rattle.mdmp_summary.specs.InEntry.{StandsInChosen}
use Rattle.mdmp_engines.specs.ReadThrough.{IsSameRun}
use Rattle.mdmp_engines.proofs.Besides.{HasRead}
use Rattle.mdmp_engines.proofs.Printing.{HasPrinted}
use Rattle.mdmp_engines.proofs.Reached.{HasNamed}
use Rattle.mdmp_engines.proofs.list.list_items.Given as goal

-- some items were printed
abbrev pub invariant-loop : goal.invariant-loop
invariant-loop g l = record {
  going : l.lister.stop ≡ None;
  stands : StandsInChosen l.initial.lister → StandsInChosen l.lister;
  source : FetchesSome l.initial.lister.source l.lister.source;
  run : IsSameRun l.initial.lister l.lister;
  steady : (g.O.Printer.state l.out).failures ≡ (g.O.Printer.state l.initial.out).failures;
  aside : is_within l.aside l.lister.counts.aside.bytes ≡ true;
  read : HasRead l.pdb l.initial.lister l.lister;
  named : HasNamed l.initial.lister l.lister;
  requested : (xs : List Item) × AreRequested l.initial.lister xs l.lister;
  printed : (file : List ℕ) → l.initial.lister.source.store.content ≡ Some file → (run : Run) → l.initial.lister.left ≡ Some run
      → (left : Run) × ((l.lister.left ≡ Some left)
      × HasPrinted l.form l.pdb file l.initial.lister.limit run (g.O.Printer.state l.initial.out) left (g.O.Printer.state l.out));
}

abbrev pub decreases-loop : goal.decreases-loop
decreases-loop g l = l.lister.work
