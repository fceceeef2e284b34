use Rattle.std.proofs.Common.{◌≡◌, ℕ, List, Some, None, true}
use Rattle.mdmp_lister.specs.Memory.{is_within}
use Rattle.mdmp_source.specs.Source.{FetchesSome}
use Rattle.mdmp_source.specs.Store.{IsGood}
use Rattle.mdmp_lister.specs.declared.item.Item.{Item}
use Rattle.mdmp_lister.specs.Format.Listing.{Run}
use Rattle.mdmp_lister.specs.Requested.{AreRequested}
use Rattle.mdmp_engines.proofs.Reached.{HasNamed}
use Rattle.mdmp_summary.specs.InEntry.{StandsInChosen}
use Rattle.mdmp_engines.specs.ReadThrough.{IsSameRun}
use Rattle.mdmp_c.specs.TextPart.{IsPartOf}
use Rattle.mdmp_c.proofs.AsideRead.{HasMet}
use Rattle.mdmp_c.proofs.Listed.{HasGiven}
use Rattle.mdmp_c.proofs.list_part.gather_items.Given as goal

-- the lines of some items were given
abbrev pub invariant-loop-lines : goal.invariant-loop-lines
invariant-loop-lines g l = record {
  going : l.lister.stop ≡ None;
  stands : StandsInChosen l.initial.lister → StandsInChosen l.lister;
  source : FetchesSome l.initial.lister.source l.lister.source;
  run : IsSameRun l.initial.lister l.lister;
  aside : is_within l.aside l.lister.counts.aside.bytes ≡ true;
  named : HasNamed l.initial.lister l.lister;
  requested : (items : List Item) × AreRequested l.initial.lister items l.lister;
  met : (file : List ℕ) → l.initial.lister.source.store.content ≡ Some file → (run : Run) → l.initial.lister.left ≡ Some run → HasMet l.pdb file l.initial.lister run l.lister;
  part : (file : List ℕ) → IsGood l.initial.lister.source.store file → (run : Run) → l.initial.lister.left ≡ Some run → (skip room : ℕ) (before : List ℕ)
      → IsPartOf skip room before l.initial.part.skip l.initial.part.room l.initial.part.size l.initial.part.kept.items
      → (left : Run) × ((l.lister.left ≡ Some left)
      × HasGiven l.form l.pdb file l.initial.lister.limit run before skip room left l.part.skip l.part.room l.part.size l.part.kept.items);
}

abbrev pub decreases-loop-lines : goal.decreases-loop-lines
decreases-loop-lines g l = l.lister.work
