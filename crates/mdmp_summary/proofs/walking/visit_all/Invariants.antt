use Rattle.std.proofs.Common.{◌≡◌, ℕ, List, Some, None}
use Rattle.mdmp_lister.specs.declared.fault.ListFault.{ListFault}
use Rattle.mdmp_lister.specs.declared.item.Item.{Item}
use Rattle.mdmp_summary.specs.BadEntries.{told_bad}
use Rattle.mdmp_summary.specs.Skipping.{IsBetween}
use Rattle.mdmp_lister.specs.NamesFetched.{FetchesNames}
use Rattle.mdmp_summary.specs.Visiting.{RisesOutside, VisitedAll}
use Rattle.mdmp_summary.specs.InEntry.{WalksInChosen}
use Rattle.mdmp_summary.specs.Walking.{IsSameListing}
use Rattle.mdmp_summary.proofs.Counting.{CountsOn}
use Rattle.mdmp_summary.proofs.Passing.{HasPassed}
use Rattle.mdmp_summary.proofs.walking.visit_all.Given as goal

-- each look so far met a bad entry, and showed the items before its error
abbrev pub invariant-entries : goal.invariant-entries
invariant-entries g l = record {
  same : IsSameListing l.fn.walker.list l.walker.list;
  going : l.walker.list.stop ≡ None;
  walks : WalksInChosen l.walker;
  between : IsBetween l.walker;
  count : l.bad.count ≡ l.counter;
  met : List ListFault;
  bad : l.bad ≡ told_bad met;
  spans : g.V.Visitor.span l.visitor ≡ g.V.Visitor.span l.fn.visitor;
  items : List Item;
  visited : VisitedAll g.V.Visitor.taken (g.V.Visitor.looked l.fn.walker.list.source.store.content l.fn.walker.list.limit) l.fn.visitor items l.visitor;
  outside : RisesOutside (g.V.Visitor.room (g.V.Visitor.span l.fn.visitor)) items l.fn.walker.list.counts.aside l.walker.list.counts.aside;
  named : FetchesNames 1 items l.fn.walker.list.counts.fetched l.walker.list.counts.fetched;
  passed : HasPassed l.fn.walker l.walker;
  counts : (file : List ℕ) → l.fn.walker.list.source.store.content ≡ Some file → CountsOn file l.fn.walker.list.limit l.walker.list met items;
}
