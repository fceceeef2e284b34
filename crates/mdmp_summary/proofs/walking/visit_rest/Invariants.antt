use Rattle.std.proofs.Common.{◌≡◌, None}
use Rattle.mdmp_summary.specs.InEntry.{WalksInChosen}
use Rattle.mdmp_summary.specs.Walking.{IsSameListing}
use Rattle.mdmp_summary.proofs.LeftOn.{LeftBy}
use Rattle.mdmp_summary.proofs.Paying.{HasPaid}
use Rattle.mdmp_summary.proofs.Visited.{HasShown}
use Rattle.mdmp_summary.proofs.walking.visit_rest.Given as goal

-- some items were shown
abbrev pub invariant-loop-item : goal.invariant-loop-item
invariant-loop-item g l = record {
  same : IsSameListing l.initial.walker.list l.walker.list;
  going : l.walker.list.stop ≡ None;
  spans : g.V.Visitor.span l.visitor ≡ g.V.Visitor.span l.initial.visitor;
  shown : HasShown g.V.Visitor.taken g.V.Visitor.looked (g.V.Visitor.room (g.V.Visitor.span l.initial.visitor)) l.initial.walker.list l.initial.visitor l.walker.list l.visitor;
  left : LeftBy l.initial.walker.list.source.store.content l.walker;
  paid : HasPaid l.initial.walker l.walker;
  walks : WalksInChosen l.initial.walker → WalksInChosen l.walker;
}

abbrev pub decreases-loop-item : goal.decreases-loop-item
decreases-loop-item g l = l.walker.list.work
