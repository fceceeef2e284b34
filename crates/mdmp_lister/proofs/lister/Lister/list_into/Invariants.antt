use Rattle.std.proofs.Common.{◌≡◌, ◌≤◌, Option, Some, None}
use Rattle.mdmp_lister.specs.declared.fault.ListFault.{ListFault}
use Rattle.mdmp_lister.specs.Lister.{IsSameLister}
use Rattle.mdmp_lister.proofs.Handing.{HasGiven}
use Rattle.mdmp_lister.proofs.lister.Lister.list_into.Given as goal

-- some items were given, and the sink took them
abbrev pub invariant-loop-item : goal.invariant-loop-item
invariant-loop-item g l = record {
  same : IsSameLister l.initial.self l.self;
  going : l.initial.self.stop ≡ None → l.self.stop ≡ None;
  stays : (stop : Option ListFault) → l.initial.self.stop ≡ Some stop → (l.self ≡ l.initial.self) × (l.sink ≡ l.initial.sink);
  rests : l.self.work ≤ l.initial.self.work;
  given : HasGiven g.K.Sink.step l.initial.self l.initial.sink l.self l.sink;
}

abbrev pub decreases-loop-item : goal.decreases-loop-item
decreases-loop-item g l = l.self.work
