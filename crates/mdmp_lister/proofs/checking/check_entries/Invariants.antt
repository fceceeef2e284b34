use Rattle.std.proofs.Common.{List}
use Rattle.mdmp_lister.specs.declared.item.Item.{Item}
use Rattle.mdmp_lister.specs.declared.verdict.Verdict.{Verdict}
use Rattle.mdmp_lister.specs.Sink.{Taken}
use Rattle.mdmp_lister.specs.Walk.{work_of}
use Rattle.mdmp_lister.proofs.Verdicts.{SoFar}
use Rattle.mdmp_lister.proofs.checking.check_entries.Given as goal

-- some entries were judged, and the sink took the verdicts on them
abbrev pub invariant-loop-entry : goal.invariant-loop-entry
invariant-loop-entry g l = record {
  verdicts : List Verdict;
  items : List Item;
  taken : Taken g.K.VerdictSink.step l.fn.sink verdicts l.sink;
  so_far : SoFar verdicts items l.fn.walk l.fn.map l.walk l.map;
}

abbrev pub decreases-loop-entry : goal.decreases-loop-entry
decreases-loop-entry g l = work_of l.walk
