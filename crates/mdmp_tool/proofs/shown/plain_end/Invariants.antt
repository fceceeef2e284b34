use Rattle.std.proofs.Common.{◌-◌, ◌≤◌}
use Rattle.mdmp_tool.proofs.PlainRuns.{IsPlainRun}
use Rattle.mdmp_tool.proofs.shown.plain_end.Given as goal

-- the bytes so far are told as they are
abbrev pub invariant-loop-end : goal.invariant-loop-end
invariant-loop-end l = record {
  first : l.place ≤ l.end;
  within : l.end ≤ l.most;
  plain : IsPlainRun l.bytes l.place l.end;
}

abbrev pub decreases-loop-end : goal.decreases-loop-end
decreases-loop-end l = l.most - l.end
