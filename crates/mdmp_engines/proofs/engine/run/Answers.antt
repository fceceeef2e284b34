use Rattle.mdmp_engines.proofs.Besides.{source_is}
use Rattle.mdmp_engines.proofs.Dropping.{drops_store}
use Rattle.mdmp_engines.proofs.SameRuns.{may_reach, may_reach_aside, may_reach_memory}
use Rattle.mdmp_engines.proofs.engine.run.Goals as goal

pub returns-clause-runs : goal.returns-clause-runs
returns-clause-runs g c = λ file known. c.run_source-answer.ensures.runs file (rw c.new.ensures.store known)

pub returns-clause-limits : goal.returns-clause-limits
returns-clause-limits g c =
    let of = c.run_source-answer.ensures in
    record {
      budget = rw (c.new.ensures.size, c.new.ensures.store) at (may_reach _ c.new.result _ _ of.reads.fetches.fetches.same_size of.through);
      memory = may_reach_memory _ c.new.result _ _ of.through;
      aside = rw (c.new.ensures.size, c.new.ensures.store) at (may_reach_aside _ c.new.result _ _ of.reads.fetches.fetches.same_size of.through);
    }

pub returns-clause-read : goal.returns-clause-read
returns-clause-read g c =
    let of = c.run_source-answer.ensures in
    let new = c.new.ensures in
    drops_store _ _ _ c.new.result _ _ (source_is c.new.result _ new.store new.size new.counts.0 new.counts.1 new.fault) c.let_go.ensures of.reads of.through
