use Rattle.mdmp_engines.proofs.Besides.{source_is}
use Rattle.mdmp_engines.proofs.Dropping.{drops_copied}
use Rattle.mdmp_engines.proofs.copy.run_copy.Goals as goal

pub returns-clause-dropped : goal.returns-clause-dropped
returns-clause-dropped g c =
    let of = c.copy_source-answer.ensures in
    let new = c.new.ensures in
    drops_copied _ _ _ _ _ _ _ _ (source_is c.new.result _ new.store new.size new.counts.0 new.counts.1 new.fault) c.let_go.ensures of.reads of.unread of.spends of.within
