use Rattle.mdmp_lister.specs.Format.Refusal.{opening_fault}
use Rattle.mdmp_engines.specs.Engines.{unless_refused}
use Rattle.mdmp_engines.proofs.BlockLemmas.{Runs-flushed, Tells-flushed}
use Rattle.mdmp_engines.proofs.SameRuns.{through_flushed}
use Rattle.mdmp_engines.proofs.engine.run_in_blocks.Goals as goal

pub returns-clause-runs : goal.returns-clause-runs
returns-clause-runs g c = λ file known.
    let run = c.run_source-answered in
    let flush = c.flushed.ensures in
    Runs-flushed file g.E.Engine.choice (g.E.Engine.Ends c.args.engine file c.args.limits.name) g.E.Engine.pace (unless_refused (opening_fault file g.E.Engine.choice) (g.E.Engine.text c.args.engine file c.args.limits.name))
    c.args.blocks.now.inner run.new.out.inner c.flushed.new.blocks.inner c.args.blocks.now.pending run.new.out.pending c.flushed.new.blocks.pending run.result.answer c.flushed.result.answer c.requires.none
    flush.moved flush.flushed flush.ends run.ensures.tells.out_cause (run.ensures.runs file known)

pub returns-clause-tells : goal.returns-clause-tells
returns-clause-tells g c =
    let run = c.run_source-answered in
    let flush = c.flushed.ensures in
    Tells-flushed g.E.Engine.pace c.args.source.store c.args.source.size c.args.blocks.now.inner run.new.out.inner c.flushed.new.blocks.inner c.args.blocks.now.pending run.new.out.pending c.flushed.new.blocks.pending run.result.answer c.flushed.result.answer c.requires.none
    flush.moved flush.flushed flush.ends run.ensures.tells

pub returns-clause-through : goal.returns-clause-through
returns-clause-through g c =
    let run = c.run_source-answered in
    rw c.flushed.ensures.source
    (through_flushed _ c.args.source run.result.source run.result.answer c.flushed.result.answer run.new.out.inner c.flushed.new.blocks.inner c.flushed.ensures.ends run.ensures.through)
