use Rattle.mdmp_engines.proofs.ObjectBlocks.{answer_flushed, leaves_flushed, out_flushed, reads_flushed}
use Rattle.mdmp_engines.proofs.summary_json.print_gathered.Goals as goal

pub returns-clause-prints : goal.returns-clause-prints
returns-clause-prints g c = λ bytes known.
    let run = c.print_named-answer in
    let flush = c.flush_after.ensures in
    answer_flushed _ _ c.args.blocks.now.inner run.new.out.inner c.flush_after.new.blocks.inner c.args.blocks.now.pending run.new.out.pending c.flush_after.new.blocks.pending run.result c.flush_after.result
    c.requires.none flush.moved flush.flushed flush.ends run.ensures.out_cause (run.ensures.prints bytes known)

pub returns-clause-leaves : goal.returns-clause-leaves
returns-clause-leaves g c =
    let run = c.print_named-answer in
    leaves_flushed _ _ _ run.new.out.inner c.flush_after.new.blocks.inner run.result c.flush_after.result c.flush_after.ensures.ends run.ensures.leaves

pub returns-clause-out_cause : goal.returns-clause-out_cause
returns-clause-out_cause g c =
    let run = c.print_named-answer in
    out_flushed c.args.blocks.now.inner run.new.out.inner c.flush_after.new.blocks.inner c.args.blocks.now.pending run.new.out.pending run.result c.flush_after.result c.flush_after.ensures.ends run.ensures.out_cause

pub returns-clause-reads : goal.returns-clause-reads
returns-clause-reads g c =
    let run = c.print_named-answer in
    reads_flushed _ _ _ _ run.new.out.inner c.flush_after.new.blocks.inner run.result c.flush_after.result c.flush_after.ensures.ends run.ensures.reads
