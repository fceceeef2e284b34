use Rattle.std.proofs.Common.{◌≡◌, ◌∙◌, [], get_or, arith, ap}
use Rattle.mdmp_dump.specs.Shape.{StreamCursor}
use Rattle.mdmp_writer.proofs.Sending.{cut_none, cut_at, puts_piece}
use Rattle.mdmp_writer.proofs.Counting.{some_is, some_then}
use Rattle.mdmp_writer.proofs.Causes.{handed}
use Rattle.mdmp_writer.proofs.pieces.write_part.Goals as goal

pub returns-in_err-at-clause-writes : goal.returns-in_err-at-clause-writes
returns-in_err-at-clause-writes g c ps known len =
    let same : c.fetch.new.self ≡ c.args.gather.now = grind (arith, c.fetch.ensures.held, c.in_err-at.ensures.cases) in
    rw (handed c.from_residual.result _ c.from_residual.ensures.1) (cut_none _ _ _ (get_or ps c.args.which []) same)

pub loop-at-preserved : goal.loop-at-preserved
loop-at-preserved g c =
    let so_far = c.loop-at.invariant in
    let more = c.in_ok-at-2.ensures in
    record {
      cursor = more.bound.2 ∙ so_far.cursor;
      within = omega (arith, more.bound);
      uses = record {
        shape = more.uses.shape ∙ so_far.uses.shape;
        cause = more.uses.cause ∙ so_far.uses.cause;
        passed = omega (arith, so_far.uses.passed, more.uses.passed);
        asked = omega (arith, so_far.uses.asked, more.asked);
        told = tt;
      };
      moves = g.met.V.DumpView.follows _ _ _ so_far.moves more.moves;
      puts = λ ps known. puts_piece _ _ _ (get_or ps c.args.which []) c.loop-at.at c.in_ok-at-2.field-0 (so_far.puts ps known)
          (more.puts ps (ap (λ (k : StreamCursor). k.parts) so_far.cursor ∙ known));
      some = some_then _ _ _ c.loop-at.at c.in_ok-at-2.field-0 so_far.some more.some;
    }

pub returns-in_err-at-2-clause-writes : goal.returns-in_err-at-2-clause-writes
returns-in_err-at-2-clause-writes g c ps known len =
    rw (handed c.from_residual-in_err-at-2.result _ c.from_residual-in_err-at-2.ensures.1) (cut_at _ _ _ (get_or ps c.args.which []) c.loop-at.at (c.loop-at.invariant.puts ps known) c.in_err-at-2.ensures.puts)

pub returns-in_err-at-2-clause-moves : goal.returns-in_err-at-2-clause-moves
returns-in_err-at-2-clause-moves g c = g.met.V.DumpView.follows _ _ _ c.loop-at.invariant.moves c.in_err-at-2.ensures.moves

pub returns-clause-some : goal.returns-clause-some
returns-clause-some g c = some_is _ _ c.loop-at.at c.args.size (omega (arith, c.loop-at.invariant.within, c.loop-at-test.false)) c.loop-at.invariant.some
