use Rattle.std.proofs.Common.{◌∙◌, ap, arith, refl}
use Rattle.mdmp_dump.specs.Shape.{ViewShape}
use Rattle.mdmp_writer.specs.Layout.{blocks_size, fars_size}
use Rattle.mdmp_writer.specs.Passes.{all_far_asks, all_far_passes}
use Rattle.mdmp_writer.specs.Written.{blocks, far_texts}
use Rattle.mdmp_writer.proofs.Causes.{handed, uses_then, uses_within}
use Rattle.mdmp_writer.proofs.Counting.{ok_is, ok_then}
use Rattle.mdmp_writer.proofs.Passing.{asks_within, passes_within}
use Rattle.mdmp_writer.proofs.Sending.{cut_before, writes_then}
use Rattle.mdmp_writer.proofs.dump_out.write_streams.Goals as goal

pub returns-clause-writes : goal.returns-clause-writes
returns-clause-writes g c x known all =
    writes_then c.write_fars.result _ _ _ (blocks x.streams c.args.first.at c.args.first.far) (far_texts x.streams) (c.in_ok-write_blocks.ensures.writes x known all)
    (c.write_fars.ensures.writes x (ap (λ (s : ViewShape). s.seen) c.write_blocks.ensures.uses.shape ∙ known))

pub returns-clause-some : goal.returns-clause-some
returns-clause-some g c =
    let ss = (g.V.DumpView.shape c.args.view.now).streams in
    ok_then c.write_fars.result _ _ _ (blocks_size ss) (fars_size ss) _ refl c.in_ok-write_blocks.ensures.some
    (ok_is c.write_fars.result _ _ _ _ (ap (λ (s : ViewShape). fars_size s.streams) c.write_blocks.ensures.uses.shape) c.write_fars.ensures.some)

pub returns-clause-uses : goal.returns-clause-uses
returns-clause-uses g c =
    let s = g.V.DumpView.shape c.args.view.now in
    let same = c.write_blocks.ensures.uses.shape in
    uses_then c.in_ok-write_blocks.ensures.uses c.write_fars.ensures.uses
    (omega (arith, ap (λ (t : ViewShape). all_far_passes t) same, passes_within s)) (omega (arith, ap (λ (t : ViewShape). all_far_asks t) same, asks_within s))

pub returns-in_err-write_blocks-clause-uses : goal.returns-in_err-write_blocks-clause-uses
returns-in_err-write_blocks-clause-uses g c =
    let s = g.V.DumpView.shape c.args.view.now in
    rw (handed c.from_residual.result _ c.from_residual.ensures.1) (uses_within c.in_err-write_blocks.ensures.uses (omega (arith, passes_within s)) (omega (arith, asks_within s)))

pub returns-clause-moves : goal.returns-clause-moves
returns-clause-moves g c = g.met.V.DumpView.follows _ _ _ c.in_ok-write_blocks.ensures.moves c.write_fars.ensures.moves

pub returns-in_err-write_blocks-clause-writes : goal.returns-in_err-write_blocks-clause-writes
returns-in_err-write_blocks-clause-writes g c x known all =
    rw (handed c.from_residual.result _ c.from_residual.ensures.1) (cut_before _ _ (blocks x.streams c.args.first.at c.args.first.far) (far_texts x.streams) (c.in_err-write_blocks.ensures.writes x known all))
