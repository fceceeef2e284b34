use Rattle.std.proofs.Common.{◌≡◌, ◌+◌, drop, Ok, Some}
use Rattle.mdmp_dump.specs.View.{DumpSeen}
use Rattle.mdmp_writer.specs.Block.{AllAreKnown}
use Rattle.mdmp_writer.specs.Gather.{gathered, IsLeft}
use Rattle.mdmp_writer.specs.Layout.{blocks_end, blocks_size, fars_size, file_size}
use Rattle.mdmp_writer.specs.Passes.{block_asks, block_passes, sum_below}
use Rattle.mdmp_writer.specs.Uses.{Uses, used}
use Rattle.mdmp_writer.specs.Written.{blocks}
use Rattle.mdmp_writer.proofs.Counting.{IsToCome}
use Rattle.mdmp_writer.proofs.streams_out.write_blocks.Given as goal

abbrev pub invariant-loop-stream : goal.invariant-loop-stream
invariant-loop-stream g l = record {
  uses : Uses {T = Unit {0}} (Ok tt) (used (g.V.DumpView.shape l.fn.view) (g.V.DumpView.spent l.fn.view) (g.O.Out.state l.fn.out))
      (sum_below (block_passes (g.V.DumpView.shape l.fn.view)) l.stream) (sum_below (block_asks (g.V.DumpView.shape l.fn.view)) l.stream) (used (g.V.DumpView.shape l.view) (g.V.DumpView.spent l.view) (g.O.Out.state l.out));
  moves : g.V.DumpView.Moves l.fn.view l.view;
  at : l.at + blocks_size (drop l.stream (g.V.DumpView.shape l.fn.view).streams) ≡ blocks_end (g.V.DumpView.shape l.fn.view).streams;
  far : l.far + fars_size (drop l.stream (g.V.DumpView.shape l.fn.view).streams) ≡ file_size (g.V.DumpView.shape l.fn.view).streams;
  come : IsToCome (gathered (g.O.Out.state l.fn.out) l.fn.gather) (blocks_size (g.V.DumpView.shape l.fn.view).streams) (blocks_size (drop l.stream (g.V.DumpView.shape l.fn.view).streams)) (gathered (g.O.Out.state l.out) l.gather);
  left : (x : DumpSeen) → (g.V.DumpView.shape l.fn.view).seen ≡ Some x → AllAreKnown x
      → IsLeft (gathered (g.O.Out.state l.fn.out) l.fn.gather) (blocks x.streams l.fn.first.at l.fn.first.far) (gathered (g.O.Out.state l.out) l.gather) (blocks (drop l.stream x.streams) l.at l.far);
}
