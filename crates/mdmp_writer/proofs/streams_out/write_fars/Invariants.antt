use Rattle.std.proofs.Common.{◌≡◌, drop, Ok, Some}
use Rattle.mdmp_dump.specs.View.{DumpSeen}
use Rattle.mdmp_writer.specs.Gather.{gathered, IsLeft}
use Rattle.mdmp_writer.specs.Layout.{fars_size}
use Rattle.mdmp_writer.specs.Passes.{far_asks, far_passes, sum_below}
use Rattle.mdmp_writer.specs.Uses.{Uses, used}
use Rattle.mdmp_writer.specs.Written.{far_texts}
use Rattle.mdmp_writer.proofs.Counting.{IsToCome}
use Rattle.mdmp_writer.proofs.streams_out.write_fars.Given as goal

abbrev pub invariant-loop-stream : goal.invariant-loop-stream
invariant-loop-stream g l = record {
  uses : Uses {T = Unit {0}} (Ok tt) (used (g.V.DumpView.shape l.fn.view) (g.V.DumpView.spent l.fn.view) (g.O.Out.state l.fn.out))
      (sum_below (far_passes (g.V.DumpView.shape l.fn.view)) l.stream) (sum_below (far_asks (g.V.DumpView.shape l.fn.view)) l.stream) (used (g.V.DumpView.shape l.view) (g.V.DumpView.spent l.view) (g.O.Out.state l.out));
  moves : g.V.DumpView.Moves l.fn.view l.view;
  come : IsToCome (gathered (g.O.Out.state l.fn.out) l.fn.gather) (fars_size (g.V.DumpView.shape l.fn.view).streams) (fars_size (drop l.stream (g.V.DumpView.shape l.fn.view).streams)) (gathered (g.O.Out.state l.out) l.gather);
  left : (x : DumpSeen) → (g.V.DumpView.shape l.fn.view).seen ≡ Some x
      → IsLeft (gathered (g.O.Out.state l.fn.out) l.fn.gather) (far_texts x.streams) (gathered (g.O.Out.state l.out) l.gather) (far_texts (drop l.stream x.streams));
}
