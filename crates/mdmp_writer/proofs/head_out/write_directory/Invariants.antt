use Rattle.std.proofs.Common.{◌≡◌, ◌+◌, drop}
use Rattle.mdmp_writer.specs.Gather.{gathered, IsLeft}
use Rattle.mdmp_writer.specs.Layout.{blocks_end, blocks_size}
use Rattle.mdmp_writer.specs.Written.{directory}
use Rattle.mdmp_writer.proofs.head_out.write_directory.Given as goal

abbrev pub invariant-loop-stream : goal.invariant-loop-stream
invariant-loop-stream g l = record {
  shape : g.V.DumpView.shape l.view ≡ g.V.DumpView.shape l.fn.view;
  spent : g.V.DumpView.spent l.view ≡ g.V.DumpView.spent l.fn.view;
  moves : g.V.DumpView.Moves l.fn.view l.view;
  steady : (g.O.Out.state l.out).failures ≡ (g.O.Out.state l.fn.out).failures;
  at : l.at + blocks_size (drop l.stream (g.V.DumpView.shape l.fn.view).streams) ≡ blocks_end (g.V.DumpView.shape l.fn.view).streams;
  left : IsLeft (gathered (g.O.Out.state l.fn.out) l.fn.gather) (directory (g.V.DumpView.shape l.fn.view).streams l.first) (gathered (g.O.Out.state l.out) l.gather)
      (directory (drop l.stream (g.V.DumpView.shape l.fn.view).streams) l.at);
}
