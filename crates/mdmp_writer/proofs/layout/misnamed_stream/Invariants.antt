use Rattle.std.proofs.Common.{◌≡◌, drop}
use Rattle.mdmp_writer.specs.Layout.{first_misnamed}
use Rattle.mdmp_writer.proofs.layout.misnamed_stream.Given as goal

abbrev pub invariant-loop-stream : goal.invariant-loop-stream
invariant-loop-stream g l = record {
  shape : g.V.DumpView.shape l.view ≡ g.V.DumpView.shape l.fn.view;
  cursor : g.V.DumpView.cursor l.view ≡ g.V.DumpView.cursor l.fn.view;
  spent : g.V.DumpView.spent l.view ≡ g.V.DumpView.spent l.fn.view;
  moves : g.V.DumpView.Moves l.fn.view l.view;
  first : first_misnamed l.stream (drop l.stream (g.V.DumpView.shape l.fn.view).streams) ≡ first_misnamed 0 (g.V.DumpView.shape l.fn.view).streams;
}
