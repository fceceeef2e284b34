use Rattle.std.proofs.Common.{◌≡◌, ◌<◌, ◌+◌, ◌^◌, drop}
use Rattle.mdmp_writer.specs.Layout.{blocks_end, blocks_size, fars_size}
use Rattle.mdmp_writer.proofs.layout.find_ends.Given as goal

abbrev pub invariant-loop-stream : goal.invariant-loop-stream
invariant-loop-stream g l = record {
  shape : g.V.DumpView.shape l.view ≡ g.V.DumpView.shape l.fn.view;
  cursor : g.V.DumpView.cursor l.view ≡ g.V.DumpView.cursor l.fn.view;
  spent : g.V.DumpView.spent l.view ≡ g.V.DumpView.spent l.fn.view;
  moves : g.V.DumpView.Moves l.fn.view l.view;
  low : l.blocks < 2 ^ 32;
  blocks : l.blocks + blocks_size (drop l.stream (g.V.DumpView.shape l.fn.view).streams) ≡ blocks_end (g.V.DumpView.shape l.fn.view).streams;
  far : l.far + fars_size (drop l.stream (g.V.DumpView.shape l.fn.view).streams) ≡ fars_size (g.V.DumpView.shape l.fn.view).streams;
}
