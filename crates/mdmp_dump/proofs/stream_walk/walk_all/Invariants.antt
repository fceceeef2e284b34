use Rattle.std.proofs.Common.{◌≡◌}
use Rattle.std.specs.Prelude.{vec_capacity}
use Rattle.mdmp_dump.proofs.WalkedOver.{AreSummed, AreWalking}
use Rattle.mdmp_dump.proofs.stream_walk.walk_all.Given as goal

abbrev pub invariant-loop-stream : goal.invariant-loop-stream
invariant-loop-stream g l = record {
  walking : AreWalking g.row.A.Denot l.fn.limit l.fn.walk l.walk l.counts.items l.rooms.items l.stream;
  summed : AreSummed g.row.A.Denot l.fn.budget l.fn.walk l.walk l.counts.items l.stream l.costs l.asks;
  room : (vec_capacity l.counts ≡ l.fn.walk.header.number_of_streams) × (vec_capacity l.rooms ≡ l.fn.walk.header.number_of_streams);
}
