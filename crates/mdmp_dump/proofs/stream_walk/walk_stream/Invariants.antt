use Rattle.mdmp_dump.proofs.WalkedOver.{IsWalking}
use Rattle.mdmp_dump.proofs.stream_walk.walk_stream.Given as goal

abbrev pub invariant-loop-index : goal.invariant-loop-index
invariant-loop-index g l = IsWalking g.row.A.Denot l.fn.limit l.fn.walk l.fn.stream l.count l.walk l.index l.room l.asks
