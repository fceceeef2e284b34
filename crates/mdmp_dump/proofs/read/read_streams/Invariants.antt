use Rattle.mdmp_dump.proofs.Walked.{StreamsRead, entries_left}
use Rattle.mdmp_dump.proofs.read.read_streams.Given as goal

abbrev pub invariant-loop-next : goal.invariant-loop-next
invariant-loop-next g l = StreamsRead l.fn.reader l.streams.items l.next l.reader

abbrev pub decreases-loop-next : goal.decreases-loop-next
decreases-loop-next g l = entries_left l.next l.reader.lister
