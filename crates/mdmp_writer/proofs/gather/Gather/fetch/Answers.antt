use Rattle.std.proofs.Common.{arith}
use Rattle.mdmp_writer.proofs.Counting.{more_held}
use Rattle.mdmp_writer.proofs.gather.Gather.fetch.Goals as goal

pub returns-clause-more : goal.returns-clause-more
returns-clause-more g c =
    let held = c.in_ok-fetch_behind.ensures.held in
    let inside = c.self.inside in
    rw (← c.self.view_is) (more_held inside.buffer.now c.fetch_behind.new.buffer inside.held c.min-count.result held.0 held.1 (omega (arith, c.min-count.ensures, c.self.invariant)))
