use Rattle.std.proofs.Common.{◌+◌, ◌≤◌, ℕ, arith}
use Rattle.mdmp_writer.specs.Gather.{HoldsMore, gathered}
use Rattle.mdmp_writer.specs.Uses.{used}
use Rattle.mdmp_writer.proofs.Causes.{ok_passed, uses_none, uses_passed, uses_sent}
use Rattle.mdmp_writer.proofs.Counting.{some_behind, some_held}
use Rattle.mdmp_writer.proofs.pieces.fetch_more.Goals as goal

pub returns-clause-some : goal.returns-clause-some
returns-clause-some g c =
    let state = g.O.Out.state in
    let then = λ (k : ℕ) (more : HoldsMore k c.flush.new.self c.fetch.new.self).
    some_behind (gathered (state c.args.out.now) c.args.gather.now) (gathered (state c.flush.new.out) c.flush.new.self) (gathered (state c.flush.new.out) c.fetch.new.self) k
    c.flush.ensures.puts (some_held (state c.flush.new.out).taken k c.flush.new.self c.fetch.new.self more) in
    ok_passed c.fetch.result c.map_err.result c.map_err.ensures.cases then c.fetch.ensures.more

pub returns-clause-uses : goal.returns-clause-uses
returns-clause-uses g c =
    let asked : (g.V.DumpView.spent c.fetch.new.view).asked ≤ (g.V.DumpView.spent c.args.view.now).asked + c.args.most = grind (arith, c.fetch.ensures.asked, c.fetch.ensures.bound) in
    let sent = uses_sent {o = g.O.Out.state c.flush.new.out} (uses_none {a = used (g.V.DumpView.shape c.args.view.now) (g.V.DumpView.spent c.args.view.now) (g.O.Out.state c.args.out.now)}) c.in_ok-flush.ensures.cause in
    uses_passed c.fetch.result c.map_err.result c.map_err.ensures.cases sent c.fetch.ensures.shape c.fetch.ensures.reliable (omega (arith, c.fetch.ensures.passed))
    asked c.fetch.ensures.told
