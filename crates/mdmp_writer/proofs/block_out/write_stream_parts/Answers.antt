use Rattle.std.proofs.Common.{◌≡◌, ◌∙◌, List, ℕ, arith, subst, sym}
use Rattle.mdmp_dump.specs.Shape.{room_of, stream_at}
use Rattle.mdmp_writer.specs.Gather.{Gathers, gathered}
use Rattle.mdmp_writer.proofs.Causes.{uses_none, uses_within}
use Rattle.mdmp_writer.proofs.Counting.{some_is, some_none}
use Rattle.mdmp_writer.proofs.Passing.{near_asks, near_passes, no_second}
use Rattle.mdmp_writer.proofs.Sending.{puts_nothing}
use Rattle.mdmp_writer.proofs.block_out.write_stream_parts.Goals as goal

pub returns-then-parts-eq0-clause-writes : goal.returns-then-parts-eq0-clause-writes
returns-then-parts-eq0-clause-writes g c x known =
    let s = g.V.DumpView.shape c.args.view.now in
    let k = c.args.stream in
    let before = gathered (g.O.Out.state c.args.out.now) c.args.gather.now in
    let none : room_of (stream_at s k) ≡ 0 = sym c.requires.parts ∙ c.if-parts-eq0.true in
    subst (λ (t : List ℕ). Gathers before t before)
    (sym (no_second s x k (g.met.V.DumpView.sound c.args.view.now x known) (g.met.V.DumpView.kinds c.args.view.now x k known) none)) (puts_nothing before)

pub returns-then-parts-eq0-clause-some : goal.returns-then-parts-eq0-clause-some
returns-then-parts-eq0-clause-some g c =
    let s = stream_at (g.V.DumpView.shape c.args.view.now) c.args.stream in
    let none : room_of s ≡ 0 = sym c.requires.parts ∙ c.if-parts-eq0.true in
    some_is _ _ 0 (room_of s) (sym none) (some_none _)

pub returns-clause-uses : goal.returns-clause-uses
returns-clause-uses g c =
    let s = g.V.DumpView.shape c.args.view.now in
    let k = c.args.stream in
    let some = λ (none : room_of (stream_at s k) ≡ 0). c.if-parts-eq0.false (c.requires.parts ∙ none) in
    uses_within c.write_second_pass.ensures.uses (omega (arith, near_passes s k some)) (omega (arith, near_asks s k some))

pub returns-then-parts-eq0-clause-uses : goal.returns-then-parts-eq0-clause-uses
returns-then-parts-eq0-clause-uses g c = uses_within uses_none (omega arith) (omega arith)
