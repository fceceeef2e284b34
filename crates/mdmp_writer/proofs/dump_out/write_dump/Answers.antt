use Rattle.std.proofs.Common.{◌≡◌, ◌∙◌, ap, refl, subst, Some, Err, true, arith}
use Rattle.mdmp_dump.specs.View.{dump_seen}
use Rattle.mdmp_dump.specs.Shape.{Spent, ViewShape}
use Rattle.mdmp_writer.specs.Gather.{Gathers, GathersPrefix, gathered}
use Rattle.mdmp_writer.specs.Layout.{file_size, size_or}
use Rattle.mdmp_writer.specs.Written.{written}
use Rattle.mdmp_writer.proofs.Blocks.{dump_records_known}
use Rattle.mdmp_writer.proofs.Causes.{cause_of_output, handed}
use Rattle.mdmp_writer.proofs.Counting.{dump_out}
use Rattle.mdmp_writer.proofs.Runs.{all_of_dump, all_out, cut_of_dump, cut_out, fault_of_dump, size_of_shape, stopped}
use Rattle.mdmp_writer.proofs.Sending.{puts_all, puts_flush}
use Rattle.mdmp_writer.specs.Passes.{all_asks, all_passes}
use Rattle.mdmp_writer.proofs.dump_out.write_dump.Goals as goal

pub returns-in-Err-clause-writes : goal.returns-in-Err-clause-writes
returns-in-Err-clause-writes g c d is = fault_of_dump d _ _ (g.met.V.DumpView.sound c.args.view.now (dump_seen d) is) c.in-Err.ensures.ends

pub returns-clause-ends : goal.returns-clause-ends
returns-clause-ends g c = (size_of_shape _ _ c.in-Ok.ensures.ends.0 c.in-Ok.ensures.ends.1.file, c.in_ok-flush.ensures.cause ∙ c.in_ok-write_gathered.ensures.uses.cause)

pub returns-clause-writes : goal.returns-clause-writes
returns-clause-writes g c d is =
    let here : (g.V.DumpView.shape c.layout.new.view).seen ≡ Some (dump_seen d) = ap (λ (t : ViewShape). t.seen) c.layout.ensures.shape ∙ is in
    let put = subst (λ h. Gathers (gathered (g.O.Out.state c.args.out.now) h) (written d) (gathered (g.O.Out.state c.write_gathered.new.out) c.write_gathered.new.gather)) c.new-gather.ensures (c.in_ok-write_gathered.ensures.writes (dump_seen d) here (dump_records_known d)) in
    all_of_dump d _ _ (g.O.Out.state c.args.out.now) (g.O.Out.state c.flush.new.out) (g.met.V.DumpView.sound c.args.view.now (dump_seen d) is) c.in-Ok.ensures.ends.0 c.in-Ok.ensures.ends.1.file
    (all_out (g.O.Out.state c.args.out.now) (g.O.Out.state c.flush.new.out) _ c.flush.new.self (written d) c.in_ok-flush.ensures.empties put c.in_ok-flush.ensures.puts)

pub returns-in_err-flush-clause-ends : goal.returns-in_err-flush-clause-ends
returns-in_err-flush-clause-ends g c =
    rw (handed c.from_residual-in_err-flush.result _ c.from_residual-in_err-flush.ensures.1) (stopped (g.V.DumpView.shape c.args.view.now) c.in_err-flush.field-0.0 (g.O.Out.state c.args.out.now) (g.O.Out.state c.write_gathered.new.out) (g.O.Out.state c.flush.new.out) _ c.in-Ok.ensures.ends.0 refl c.in_ok-write_gathered.ensures.uses.cause (cause_of_output {T = Unit {0}} (Err c.in_err-flush.field-0.0) _ _ (g.V.DumpView.shape c.args.view.now).is_reliable c.in_err-flush.ensures.cause))

pub returns-in_err-flush-clause-writes : goal.returns-in_err-flush-clause-writes
returns-in_err-flush-clause-writes g c d is =
    let here : (g.V.DumpView.shape c.layout.new.view).seen ≡ Some (dump_seen d) = ap (λ (t : ViewShape). t.seen) c.layout.ensures.shape ∙ is in
    let put = subst (λ h. Gathers (gathered (g.O.Out.state c.args.out.now) h) (written d) (gathered (g.O.Out.state c.write_gathered.new.out) c.write_gathered.new.gather)) c.new-gather.ensures (c.in_ok-write_gathered.ensures.writes (dump_seen d) here (dump_records_known d)) in
    rw (handed c.from_residual-in_err-flush.result _ c.from_residual-in_err-flush.ensures.1) (cut_of_dump d _ c.in_err-flush.field-0.0 (g.O.Out.state c.args.out.now) (g.O.Out.state c.write_gathered.new.out) (g.O.Out.state c.flush.new.out) true (g.met.V.DumpView.sound c.args.view.now (dump_seen d) is) c.in-Ok.ensures.ends.0 (cause_of_output {T = Unit {0}} (Err c.in_err-flush.field-0.0) _ _ true c.in_err-flush.ensures.cause)
    (cut_out (g.O.Out.state c.args.out.now) (gathered (g.O.Out.state c.flush.new.out) c.flush.new.self) (written d) (puts_all _ _ (written d) (puts_flush _ _ _ (written d) put c.in_err-flush.ensures.puts))))

pub returns-in_err-write_gathered-clause-writes : goal.returns-in_err-write_gathered-clause-writes
returns-in_err-write_gathered-clause-writes g c d is =
    let here : (g.V.DumpView.shape c.layout.new.view).seen ≡ Some (dump_seen d) = ap (λ (t : ViewShape). t.seen) c.layout.ensures.shape ∙ is in
    let cut = subst (λ h. GathersPrefix (gathered (g.O.Out.state c.args.out.now) h) (written d) (gathered (g.O.Out.state c.write_gathered.new.out) c.write_gathered.new.gather)) c.new-gather.ensures (c.in_err-write_gathered.ensures.writes (dump_seen d) here (dump_records_known d)) in
    rw (handed c.from_residual.result _ c.from_residual.ensures.1) (cut_of_dump d _ c.in_err-write_gathered.field-0.0 (g.O.Out.state c.args.out.now) (g.O.Out.state c.args.out.now) (g.O.Out.state c.write_gathered.new.out) (g.V.DumpView.shape c.layout.new.view).is_reliable (g.met.V.DumpView.sound c.args.view.now (dump_seen d) is) c.in-Ok.ensures.ends.0 c.in_err-write_gathered.ensures.uses.cause
    (cut_out (g.O.Out.state c.args.out.now) (gathered (g.O.Out.state c.write_gathered.new.out) c.write_gathered.new.gather) (written d) cut))

pub returns-clause-out : goal.returns-clause-out
returns-clause-out g c =
    let state = g.O.Out.state in
    let old = g.V.DumpView.shape c.args.view.now in
    let put = rw (c.layout.ensures.shape, c.new-gather.ensures) at c.in_ok-write_gathered.ensures.out in
    dump_out old c.in-Ok.ends.file (state c.args.out.now) (state c.write_gathered.new.out) (state c.flush.new.out) c.write_gathered.new.gather c.flush.new.self c.in-Ok.ensures.ends.1.file
    put c.in_ok-flush.ensures.puts c.in_ok-flush.ensures.empties

pub returns-in-Err-clause-ends : goal.returns-in-Err-clause-ends
returns-in-Err-clause-ends g c = (ap (size_or (file_size (g.V.DumpView.shape c.args.view.now).streams)) c.in-Err.ensures.ends, refl)

pub returns-clause-shape : goal.returns-clause-shape
returns-clause-shape g c = c.in_ok-write_gathered.ensures.uses.shape ∙ c.layout.ensures.shape

pub returns-clause-passed : goal.returns-clause-passed
returns-clause-passed g c =
    omega (arith, c.in_ok-write_gathered.ensures.uses.passed, ap (λ (q : Spent). q.passed) c.layout.ensures.spent, ap (λ (t : ViewShape). all_passes t) c.layout.ensures.shape)

pub returns-clause-asked : goal.returns-clause-asked
returns-clause-asked g c =
    omega (arith, c.in_ok-write_gathered.ensures.uses.asked, ap (λ (q : Spent). q.asked) c.layout.ensures.spent, ap (λ (t : ViewShape). all_asks t) c.layout.ensures.shape)

pub returns-clause-moves : goal.returns-clause-moves
returns-clause-moves g c = g.met.V.DumpView.follows _ _ _ c.layout.ensures.moves c.in_ok-write_gathered.ensures.moves

pub returns-in_err-flush-clause-shape : goal.returns-in_err-flush-clause-shape
returns-in_err-flush-clause-shape g c = c.in_ok-write_gathered.ensures.uses.shape ∙ c.layout.ensures.shape

pub returns-in_err-flush-clause-passed : goal.returns-in_err-flush-clause-passed
returns-in_err-flush-clause-passed g c =
    omega (arith, c.in_ok-write_gathered.ensures.uses.passed, ap (λ (q : Spent). q.passed) c.layout.ensures.spent, ap (λ (t : ViewShape). all_passes t) c.layout.ensures.shape)

pub returns-in_err-flush-clause-asked : goal.returns-in_err-flush-clause-asked
returns-in_err-flush-clause-asked g c =
    omega (arith, c.in_ok-write_gathered.ensures.uses.asked, ap (λ (q : Spent). q.asked) c.layout.ensures.spent, ap (λ (t : ViewShape). all_asks t) c.layout.ensures.shape)

pub returns-in_err-flush-clause-moves : goal.returns-in_err-flush-clause-moves
returns-in_err-flush-clause-moves g c = g.met.V.DumpView.follows _ _ _ c.layout.ensures.moves c.in_ok-write_gathered.ensures.moves

pub returns-in_err-write_gathered-clause-shape : goal.returns-in_err-write_gathered-clause-shape
returns-in_err-write_gathered-clause-shape g c = c.in_err-write_gathered.ensures.uses.shape ∙ c.layout.ensures.shape

pub returns-in_err-write_gathered-clause-passed : goal.returns-in_err-write_gathered-clause-passed
returns-in_err-write_gathered-clause-passed g c =
    omega (arith, c.in_err-write_gathered.ensures.uses.passed, ap (λ (q : Spent). q.passed) c.layout.ensures.spent, ap (λ (t : ViewShape). all_passes t) c.layout.ensures.shape)

pub returns-in_err-write_gathered-clause-asked : goal.returns-in_err-write_gathered-clause-asked
returns-in_err-write_gathered-clause-asked g c =
    omega (arith, c.in_err-write_gathered.ensures.uses.asked, ap (λ (q : Spent). q.asked) c.layout.ensures.spent, ap (λ (t : ViewShape). all_asks t) c.layout.ensures.shape)

pub returns-in_err-write_gathered-clause-moves : goal.returns-in_err-write_gathered-clause-moves
returns-in_err-write_gathered-clause-moves g c = g.met.V.DumpView.follows _ _ _ c.layout.ensures.moves c.in_err-write_gathered.ensures.moves

pub returns-in-Err-clause-passed : goal.returns-in-Err-clause-passed
returns-in-Err-clause-passed g c = omega (arith, ap (λ (q : Spent). q.passed) c.layout.ensures.spent)

pub returns-in-Err-clause-asked : goal.returns-in-Err-clause-asked
returns-in-Err-clause-asked g c = omega (arith, ap (λ (q : Spent). q.asked) c.layout.ensures.spent)

pub returns-in_err-write_gathered-clause-ends : goal.returns-in_err-write_gathered-clause-ends
returns-in_err-write_gathered-clause-ends g c =
    let old = g.V.DumpView.shape c.args.view.now in
    rw (handed c.from_residual.result _ c.from_residual.ensures.1) (stopped old c.in_err-write_gathered.field-0.0 (g.O.Out.state c.args.out.now) (g.O.Out.state c.args.out.now) (g.O.Out.state c.write_gathered.new.out) _ c.in-Ok.ensures.ends.0 (ap (λ (t : ViewShape). t.is_reliable) c.layout.ensures.shape) refl c.in_err-write_gathered.ensures.uses.cause)
