use Rattle.std.proofs.Common.{◌∙◌, ap, sym}
use Rattle.mdmp_dump.specs.View.{dump_seen}
use Rattle.mdmp_writer.specs.Layout.{size_answer}
use Rattle.mdmp_writer.proofs.Runs.{fault_of_shape, size_of_shape}
use Rattle.mdmp_writer.proofs.Causes.{handed}
use Rattle.mdmp_writer.proofs.layout.written_size.Goals as goal

pub returns-clause-value : goal.returns-clause-value
returns-clause-value g c d is =
    sym (size_of_shape _ _ c.in_ok-ends.ensures.ends.0 c.in_ok-ends.ensures.ends.1.file) ∙ ap size_answer (g.met.V.DumpView.sound c.args.view.now (dump_seen d) is)

pub returns-in_err-ends-clause-value : goal.returns-in_err-ends-clause-value
returns-in_err-ends-clause-value g c d is =
    rw (handed c.from_residual.result _ c.from_residual.ensures.1) (sym (fault_of_shape _ c.in_err-ends.field-0.0 c.in_err-ends.ensures.ends) ∙ ap size_answer (g.met.V.DumpView.sound c.args.view.now (dump_seen d) is))
