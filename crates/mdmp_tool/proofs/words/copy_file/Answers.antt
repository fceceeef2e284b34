use Rattle.std.proofs.Common.{◌∙◌, ap, refl, rules, sym}
use Rattle.mdmp_tool.proofs.CopyEnds.{copy_ends}
use Rattle.mdmp_engines.specs.Copying.{first_not_copied}
use Rattle.mdmp_tool.specs.Words.{refused}
use Rattle.mdmp_tool.proofs.words.copy_file.Goals as goal

pub returns-in-Some : goal.returns-in-Some
returns-in-Some g c = λ out. refused c.in-Some.stream_type (search rules) refl (record { own = c.report.ensures.0; quiet = refl; told = c.report.ensures.1 })

pub returns : goal.returns
returns g c = λ out.
    copy_ends g.row.A.Denot c.args.types c.args.limits c.args.file.now c.args.target.now (g.D.Disk.state c.args.disk.now) (g.D.Disk.state c.open.new.self)
    (g.D.Disk.state c.create_new.new.self) (g.D.Disk.state c.close.new.self) c.new.result c.copy_and_report-status.result.source (g.D.Made.Out.state c.in-Ok-create_new.copy)
    (g.D.Made.Out.state c.copy_and_report-status.new.out) out (g.E.Out.state c.args.err.now) (g.E.Out.state c.copy_and_report-status.new.err) c.copy_and_report-status.result.answer
    (ap first_not_copied (sym c.types.ensures) ∙ sym (c.in_default.ensures)) c.in-Ok.ensures.state (search rules) c.in-Ok-create_new.ensures.made
    c.copy_and_report-status.ensures c.close.ensures
